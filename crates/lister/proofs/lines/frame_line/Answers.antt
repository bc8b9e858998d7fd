use Prim.Native.Nat.{◌+◌, ◌≤◌}
use native.Mathlib.Omega.{arith}
use lib.ListN.{length}
use Rattle.text.specs.Text.{ascii, decimal, hex4}
use Rattle.lister.specs.Lines.{frame_line}
use Rattle.text.specs.AppendedLaws.{leaves-whole, leaves_none, fitting-first, fitting_then}
use Rattle.text.specs.DecimalLaws.{decimal_short}
use Rattle.lister.specs.LinesLaws.{length-frame_line}
use Rattle.lister.proofs.lines.frame_line.Goals as goal
use Rattle.std.proofs.Common.{◌∙◌, refl}

pub overflow_add-count : goal.overflow_add-count
overflow_add-count c = omega (arith, decimal_short c.args.len (omega arith))

pub returns-then-room-count : goal.returns-then-room-count
returns-then-room-count c =
    let a = c.args in
    record { same = refl; leaves = leaves_none _ _ (frame_line a.command a.len) (omega (arith, length-frame_line a.command a.len)) }

pub returns : goal.returns
unfolding frame_line ascii
returns c =
    let a = c.args in
    let fit : a.page.now.at + length (frame_line a.command a.len) ≤ length a.page.now.out.now = omega (arith, length-frame_line a.command a.len) in
    let w2 = fitting_then (hex4 a.command) (fitting-first c.append.ensures.leaves) c.append_hex4.ensures.leaves in
    let w3 = fitting_then (ascii " data ") w2 c.append-2.ensures.leaves in
    let w4 = fitting_then (decimal a.len) w3 c.append_decimal.ensures.leaves in
    let whole = fitting_then (ascii "\n") w4 c.append-3.ensures.leaves in
    record {
      same = c.append-3.ensures.same ∙ (c.append_decimal.ensures.same ∙ (c.append-2.ensures.same ∙ (c.append_hex4.ensures.same ∙ c.append.ensures.same)));
      leaves = leaves-whole (whole fit) fit;
    }
