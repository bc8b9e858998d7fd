use Prim.Native.Nat.{◌+◌, ◌≤◌}
use native.Mathlib.Omega.{arith}
use lib.ListN.{length}
use Rattle.text.specs.Text.{ascii, decimal}
use Rattle.text.specs.Places.{places_word}
use Rattle.text.specs.AppendedLaws.{leaves-whole, leaves_none, fitting-first, fitting_then}
use Rattle.text.specs.DecimalLaws.{decimal-below}
use Rattle.text.specs.PlacesLaws.{places_word_short}
use Rattle.lister.specs.Lines.{refused_line}
use Rattle.lister.specs.LinesLaws.{length-refused_line}
use Rattle.lister.proofs.lines.long_line.Goals as goal
use Rattle.std.proofs.Common.{◌∙◌, refl, ℕ, ◌^◌, ◌<◌}
use Rattle.line.specs.declared.Places.{Places}

-- how many digits there may be
short : (number : ℕ) (places : Places) → number < 256 → places.wire.0 < 2 ^ 64 → places.decoded.0 < 2 ^ 64 → length (decimal number) + length (places_word places) ≤ 48
short number places h w d = omega (arith, decimal-below 3 number (omega arith) (omega arith), places_word_short places w d)

pub overflow_add-count : goal.overflow_add-count
overflow_add-count c = let a = c.args in omega (arith, rw c.from-refusal.ensures at c.width.ensures, c.places_width.ensures, short a.number a.places (omega arith) (omega arith) (omega arith))

pub overflow_add-count-2 : goal.overflow_add-count-2
overflow_add-count-2 c = let a = c.args in omega (arith, rw c.from-refusal.ensures at c.width.ensures, c.places_width.ensures, short a.number a.places (omega arith) (omega arith) (omega arith))

pub returns-then-room-count : goal.returns-then-room-count
returns-then-room-count c =
    let a = c.args in
    let few = short a.number a.places (omega arith) (omega arith) (omega arith) in
    record {
      same = refl;
      leaves = leaves_none _ _ (refused_line a.number a.places)
          (omega (arith, few, rw c.from-refusal.ensures at c.width.ensures, c.places_width.ensures, c.room.ensures, c.if-room-count.true, length-refused_line a.number a.places));
    }

pub returns : goal.returns
unfolding refused_line ascii
returns c =
    let a = c.args in
    let few = short a.number a.places (omega arith) (omega arith) (omega arith) in
    let fit : a.page.now.at + length (refused_line a.number a.places) ≤ length a.page.now.out.now =
    omega (arith, few, rw c.from-refusal.ensures at c.width.ensures, c.places_width.ensures, c.room.ensures, c.if-room-count.false, length-refused_line a.number a.places) in
    let w2 = fitting_then (decimal a.number) (fitting-first c.append.ensures.leaves) (rw c.from-refusal.ensures at c.append_decimal.ensures.leaves) in
    let w3 = fitting_then (places_word a.places) w2 c.append_places.ensures.leaves in
    let whole = fitting_then (ascii "\n") w3 c.append-2.ensures.leaves in
    record { same = c.append-2.ensures.same ∙ (c.append_places.ensures.same ∙ (c.append_decimal.ensures.same ∙ c.append.ensures.same)); leaves = leaves-whole (whole fit) fit }
