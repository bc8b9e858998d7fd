-- Behind the test the line fits, so its three parts are appended whole.
use Rattle.std.proofs.Common.{refl, ◌∙◌, arith, ◌+◌, ◌≤◌, length}
use Rattle.text.specs.Text.{ascii}
use Rattle.lister.specs.Lines.{entry_line}
use Rattle.text.specs.AppendedLaws.{leaves-whole, leaves_none, fitting-first}
use Rattle.text.specs.DecimalLaws.{decimal_short}
use Rattle.lister.specs.LinesLaws.{length-entry_line}
use Rattle.text.specs.NumberedLaws.{fitting-numbered, fitting_word_number}
use Rattle.commands.proofs.entries.entry_line.Goals as goal

pub overflow_add-width : goal.overflow_add-width
overflow_add-width c = omega (arith, decimal_short c.from-low.result (omega arith))

pub overflow_add-width-2 : goal.overflow_add-width-2
overflow_add-width-2 c = omega (arith, decimal_short c.from-low.result (omega arith), decimal_short c.from-high.result (omega arith))

pub returns-then-room-width : goal.returns-then-room-width
returns-then-room-width c =
    let e = c.args.entry in
    let long = length-entry_line e.number c.from-low.result c.from-high.result in
    rw (← c.from-low.ensures, ← c.from-high.ensures)
    (record { same = refl; leaves = leaves_none _ _ (entry_line e.number c.from-low.result c.from-high.result) (omega (arith, long)) })

pub returns : goal.returns
unfolding entry_line ascii
returns c =
    let a = c.args in
    let e = a.entry in
    let low = c.from-low.result in
    let high = c.from-high.result in
    let fit : a.page.now.at + length (entry_line e.number low high) ≤ length a.page.now.out.now = omega (arith, length-entry_line e.number low high) in
    let least = fitting_word_number (ascii " ") low (fitting-first c.append_hex4.ensures.leaves) c.append_numbered.ensures.leaves in
    let whole = fitting-numbered (ascii " ") high (ascii "\n") least c.append_numbered-2.ensures.leaves in
    rw (← c.from-low.ensures, ← c.from-high.ensures)
    (record { same = c.append_numbered-2.ensures.same ∙ (c.append_numbered.ensures.same ∙ c.append_hex4.ensures.same); leaves = leaves-whole (whole fit) fit })
