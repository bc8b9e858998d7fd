use Rattle.std.proofs.Common.{sym, ◌∙◌, arith}
use Rattle.memory.specs.WroteLaws.{then, kept}
use Rattle.text.specs.Text.{ascii}
use Rattle.text.specs.AppendedLaws.{leaves_wrote}
use Rattle.report.specs.Entry.{shown}
use Rattle.report.proofs.names.put_byte.Goals as goal
use Rattle.report.proofs.names.put_byte.Goals.{then-is_marked, else-is_marked}

pub returns-then-is_control : goal.returns-then-is_control
unfolding shown ascii
returns-then-is_control c =
    let first = leaves_wrote (omega (arith, c.requires)) c.append.ensures.leaves in
    rw (sym c.is_control.ensures ∙ c.if-is_control.true)
    (then first (leaves_wrote (omega (arith, c.requires, first.place, kept first)) c.append_hex2.ensures.leaves))

pub returns : goal.returns
unfolding shown ascii
returns c =
    elim c.if-is_marked.branch [
      | then-is_marked w ↦
          let first = leaves_wrote (omega (arith, c.requires)) w.append-then-is_marked.ensures.leaves in
          let own = rw w.page-is at c.append-2.ensures.leaves in
          rw (sym c.is_control.ensures ∙ c.if-is_control.false, sym c.is_marked.ensures ∙ w.if-is_marked.true)
          (then first (leaves_wrote (omega (arith, c.requires, first.place, kept first)) own))
      | else-is_marked w ↦
          let own = rw w.page-is at c.append-2.ensures.leaves in
          rw (sym c.is_control.ensures ∙ c.if-is_control.false, sym c.is_marked.ensures ∙ w.if-is_marked.false)
          (leaves_wrote (omega (arith, c.requires)) own)
    ]
