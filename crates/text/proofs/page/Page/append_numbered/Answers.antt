use Rattle.std.proofs.Common.{◌+◌, ◌≤◌, ◌++◌, length, ◌∙◌, refl, arith, length-append}
use Rattle.text.specs.Text.{decimal}
use Rattle.text.specs.AppendedLaws.{leaves-whole, leaves_none, fitting-first, fitting_then}
use Rattle.text.specs.DecimalLaws.{decimal-some}
use Rattle.text.proofs.page.Page.append_numbered.Goals as goal

pub returns-then-left-width : goal.returns-then-left-width
returns-then-left-width c =
    let a = c.args in
    record {
      same = refl;
      leaves = leaves_none _ _ (a.before.now ++ decimal a.number ++ a.behind.now) (simp length-append (omega (arith, decimal-some a.number)));
    }

pub returns : goal.returns
returns c =
    let a = c.args in
    let digits = fitting_then (decimal a.number) (fitting-first c.append.ensures.leaves) c.append_decimal.ensures.leaves in
    let whole = fitting_then a.behind.now digits c.append-2.ensures.leaves in
    let fit : a.self.now.at + length (a.before.now ++ decimal a.number ++ a.behind.now) ≤ length a.self.now.out.now = simp length-append (omega (arith, decimal-some a.number)) in
    record { same = c.append-2.ensures.same ∙ (c.append_decimal.ensures.same ∙ c.append.ensures.same); leaves = leaves-whole (whole fit) fit }
