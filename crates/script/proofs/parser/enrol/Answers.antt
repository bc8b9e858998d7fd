use Rattle.std.proofs.Common.{◌≡◌, refl, sym, ap, ◌∙◌, rules}
use Rattle.std.specs.Result.{is_ok, result_ok}
use Rattle.script.specs.declared.Call.TheVariants.{Bad}
use Rattle.script.specs.Script.{enrol_of}
use Rattle.script.specs.Code.{answered}
use Rattle.script.specs.CallLaws.{table_most_lem}
use Rattle.script.proofs.parser.enrol.Goals as goal

pub returns-in_err-node : goal.returns-in_err-node
unfolding enrol_of
returns-in_err-node c =
    let told : answered c.from_residual.result ≡ Bad 2 = search rules in
    let none = c.ok_or.ensures.ok_part ∙ ap result_ok c.in_err-node.was in
    λ b. rw (told, rw none at c.byte.ensures) (record { line = refl; within = tt })

pub returns-in_err-kind : goal.returns-in_err-kind
unfolding enrol_of
returns-in_err-kind c =
    let told : answered c.from_residual-in_err-kind.result ≡ Bad 3 = search rules in
    let w1 = rw (c.ok_or.ensures.ok_part ∙ ap result_ok c.in_ok-node.was) at c.byte.ensures in
    let none = c.ok_or-2.ensures.ok_part ∙ ap result_ok c.in_err-kind.was in
    λ b. rw (told, w1.0, w1.1, rw none at c.pair.ensures) (record { line = refl; within = tt })

pub returns-in_err-table : goal.returns-in_err-table
unfolding enrol_of
returns-in_err-table c =
    let told : answered c.from_residual-in_err-table.result ≡ Bad 4 = search rules in
    let w1 = rw (c.ok_or.ensures.ok_part ∙ ap result_ok c.in_ok-node.was) at c.byte.ensures in
    let w2 = rw (c.ok_or-2.ensures.ok_part ∙ ap result_ok c.in_ok-kind.was) at c.pair.ensures in
    let none = c.ok_or-3.ensures.ok_part ∙ ap result_ok c.in_err-table.was in
    λ b. rw (told, w1.0, w1.1, w2.0, w2.1, rw none at c.table.ensures) (record { line = refl; within = tt })

pub returns-in_err-ok_or : goal.returns-in_err-ok_or
unfolding enrol_of
returns-in_err-ok_or c =
    let told : answered c.from_residual-in_err-ok_or.result ≡ Bad 5 = search rules in
    let w1 = rw (c.ok_or.ensures.ok_part ∙ ap result_ok c.in_ok-node.was) at c.byte.ensures in
    let w2 = rw (c.ok_or-2.ensures.ok_part ∙ ap result_ok c.in_ok-kind.was) at c.pair.ensures in
    let w3 = rw (c.ok_or-3.ensures.ok_part ∙ ap result_ok c.in_ok-table.was) at c.table.ensures in
    λ b. rw (told, w1.0, w1.1, w2.0, w2.1, w3.0, w3.1, sym c.end.ensures ∙ sym c.ok_or-4.ensures.variant ∙ ap is_ok c.in_err-ok_or.was) (record { line = refl; within = tt })

pub returns : goal.returns
unfolding enrol_of
returns c =
    let w1 = rw (c.ok_or.ensures.ok_part ∙ ap result_ok c.in_ok-node.was) at c.byte.ensures in
    let w2 = rw (c.ok_or-2.ensures.ok_part ∙ ap result_ok c.in_ok-kind.was) at c.pair.ensures in
    let w3 = rw (c.ok_or-3.ensures.ok_part ∙ ap result_ok c.in_ok-table.was) at c.table.ensures in
    λ b. rw (w1.0, w1.1, w2.0, w2.1, w3.0, w3.1, sym c.end.ensures ∙ sym c.ok_or-4.ensures.variant ∙ ap is_ok c.in_ok-ok_or.was) (record { line = refl; within = table_most_lem _ _ w3.0 })
