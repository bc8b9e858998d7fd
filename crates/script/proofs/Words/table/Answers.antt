use Rattle.std.proofs.Common.{sym, ◌∙◌}
use Rattle.script.specs.WordLaws.{from-behind, ended_behind, ended_within}
use Rattle.script.specs.CallLaws.{table_none, table-numbered}
use Rattle.script.proofs.Words.table.Goals as goal

pub returns-then-is_done : goal.returns-then-is_done
returns-then-is_done c =
    let past = ended_behind _ _ (sym c.is_done.ensures ∙ c.if-is_done.true) in
    (table_none _ _ past, rw (from-behind _ _ past))

pub returns : goal.returns
returns c = table-numbered _ _ _ c.number.result (ended_within _ _ (sym c.is_done.ensures ∙ c.if-is_done.false)) c.number.ensures
