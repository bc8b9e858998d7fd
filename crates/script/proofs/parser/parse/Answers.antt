use Rattle.std.proofs.Common.{refl, sym, ◌∙◌, arith}
use Rattle.script.specs.WordLaws.{from_within}
use Rattle.script.specs.CallLaws.{parse-long, parse_remark, parse-words}
use Rattle.script.proofs.parser.parse.Goals as goal

pub returns-then-line-gt-LONGEST : goal.returns-then-line-gt-LONGEST
returns-then-line-gt-LONGEST c = rw (parse-long _ c.if-line-gt-LONGEST.true) (record { line = refl; within = tt })

pub returns-then-is_remark : goal.returns-then-is_remark
returns-then-is_remark c = rw (parse_remark _ c.if-line-gt-LONGEST.false (sym c.is_remark.ensures ∙ c.if-is_remark.true)) (record { line = refl; within = tt })

pub returns-in-Ok : goal.returns-in-Ok
returns-in-Ok c =
    let whole = from_within c.args.line.now 0 (omega arith) in
    rw (parse-words _ c.if-line-gt-LONGEST.false (sym c.is_remark.ensures ∙ c.if-is_remark.false)) (rw whole at c.in-Ok.ensures)

pub returns-in-Err : goal.returns-in-Err
returns-in-Err c =
    let whole = from_within c.args.line.now 0 (omega arith) in
    rw (parse-words _ c.if-line-gt-LONGEST.false (sym c.is_remark.ensures ∙ c.if-is_remark.false)) (rw whole at c.in-Err.ensures)
