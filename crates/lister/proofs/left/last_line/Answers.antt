use Rattle.std.proofs.Common.{◌≤◌, length, arith, rules}
use Rattle.text.specs.AppendedLaws.{appended_within}
use Rattle.lister.proofs.left.last_line.Goals as goal

pub returns : goal.returns
returns c =
    let x = c.left_line.ensures.leaves in
    let within : c.left_line.new.page.at ≤ length c.args.out.now = rw x.place (appended_within _ _ _ (omega arith)) in
    record { line = search rules; within = within }
