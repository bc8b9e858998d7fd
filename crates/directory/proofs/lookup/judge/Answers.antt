use Rattle.std.proofs.Common.{◌≡◌, sym, ap, ◌∙◌, Some, le-leb, rules}
use Rattle.std.proofs.lemmas.Bool.{lt-leb}
use Rattle.std.specs.Result.{result_ok}
use Rattle.directory.specs.Directory.{directory}
use Rattle.directory.specs.Lookup.{find, verdict_of, verdict}
use Rattle.directory.specs.DirectoryLaws.{verdict_found}
use Rattle.directory.proofs.lookup.judge.Goals as goal
use Rattle.directory.proofs.lookup.judge.Goals.{then-len-from-via-then-len-from, then-len-from-via-else-len-from+then-from-len}

pub returns-in_err-entry : goal.returns-in_err-entry
unfolding verdict verdict_of
returns-in_err-entry c = search rules

pub returns-then-len-from : goal.returns-then-len-from
returns-then-len-from c =
    let found : find c.args.command directory ≡ Some c.in_ok-entry.entry = sym c.find.ensures ∙ c.ok_or.ensures.ok_part ∙ ap result_ok c.in_ok-entry.was in
    let judged = verdict_found c.args.command c.args.len c.in_ok-entry.entry found in
    elim c.then-len-from.branch [
      | then-len-from-via-then-len-from w ↦ sym (judged ∙ rw (lt-leb _ _ (rw c.from.ensures at w.if-len-from.true)))
      | then-len-from-via-else-len-from+then-from-len w ↦
          sym (judged ∙ rw (le-leb _ _ (rw c.from.ensures at w.if-len-from.false), lt-leb _ _ (rw w.from-else-len-from.ensures at w.if-from-len.true)))
    ]

pub returns : goal.returns
returns c =
    let found : find c.args.command directory ≡ Some c.in_ok-entry.entry = sym c.find.ensures ∙ c.ok_or.ensures.ok_part ∙ ap result_ok c.in_ok-entry.was in
    let judged = verdict_found c.args.command c.args.len c.in_ok-entry.entry found in
    sym (judged ∙ rw (le-leb _ _ (rw c.from.ensures at c.if-len-from.false), le-leb _ _ (rw c.from-else-len-from.ensures at c.if-from-len.false)))
