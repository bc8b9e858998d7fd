use Rattle.std.proofs.Common.{sym, ◌∙◌, add-one, eq-eqb, ne_eqb}
use Rattle.std.proofs.lemmas.Option.{slice_get-get_or}
use Rattle.directory.specs.Directory.{entry}
use Rattle.directory.specs.LookupLaws.{find_on, find_found, find_end}
use Rattle.directory.proofs.lookup.first.Goals as goal

pub returns-then-entry-number : goal.returns-then-entry-number
returns-then-entry-number c =
    let es = c.args.entries.now in
    let k = c.loop-entry.entry-index in
    let there = slice_get-get_or es k (entry 0 0 0) c.loop-entry-test.true in
    sym (c.loop-entry.invariant ∙ find_found c.args.number es k _ there (eq-eqb _ _ c.if-entry-number.true))

pub loop-entry-preserved : goal.loop-entry-preserved
loop-entry-preserved c =
    let es = c.args.entries.now in
    let k = c.loop-entry.entry-index in
    let there = slice_get-get_or es k (entry 0 0 0) c.loop-entry-test.true in
    c.loop-entry.invariant ∙ rw add-one (find_on c.args.number es k _ there (ne_eqb _ _ c.if-entry-number.false))

pub returns : goal.returns
returns c = sym (c.loop-entry.invariant ∙ find_end c.args.number c.args.entries.now c.loop-entry.entry-index c.loop-entry-test.false)
