use Rattle.std.proofs.Common.{ℕ, ◌≡◌, take}
use Rattle.std.proofs.lemmas.List.{length-replicate}
use Rattle.memory.specs.WroteLaws.{take_min}
use Rattle.text.specs.BuiltLaws.{built_none, built_text}
use Rattle.report.specs.Entry.{entry_size, name_size, entry_line}
use Rattle.report.proofs.entries.entry_line.Goals as goal

pub put_entry-requires-clause-empty : goal.put_entry-requires-clause-empty
put_entry-requires-clause-empty c = built_none _ entry_size (length-replicate {A = ℕ} entry_size 0)

pub returns : goal.returns
unfolding entry_line
returns c =
    let p : take c.min.result c.args.name.now ≡ take name_size c.args.name.now = rw c.min.ensures (take_min name_size c.args.name.now) in
    rw p at (rw (c.written.ensures, built_text c.put_entry.ensures) at c.append.ensures)
