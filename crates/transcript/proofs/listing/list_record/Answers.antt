use Rattle.std.proofs.Common.{sym, ◌∙◌}
use Rattle.transcript.specs.LinesLaws.{writes_none, writes_one}
use Rattle.transcript.specs.State.{entry_lines}
use Rattle.transcript.proofs.listing.list_record.Goals as goal

pub returns-then-not-in_use : goal.returns-then-not-in_use
unfolding entry_lines
returns-then-not-in_use c = rw (sym c.in_use.ensures ∙ c.if-not-in_use.true) (writes_none _)

pub returns : goal.returns
unfolding entry_lines
returns c =
    rw (sym c.in_use.ensures ∙ c.if-not-in_use.false)
    (writes_one (rw (c.pair_at.ensures, c.pair_at-2.ensures, c.byte.ensures, c.byte-2.ensures) at c.entry_line.ensures))
