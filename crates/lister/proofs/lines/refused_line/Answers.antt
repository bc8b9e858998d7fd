use Rattle.std.proofs.Common.{sym, ◌∙◌}
use Rattle.lister.proofs.lines.refused_line.Goals as goal

pub short_line-requires : goal.short_line-requires
short_line-requires c = sym c.is_short.ensures ∙ c.if-is_short.true

pub returns-then-is_short : goal.returns-then-is_short
returns-then-is_short c = rw c.short_line.ensures at c.append.ensures
