use Rattle.std.proofs.Common.{sym}
use Rattle.lister.specs.LinesLaws.{refused_line-digits}
use Rattle.lister.proofs.lines.short_line.Goals as goal

pub returns : goal.returns
returns c = sym (refused_line-digits _ _ c.requires)
