use Rattle.std.proofs.Common.{ℕ}
use Rattle.std.proofs.lemmas.List.{length-replicate}
use Rattle.text.specs.Text.{ascii}
use Rattle.text.specs.BuiltLaws.{built_none, built_text}
use Rattle.report.specs.Report.{placed_size}
use Rattle.report.specs.State.{reading_line}
use Rattle.report.proofs.state.reading_line.Goals as goal

pub put_end-requires : goal.put_end-requires
put_end-requires c = built_none _ placed_size (length-replicate {A = ℕ} placed_size 0)

pub returns : goal.returns
unfolding reading_line ascii
returns c = rw (c.from.ensures, c.mode_word.ensures, c.written.ensures, built_text c.put_end.ensures) at c.bytes_line.ensures
