-- What the layers above state and compute of the line layer, passed on: they see it through the frame layer.
pub use Rattle.line.specs.Wire.{ESC-END, ESC-ESC}
pub use Rattle.line.specs.Reader.{limit, Outcome}
unfoldable pub use Rattle.line.specs.Places.{behind_esc}
unfoldable pub use Rattle.line.specs.Reader.{wrong_escape, too_long, decoded, close, step}
pub use Rattle.line.specs.Pieces.{NoEnd}
unfoldable pub use Rattle.line.specs.Pieces.{closed, last, decode, piece_outcomes}
pub use Rattle.line.specs.Reachable.{Reachable}
unfoldable pub use Rattle.line.specs.Reachable.{decoded_fits, possible, written}
pub use Rattle.line.specs.WireLaws.{escape_append, escape_short, escape-plain}
pub use Rattle.line.specs.Answers.{Clear}
pub use Rattle.line.specs.Step.{Takes}
pub use Rattle.line.specs.AnswerLaws.{taken_clear, taken_reachable, emptied-taken}
pub use Rattle.line.specs.declared.Answer.{Answer}
pub use Rattle.line.specs.declared.AnswerAt.{AnswerAt}
pub use Rattle.line.specs.HeldLaws.{record_of, taken_record, record_bounded}
