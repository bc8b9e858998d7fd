use Rattle.std.proofs.Common.{arith}
use Rattle.memory.specs.Octets.{same}
use Rattle.text.specs.Text.{ascii}
use Rattle.script.specs.Script.{is_bytes, bytes}
use Rattle.script.specs.Code.{to_come}
use Rattle.script.proofs.Taken.{bytes_taken}
use Rattle.script.proofs.Words.bytes.Goals as goal

-- a missing word is no bytes
pub returns-in_err-word : goal.returns-in_err-word
unfolding bytes is_bytes ascii same
returns-in_err-word c = rw (c.from_residual.ensures, rw c.in_err-word.was at c.next_word.ensures)

pub decode-requires : goal.decode-requires
decode-requires c =
    let w = rw c.in_ok-word.was at c.next_word.ensures in
    omega (arith, w.2, c.args.self.now.short)

pub returns : goal.returns
returns c =
    let w = rw c.in_ok-word.was at c.next_word.ensures in
    bytes_taken (to_come c.args.self.now) _ _ _ c.decode.result w.0 w.1 c.decode.ensures
