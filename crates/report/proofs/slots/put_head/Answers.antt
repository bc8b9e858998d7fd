use Rattle.std.proofs.Common.{arith}
use Rattle.text.specs.Text.{ascii, hex4}
use Rattle.text.specs.BuiltLaws.{built_word}
use Rattle.text.specs.NumberedLaws.{built_numbered}
use Rattle.report.proofs.slots.put_head.Goals as goal

pub returns : goal.returns
unfolding ascii
returns c =
    built_word (hex4 c.args.session) (omega arith) c.append_hex4.ensures.leaves
    (built_numbered (ascii "slot ") c.args.slot (ascii " session ") (omega arith) (omega arith) (rw c.from.ensures at c.append_numbered.ensures.leaves) c.requires)
