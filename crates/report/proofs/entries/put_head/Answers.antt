use Rattle.std.proofs.Common.{arith}
use Rattle.text.specs.Text.{ascii, hex4}
use Rattle.text.specs.BuiltLaws.{built_word}
use Rattle.text.specs.NumberedLaws.{built_numbered, built_word_number}
use Rattle.report.specs.Entry.{entry_head}
use Rattle.report.proofs.entries.put_head.Goals as goal

pub returns : goal.returns
unfolding entry_head ascii
returns c =
    let e = c.args.entry in
    built_numbered (ascii " variation ") e.variation (ascii " name \"") (omega arith) (omega arith) (rw c.from-4.ensures at c.append_numbered-4.ensures.leaves)
    (built_word_number (ascii " placement ") e.placement (omega arith) (omega arith) (rw c.from-3.ensures at c.append_numbered-3.ensures.leaves)
    (built_word_number (ascii " order ") e.order (omega arith) (omega arith) (rw c.from-2.ensures at c.append_numbered-2.ensures.leaves)
    (built_word (hex4 e.kind) (omega arith) c.append_hex4.ensures.leaves
    (built_numbered (ascii "node ") e.node (ascii " type ") (omega arith) (omega arith) (rw c.from.ensures at c.append_numbered.ensures.leaves) c.requires))))
