use Rattle.std.proofs.Common.{ℕ, ◌++◌, arith}
use Rattle.std.proofs.lemmas.List.{length-replicate}
use Rattle.text.specs.Text.{ascii, decimal, hex4}
use Rattle.text.specs.Built.{Built}
use Rattle.text.specs.BuiltLaws.{built_none, built_word, built_all, built_text}
use Rattle.text.specs.NumberedLaws.{built_numbered}
use Rattle.report.specs.Report.{head_size, frame_line}
use Rattle.report.proofs.outcomes.frame_line.Goals as goal

pub returns : goal.returns
unfolding frame_line ascii
returns c =
    let a = c.args in
    let built : Built head_size head_size (ascii "used " ++ decimal a.used ++ ascii " frame " ++ hex4 a.command ++ ascii " data ") c.append.new.self.out.now c.append.new.self.at =
    built_all (omega arith)
    (built_word (ascii " data ") (omega arith) c.append.ensures.leaves
    (built_word (hex4 a.command) (omega arith) c.append_hex4.ensures.leaves
    (built_numbered (ascii "used ") a.used (ascii " frame ") (omega arith) (omega arith) c.append_numbered.ensures.leaves
    (built_none _ head_size (length-replicate {A = ℕ} head_size 0))))) in
    rw (c.written.ensures, built_text built) at c.reply_line.ensures
