use Rattle.std.proofs.Common.{ℕ, ◌++◌, arith}
use Rattle.std.proofs.lemmas.List.{length-replicate}
use Rattle.text.specs.Text.{ascii, decimal}
use Rattle.text.specs.Built.{Built}
use Rattle.text.specs.BuiltLaws.{built_none, built_all, built_text}
use Rattle.text.specs.NumberedLaws.{built_numbered}
use Rattle.report.specs.Report.{head_size, bad_line}
use Rattle.report.proofs.bad.bad_line.Goals as goal

pub returns : goal.returns
unfolding bad_line ascii
returns c =
    let built : Built head_size head_size (ascii "bad line " ++ decimal c.args.line ++ ascii " word ") c.append_numbered.new.self.out.now c.append_numbered.new.self.at =
    built_all (omega arith)
    (built_numbered (ascii "bad line ") c.args.line (ascii " word ") (omega arith) (omega arith) c.append_numbered.ensures.leaves
    (built_none _ head_size (length-replicate {A = ℕ} head_size 0))) in
    rw (c.from.ensures, c.written.ensures, built_text built) at c.append_numbered-2.ensures
