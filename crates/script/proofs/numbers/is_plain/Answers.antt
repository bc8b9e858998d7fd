use Rattle.std.proofs.Common.{arith, length, lt-ltb, le-ltb, le-leb}
use Rattle.std.proofs.lemmas.Bool.{lt-leb}
use Rattle.script.specs.Script.{is_plain}
use Rattle.script.proofs.numbers.is_plain.Goals as goal

pub returns-in-1 : goal.returns-in-1
unfolding is_plain
returns-in-1 c = rw c.in-1.is

pub returns-in-2-to-5 : goal.returns-in-2-to-5
unfolding is_plain
returns-in-2-to-5 c = simp (lt-ltb 0 (length c.args.text.now) (omega arith), le-leb (length c.args.text.now) 5 (omega arith), lt-ltb 1 (length c.args.text.now) (omega arith))

pub returns-in_default : goal.returns-in_default
unfolding is_plain
returns-in_default c = simp (le-ltb 0 (length c.args.text.now) (omega arith))

pub returns-in_default-2 : goal.returns-in_default-2
unfolding is_plain
returns-in_default-2 c = simp (lt-ltb 0 (length c.args.text.now) (omega arith), lt-leb (length c.args.text.now) 5 (omega arith))
