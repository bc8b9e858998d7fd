use Rattle.std.proofs.Common.{sym, arith, le-leb}
use Rattle.std.proofs.lemmas.Bool.{lt-leb}
use Rattle.script.specs.Script.{hex_value}
use Rattle.script.specs.ByteLaws.{digit_is, digit-not}
use Rattle.script.proofs.hex.digit_of.Goals as goal

pub returns-in-48-to-57 : goal.returns-in-48-to-57
unfolding hex_value
returns-in-48-to-57 c = sym (digit_is c.args.digit _ (rw (le-leb 48 c.args.digit (omega arith), le-leb c.args.digit 57 (omega arith))) (omega arith))

pub returns-in-65-to-70 : goal.returns-in-65-to-70
unfolding hex_value
returns-in-65-to-70 c = sym (digit_is c.args.digit _ (rw (le-leb 48 c.args.digit (omega arith), lt-leb c.args.digit 57 (omega arith), le-leb 65 c.args.digit (omega arith), le-leb c.args.digit 70 (omega arith))) (omega arith))

pub returns-in-97-to-102 : goal.returns-in-97-to-102
unfolding hex_value
returns-in-97-to-102 c = sym (digit_is c.args.digit _ (rw (le-leb 48 c.args.digit (omega arith), lt-leb c.args.digit 57 (omega arith), le-leb 65 c.args.digit (omega arith), lt-leb c.args.digit 70 (omega arith), le-leb 97 c.args.digit (omega arith), le-leb c.args.digit 102 (omega arith))) (omega arith))

pub returns-in_default : goal.returns-in_default
unfolding hex_value
returns-in_default c = sym (digit-not c.args.digit (rw (lt-leb 48 c.args.digit (omega arith), lt-leb 65 c.args.digit (omega arith), lt-leb 97 c.args.digit (omega arith))))

pub returns-in_default-2 : goal.returns-in_default-2
unfolding hex_value
returns-in_default-2 c = sym (digit-not c.args.digit (rw (le-leb 48 c.args.digit (omega arith), lt-leb c.args.digit 57 (omega arith), lt-leb 65 c.args.digit (omega arith), lt-leb 97 c.args.digit (omega arith))))

pub returns-in_default-3 : goal.returns-in_default-3
unfolding hex_value
returns-in_default-3 c = sym (digit-not c.args.digit (rw (le-leb 48 c.args.digit (omega arith), lt-leb c.args.digit 57 (omega arith), le-leb 65 c.args.digit (omega arith), lt-leb c.args.digit 70 (omega arith), lt-leb 97 c.args.digit (omega arith))))

pub returns-in_default-4 : goal.returns-in_default-4
unfolding hex_value
returns-in_default-4 c = sym (digit-not c.args.digit (rw (le-leb 48 c.args.digit (omega arith), lt-leb c.args.digit 57 (omega arith), le-leb 65 c.args.digit (omega arith), lt-leb c.args.digit 70 (omega arith), le-leb 97 c.args.digit (omega arith), lt-leb c.args.digit 102 (omega arith))))
