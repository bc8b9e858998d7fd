use Rattle.std.proofs.Common.{refl, arith}
use Rattle.text.specs.AppendedLaws.{leaves-whole, leaves_none}
use Rattle.text.proofs.page.Page.append.Goals as goal

pub returns-then-self : goal.returns-then-self
returns-then-self c = record { same = refl; leaves = leaves_none _ _ c.args.bytes.now (omega arith) }

pub returns-then-self-bytes : goal.returns-then-self-bytes
returns-then-self-bytes c = record { same = refl; leaves = leaves_none _ _ c.args.bytes.now (omega arith) }

pub returns : goal.returns
returns c = record { same = refl; leaves = leaves-whole (record { content = c.copy.ensures; place = refl }) (omega arith) }
