use Rattle.std.proofs.Common.{refl, arith}
use Rattle.text.specs.AppendedLaws.{leaves-whole, leaves_none}
use Rattle.text.specs.Text.{hex4}
use Rattle.text.proofs.page.Page.append_hex4.Goals as goal

pub returns-then-room-lt4 : goal.returns-then-room-lt4
returns-then-room-lt4 c = record { same = refl; leaves = leaves_none _ _ (hex4 c.args.number) (omega arith) }

pub returns : goal.returns
returns c = record { same = refl; leaves = leaves-whole c.hex4-self.ensures (omega arith) }
