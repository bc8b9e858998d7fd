use Rattle.std.proofs.Common.{refl, arith}
use Rattle.text.specs.AppendedLaws.{leaves-whole, leaves_none}
use Rattle.text.specs.Text.{decimal}
use Rattle.text.specs.DecimalLaws.{decimal-some}
use Rattle.text.proofs.page.Page.append_decimal.Goals as goal

pub returns-then-room-count : goal.returns-then-room-count
returns-then-room-count c = record { same = refl; leaves = leaves_none _ _ (decimal c.args.number) (omega (arith, decimal-some c.args.number)) }

pub decimal-self-requires : goal.decimal-self-requires
decimal-self-requires c = (c.width-count.ensures, omega (arith, decimal-some c.args.number))

pub returns : goal.returns
returns c = record { same = refl; leaves = leaves-whole c.decimal-self.ensures (omega (arith, decimal-some c.args.number)) }
