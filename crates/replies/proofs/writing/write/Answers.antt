use mathlib.Core.Path.{refl}
use Rattle.std.proofs.Common.{arith}
use Rattle.frame.specs.WireLaws.{high_byte}
use Rattle.replies.specs.ReplyLaws.{bytes_of_one, nothing_fits}
use Rattle.replies.proofs.writing.write.Goals as goal

pub returns-in-Nothing : goal.returns-in-Nothing
returns-in-Nothing c = rw (c.in-Nothing.is, nothing_fits) (record { answer = refl; room = refl })

pub returns-in-Error : goal.returns-in-Error
returns-in-Error c = rw (c.in-Error.is, bytes_of_one) c.one.ensures

pub returns-in-PasswordEntered : goal.returns-in-PasswordEntered
returns-in-PasswordEntered c = rw (c.in-PasswordEntered.is, bytes_of_one) c.one-in-PasswordEntered.ensures

pub returns-in-PasswordChanged : goal.returns-in-PasswordChanged
returns-in-PasswordChanged c = rw (c.in-PasswordChanged.is, bytes_of_one) c.one-in-PasswordChanged.ensures

pub returns-in-AboutNode : goal.returns-in-AboutNode
returns-in-AboutNode c = rw c.in-AboutNode.is c.about_node.ensures

pub returns-in-VariationSet : goal.returns-in-VariationSet
returns-in-VariationSet c = rw (c.in-VariationSet.is, bytes_of_one) c.one-in-VariationSet.ensures

pub returns-in-NameSet : goal.returns-in-NameSet
returns-in-NameSet c = rw (c.in-NameSet.is, bytes_of_one) c.one-in-NameSet.ensures

pub returns-in-OrderAndPlacementSet : goal.returns-in-OrderAndPlacementSet
returns-in-OrderAndPlacementSet c = rw (c.in-OrderAndPlacementSet.is, bytes_of_one) c.one-in-OrderAndPlacementSet.ensures

pub returns-in-NodesRemoved : goal.returns-in-NodesRemoved
returns-in-NodesRemoved c = rw (c.in-NodesRemoved.is, bytes_of_one) c.one-in-NodesRemoved.ensures

pub returns-in-VirginStateSet : goal.returns-in-VirginStateSet
returns-in-VirginStateSet c = rw (c.in-VirginStateSet.is, bytes_of_one) c.one-in-VirginStateSet.ensures

pub returns-in-ModeSendConfirmed : goal.returns-in-ModeSendConfirmed
returns-in-ModeSendConfirmed c =
    rw (c.in-ModeSendConfirmed.is, bytes_of_one, ← high_byte c.in-ModeSendConfirmed.session (omega arith)) (rw c.to_be_bytes.ensures at c.one-in-ModeSendConfirmed.ensures)

pub returns-in-SessionFinished : goal.returns-in-SessionFinished
returns-in-SessionFinished c =
    rw (c.in-SessionFinished.is, bytes_of_one, ← high_byte c.in-SessionFinished.session (omega arith)) (rw c.to_be_bytes-in-SessionFinished.ensures at c.one-in-SessionFinished.ensures)
