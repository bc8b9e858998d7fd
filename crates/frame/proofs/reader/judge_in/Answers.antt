use Prim.Native.Nat.{◌≤◌}
use mathlib.Core.Path.{ap}
use mathlib.Core.Option.{some}
use native.Mathlib.Omega.{arith}
use Rattle.std.proofs.Common.{length-take-le}
use Rattle.line.specs.Reader.{limit}
use Rattle.frame.specs.Frame.{Refusal, refused}
use Rattle.frame.specs.Reader.{verdict}
use Rattle.frame.proofs.AnswerLaws.{fault_refusal}
use Rattle.frame.proofs.reader.Laws.{judging}
use Rattle.frame.proofs.reader.judge_in.Goals as goal

pub slice_bounds-judge-end : goal.slice_bounds-judge-end
slice_bounds-judge-end c =
    let held : c.in-Packet.n ≤ limit = rw c.in-Packet.is at c.requires.1 in
    omega (arith, length-take-le c.in-Packet.n c.args.bytes.now (omega arith))

pub returns-in-Nothing : goal.returns-in-Nothing
unfolding verdict
returns-in-Nothing c = record { told = rw c.in-Nothing.is; within = tt; whole = tt; full = c.requires.0 }

pub returns-in-Packet : goal.returns-in-Packet
returns-in-Packet c =
    let held : c.in-Packet.n ≤ limit = rw c.in-Packet.is at c.requires.1 in
    let h = held in
    judging c.args.bytes.now c.in-Packet.n c.args.got c.judge.result c.into.result
    c.in-Packet.is c.into.ensures c.judge.ensures h c.requires.0

pub returns-in-Refused : goal.returns-in-Refused
unfolding verdict
returns-in-Refused c = record { told = rw (c.in-Refused.is, c.into-in-Refused.ensures) (ap (λ (n : Refusal). some (refused n)) (fault_refusal c.in-Refused.fault)); within = tt; whole = tt; full = c.requires.0 }
