use Prim.Native.Nat.{ℕ, ◌-◌, ◌<◌}
use mathlib.Core.Path.{◌≡◌, refl, sym, ◌∙◌}
use mathlib.Core.List.{List}
use native.Mathlib.Omega.{arith}
use lib.ListN.{length, take, get_or}
use borrow.Author.Tests.{lt-leb, le-leb, eq-eqb, ne_eqb}
use Rattle.line.specs.PlaceLaws.{byte_at_end}
use Rattle.frame.specs.declared.Cause.{Cause}
use Rattle.frame.specs.declared.PacketRefusal.{PacketRefusal}
use Rattle.std.specs.Prelude.{Err}
use Rattle.frame.specs.Xor.{xor_all}
use Rattle.frame.specs.Frame.{decoded_at, byte_at, behind, number, Outcome, frame, refused, command_of, data_of, judge, too_long, too_short, wrong_protocol, below_length, beyond_length, wrong_check}
use Rattle.frame.proofs.JudgeLaws.{framed_back}
use Rattle.frame.specs.Answers.{Judges}
use Rattle.frame.specs.Judgements.{refused_at}
use Rattle.frame.proofs.checks.judge.Goals as goal

-- a refusal at the decoded place d
refuses : (h : List ℕ) (c : Cause) (d : ℕ) (r : PacketRefusal) → r ≡ refused_at c h d → judge h ≡ refused (record { number = number c; at = byte_at h (decoded_at d) }) → Judges (judge h) h (Err r)
refuses h c d r e x = rw e (record { told = sym x; within = tt; whole = tt })

-- at the END
at_end : (h : List ℕ) (n : ℕ) → ◌≡◌ {A = Outcome} (refused (record { number = n; at = behind h })) (refused (record { number = n; at = byte_at h (decoded_at (length h)) }))
at_end h n = rw (byte_at_end h)

pub refused-requires : goal.refused-requires
refused-requires c = (omega arith, omega arith)

pub returns-then-n-gt-LIMIT : goal.returns-then-n-gt-LIMIT
unfolding judge too_long
returns-then-n-gt-LIMIT c = refuses _ _ _ _ c.refused.ensures (rw (lt-leb _ _ c.if-n-gt-LIMIT.true) refl)

pub refused-requires-then-n-lt-AROUND : goal.refused-requires-then-n-lt-AROUND
refused-requires-then-n-lt-AROUND c = (omega arith, omega (arith, c.if-n-gt-LIMIT.false))

pub returns-then-n-lt-AROUND : goal.returns-then-n-lt-AROUND
unfolding judge too_short
returns-then-n-lt-AROUND c = refuses _ _ _ _ c.refused-then-n-lt-AROUND.ensures (rw (le-leb _ _ c.if-n-gt-LIMIT.false, lt-leb _ _ c.if-n-lt-AROUND.true) (at_end _ _))

pub refused-requires-then-protocol-ne0 : goal.refused-requires-then-protocol-ne0
refused-requires-then-protocol-ne0 c = (omega arith, omega arith)

pub returns-then-protocol-ne0 : goal.returns-then-protocol-ne0
unfolding judge wrong_protocol
returns-then-protocol-ne0 c = refuses _ _ _ _ c.refused-then-protocol-ne0.ensures (rw (le-leb _ _ c.if-n-gt-LIMIT.false, le-leb _ _ c.if-n-lt-AROUND.false, ne_eqb _ _ c.if-protocol-ne0.true) refl)

pub refused-requires-then-n-due : goal.refused-requires-then-n-due
refused-requires-then-n-due c = (omega arith, c.if-n-gt-LIMIT.false)

pub returns-then-n-due : goal.returns-then-n-due
unfolding judge below_length
returns-then-n-due c = refuses _ _ _ _ c.refused-then-n-due.ensures (rw (le-leb _ _ c.if-n-gt-LIMIT.false, le-leb _ _ c.if-n-lt-AROUND.false, eq-eqb (get_or c.args.packet.now 0 0) 0 (omega arith), lt-leb _ _ (rw c.claimed_len-due.ensures at c.if-n-due.true)) (at_end _ _))

pub refused-requires-then-due-n : goal.refused-requires-then-due-n
refused-requires-then-due-n c = (omega (arith, c.if-due-n.true), omega (arith, c.if-due-n.true, c.if-n-gt-LIMIT.false))

pub returns-then-due-n : goal.returns-then-due-n
unfolding judge beyond_length
returns-then-due-n c = refuses _ _ _ _ c.refused-then-due-n.ensures (rw c.claimed_len-due.ensures (rw (le-leb _ _ c.if-n-gt-LIMIT.false, le-leb _ _ c.if-n-lt-AROUND.false, eq-eqb _ _ c.if-protocol-ne0.false, le-leb _ _ (rw c.claimed_len-due.ensures at c.if-n-due.false), lt-leb _ _ (rw c.claimed_len-due.ensures at c.if-due-n.true)) refl))

pub refused-requires-then-packet-last : goal.refused-requires-then-packet-last
refused-requires-then-packet-last c = (omega arith, omega (arith, c.if-n-gt-LIMIT.false))

pub returns-then-packet-last : goal.returns-then-packet-last
unfolding judge wrong_check
returns-then-packet-last c =
    let check_due : c.xor_all.result ≡ xor_all (take (length c.args.packet.now - 1) c.args.packet.now) = c.xor_all.ensures in
    refuses _ _ _ _ c.refused-then-packet-last.ensures (rw (le-leb _ _ c.if-n-gt-LIMIT.false, le-leb _ _ c.if-n-lt-AROUND.false, eq-eqb _ _ c.if-protocol-ne0.false, le-leb _ _ (rw c.claimed_len-due.ensures at c.if-n-due.false), le-leb _ _ (rw c.claimed_len-due.ensures at c.if-due-n.false), ne_eqb _ _ (λ e. c.if-packet-last.true (e ∙ sym (check_due)))) refl)

pub returns : goal.returns
unfolding judge
returns c =
    let check_due : c.xor_all.result ≡ xor_all (take (length c.args.packet.now - 1) c.args.packet.now) = c.xor_all.ensures in
    let h : List ℕ = c.args.packet.now in
    let told : frame (command_of h) (data_of h) ≡ judge h = simp (le-leb _ _ c.if-n-gt-LIMIT.false, le-leb _ _ c.if-n-lt-AROUND.false, eq-eqb _ _ c.if-protocol-ne0.false, le-leb _ _ (rw c.claimed_len-due.ensures at c.if-n-due.false), le-leb _ _ (rw c.claimed_len-due.ensures at c.if-due-n.false), eq-eqb _ _ (c.if-packet-last.false ∙ check_due)) in
    let low : get_or h 3 0 < 256 = omega (arith, c.type_inv.packet 3) in
    rw c.from_be_bytes.ensures (record { told = told; within = (refl, omega arith, omega arith); whole = sym (framed_back h (sym told) low) })
