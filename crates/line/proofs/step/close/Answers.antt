use Prim.Native.Nat.{ℕ}
use mathlib.Core.Path.{◌≡◌, refl, sym}
use mathlib.Core.List.{List, [], ◌∷◌}
use native.Mathlib.Omega.{arith}
use lib.ListN.{length}
use lib.Seq.{take-length}
use Rattle.line.specs.declared.Mode.TheVariants.{Plain}
use Rattle.line.specs.declared.PacketOutcome.TheVariants.{Packet}
use Rattle.line.specs.declared.step.Action.TheVariants.{Keep, Give}
use Rattle.line.specs.Reader.{close}
use Rattle.line.specs.Step.{acted, closing}
use Rattle.line.proofs.step.close.Goals as goal

-- an END among whole bytes
closed_empty : (h : List ℕ) (n : ℕ) → length h ≡ n → n ≡ 0 → acted h (Keep Plain) ≡ closing h
unfolding close
closed_empty [] n e z = refl
closed_empty (b ∷ h) n e z = absurd (omega arith)

closed_packet : (h : List ℕ) (n : ℕ) → length h ≡ n → (n ≡ 0 → ⊥) → acted h (Give (Packet n)) ≡ closing h
unfolding close
closed_packet [] n e z = absurd (z (sym e))
closed_packet (b ∷ h) n e z = rw (← e, take-length h)

pub returns-then-count-eq0 : goal.returns-then-count-eq0
returns-then-count-eq0 c = record { act = λ h e. closed_empty h _ e c.if-count-eq0.true; fits = tt }

pub returns-else-count-eq0 : goal.returns-else-count-eq0
returns-else-count-eq0 c = record { act = λ h e. closed_packet h _ e c.if-count-eq0.false; fits = omega arith }
