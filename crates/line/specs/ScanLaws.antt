-- Laws of reading byte by byte, whatever the step.
use Prim.Native.Nat.{ℕ, suc, ◌≤◌, ◌<◌}
use Rattle.std.proofs.Math.Path.{◌≡◌, refl, sym, ap}
use Rattle.std.proofs.Common.{◌∙◌}
use mathlib.Core.List.{List, [], ◌∷◌, ◌++◌}
use Rattle.std.proofs.Math.Option.{Option, none, some}
use native.Mathlib.Omega.{arith}
use Rattle.std.specs.Prelude.{length, take}
use Rattle.line.specs.Scan.{also, Scan, onward, outcomes, final, scan}

pub also_append : {A : Type 0} (o : Option A) (k l : List A) → also o k ++ l ≡ also o (k ++ l)
also_append none k l = refl
also_append (some a) k l = refl

module _ {State Out : Type 0} (step : State → ℕ → State × Option Out) where
  -- cutting the bytes anywhere changes no outcome and no end state
  pub outcomes_append : (s : State) (a b : List ℕ) → outcomes step s (a ++ b) ≡ outcomes step s a ++ outcomes step (final step s a) b
  unfolding outcomes final
  outcomes_append s [] b = refl
  outcomes_append s (x ∷ a) b =
      ap (also (step s x).1) (outcomes_append (step s x).0 a b)
      ∙ sym (also_append (step s x).1 (outcomes step (step s x).0 a) (outcomes step (final step (step s x).0 a) b))

  pub final_append : (s : State) (a b : List ℕ) → final step s (a ++ b) ≡ final step (final step s a) b
  unfolding final
  final_append s [] b = refl
  final_append s (x ∷ a) b = final_append (step s x).0 a b

  -- what a call gives is what the bytes that it used give: r tells so of the bytes w from the state s
  pub record Tells (s : State) (w : List ℕ) (r : Scan State Out) : Type 0 where
    pub outcome : outcomes step s (take r.used w) ≡ also r.outcome []
    pub after : final step s (take r.used w) ≡ r.after
    pub within : r.used ≤ length w

  module _ (s : State) (b : ℕ) (w : List ℕ) (r : Scan State Out) where
    onward-tells : (o : Option Out) → (step s b).1 ≡ o → Tells (step s b).0 w r → Tells s (b ∷ w) (onward (step s b).0 o r)
    unfolding outcomes final onward
    onward-tells none e x = record { outcome = rw e x.outcome; after = x.after; within = let h = x.within in omega arith }
    onward-tells (some o) e x = record { outcome = rw e; after = refl; within = omega arith }

    onward-some : (o : Option Out) → 0 < (onward (step s b).0 o r).used
    unfolding onward
    onward-some none = omega arith
    onward-some (some o) = omega arith

  pub scan-tells : (s : State) (w : List ℕ) → Tells s w (scan step s w)
  unfolding outcomes final scan
  scan-tells s [] = record { outcome = refl; after = refl; within = omega arith }
  scan-tells s (b ∷ w) = onward-tells s b w (scan step (step s b).0 w) (step s b).1 refl (scan-tells (step s b).0 w)

  -- no call uses more than it was given
  pub used_within : (s : State) (w : List ℕ) → (scan step s w).used ≤ length w
  used_within s w = (scan-tells s w).within

  -- a call with bytes uses at least one
  pub used-some : (s : State) (w : List ℕ) → 0 < length w → 0 < (scan step s w).used
  unfolding scan
  used-some s [] h = absurd (omega arith)
  used-some s (b ∷ w) h = onward-some s b w (scan step (step s b).0 w) (step s b).1

  -- a call without an outcome goes to the end of the bytes
  module _ (s : State) (b : ℕ) (w : List ℕ) (r : Scan State Out) where
    onward_all : (o : Option Out) → (r.outcome ≡ none → r.used ≡ length w) → (onward (step s b).0 o r).outcome ≡ none → (onward (step s b).0 o r).used ≡ suc (length w)
    unfolding onward
    onward_all none ih e = ap suc (ih e)
    onward_all (some o) ih e = let z : ◌≡◌ {A = ℕ} 0 1 = cc in absurd (omega arith)

  pub used_all : (s : State) (w : List ℕ) → (scan step s w).outcome ≡ none → (scan step s w).used ≡ length w
  unfolding scan
  used_all s [] e = refl
  used_all s (b ∷ w) e = onward_all s b w (scan step (step s b).0 w) (step s b).1 (used_all (step s b).0 w) e
