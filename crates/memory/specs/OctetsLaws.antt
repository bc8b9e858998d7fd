-- Comparing bytes is equality: no prefix and no single byte passes for the whole.
use Rattle.std.specs.Prelude.{ℕ, suc, ◌+◌, ◌≤◌, ◌<◌, ◌≡◌, refl, List, [], ◌∷◌, Bool, true, false, ◌&&◌, length, drop, get_or, eqb}
use Rattle.std.proofs.Common.{ap, ap₂, add-one, drop_of_length-le, eqb-true, eq-eqb}
use Rattle.std.proofs.lemmas.Bool.{false≢true}
use Rattle.std.proofs.Math.Seq.{drop-cons}
use Rattle.memory.specs.Octets.{same}

pub same_equal : (l m : List ℕ) → same l m ≡ true → l ≡ m
unfolding same
same_equal [] [] e = refl
same_equal [] (b ∷ m) e = absurd (false≢true e)
same_equal (a ∷ l) [] e = absurd (false≢true e)
same_equal (a ∷ l) (b ∷ m) e = go (eqb a b) refl (same_equal l m) e
  where
    go : (t : Bool) → eqb a b ≡ t → (same l m ≡ true → l ≡ m) → t && same l m ≡ true → (a ∷ l) ≡ (b ∷ m)
    go true p r q = ap₂ (λ (z : ℕ) (zs : List ℕ). z ∷ zs) (eqb-true a b p) (r q)
    go false p r q = absurd (false≢true q)

pub same_itself : (l : List ℕ) → same l l ≡ true
unfolding same
same_itself [] = refl
same_itself (a ∷ l) = rw (eq-eqb a a refl) (same_itself l)

pub same_lengths : (l m : List ℕ) → (length l ≡ length m → ⊥) → same l m ≡ false
unfolding same
same_lengths [] [] h = absurd (h refl)
same_lengths [] (b ∷ m) h = refl
same_lengths (a ∷ l) [] h = refl
same_lengths (a ∷ l) (b ∷ m) h = go (eqb a b) (same_lengths l m (λ e. h (ap suc e)))
  where
    go : (t : Bool) → same l m ≡ false → (t && same l m) ≡ false
    go true e = e
    go false e = refl

-- ---- byte by byte, from a place on

module _ (l m : List ℕ) (i : ℕ) (p : i < length l) (q : i < length m) where
  pub same_on : eqb (get_or l i 0) (get_or m i 0) ≡ true → same (drop i l) (drop i m) ≡ same (drop (i + 1) l) (drop (i + 1) m)
  unfolding same
  same_on e = rw (add-one, drop-cons l i 0, drop-cons m i 0, e)

  pub same_not : eqb (get_or l i 0) (get_or m i 0) ≡ false → same (drop i l) (drop i m) ≡ false
  unfolding same
  same_not e = rw (drop-cons l i 0, drop-cons m i 0, e)

pub same_end : (l m : List ℕ) (i : ℕ) → length l ≤ i → length m ≤ i → same (drop i l) (drop i m) ≡ true
unfolding same
same_end l m i p q = rw (drop_of_length-le l p, drop_of_length-le m q)
