-- A part of lent memory written at once.
use Rattle.std.specs.Prelude.{ℕ, ◌+◌, ◌-◌, ◌≤◌, ◌<◌, ◌≡◌, refl, List, length, take, replicate}
use Rattle.std.proofs.Common.{sym, ◌∙◌, le_refl, arith, length-take, take_all}
use Rattle.std.proofs.lemmas.List.{length-replicate}
use Rattle.std.proofs.lemmas.Slice.{put_mid-paste}
use Rattle.std.proofs.lemmas.List.Edits.{sets, sets-eq}
use borrow.Rule.Slice.PartMut.{put_mid}
use Rattle.memory.specs.Wrote.{fitting}
use Rattle.memory.specs.WroteLaws.{sets-fitting, sets_fitting_same}

-- n bytes written at the place i are stored there one by one
part : (l vs : List ℕ) (i n : ℕ) → n ≡ length vs → i + n ≤ length l → put_mid i (i + n - i) l vs ≡ sets l i vs
part l vs i n e h =
    put_mid-paste i (i + n - i) l vs vs n refl (omega arith) e
    ∙ rw (e, take_all (length vs) vs (le_refl (length vs))) (sym (sets-eq vs l i (omega arith)))

module _ (l : List ℕ) (i n : ℕ) where
  -- those that fit do all; where none fits, nothing is stored
  pub copied : (vs front : List ℕ) → n ≡ fitting (length l) i (length vs) → 0 < n → front ≡ take n vs → put_mid i (i + n - i) l front ≡ sets l i vs
  copied vs front e p f =
      rw f (part l (take n vs) i n (sym (length-take n vs ∙ omega arith)) (omega arith) ∙ rw e (sets-fitting vs l i))

  pub copied_none : (vs : List ℕ) → n ≡ fitting (length l) i (length vs) → n ≤ 0 → l ≡ sets l i vs
  copied_none vs e h = let z : fitting (length l) i (length vs) ≡ 0 = omega arith in rw z at (sets-fitting vs l i)

  pub filled : (k v : ℕ) (same : List ℕ) → n ≡ fitting (length l) i k → 0 < n → same ≡ replicate n v → put_mid i (i + n - i) l same ≡ sets l i (replicate k v)
  filled k v same e p f =
      rw f (part l (replicate n v) i n (sym (length-replicate n v)) (omega arith) ∙ rw e (sets_fitting_same k v l i))

  pub filled_none : (k v : ℕ) → n ≡ fitting (length l) i k → n ≤ 0 → l ≡ sets l i (replicate k v)
  filled_none k v e h = let z : fitting (length l) i k ≡ 0 = omega arith in rw z at (sets_fitting_same k v l i)
