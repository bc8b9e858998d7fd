-- A run of stores, place by place.
use Rattle.std.specs.Prelude.{ℕ, zero, suc, ◌+◌, ◌-◌, ◌≤◌, ◌<◌, ◌≡◌, refl, List, [], ◌∷◌, ◌++◌, length, take, drop, get_or, set}
use Rattle.std.proofs.Common.{sym, ap, ◌∙◌, add-zero, add-suc, suc-add, arith, length-take, length-drop, length-set, get_or-set_same, get_or-set_other, get_or-take, get_or-drop, get_or-append-add, ext_get_or}
use Rattle.std.proofs.lemmas.List.Edits.{sets}
use Rattle.std.proofs.Math.Seq.{length-sets}

-- a place before the run, one behind it, and one of it
pub sets-before : (vs l : List ℕ) (i j : ℕ) → j < i → get_or (sets l i vs) j 0 ≡ get_or l j 0
sets-before [] l i j h = refl
sets-before (v ∷ vs) l i j h = sets-before vs (set l i v) (suc i) j (omega arith) ∙ get_or-set_other l i j v 0 (λ e. omega arith)

pub sets_behind : (vs l : List ℕ) (i j : ℕ) → i + length vs ≤ j → get_or (sets l i vs) j 0 ≡ get_or l j 0
sets_behind [] l i j h = refl
sets_behind (v ∷ vs) l i j h = sets_behind vs (set l i v) (suc i) j (omega arith) ∙ get_or-set_other l i j v 0 (λ e. omega arith)

pub sets_within : (vs l : List ℕ) (i k : ℕ) → k < length vs → i + k < length l → get_or (sets l i vs) (i + k) 0 ≡ get_or vs k 0
sets_within [] l i k h b = absurd (omega arith)
sets_within (v ∷ vs) l i zero h b = rw add-zero (sets-before vs (set l i v) (suc i) i (omega arith) ∙ get_or-set_same l i v 0 (omega arith))
sets_within (v ∷ vs) l i (suc k) h b = rw (add-suc, ← suc-add) (sets_within vs (set l i v) (suc i) k (omega arith) (simp length-set (omega arith)))

-- parts that agree at each place are equal
part_same : (l m : List ℕ) (a n : ℕ) → length l ≡ length m → ((k : ℕ) → k < n → get_or l (a + k) 0 ≡ get_or m (a + k) 0) → take n (drop a l) ≡ take n (drop a m)
part_same l m a n e h = ext_get_or 0 (take n (drop a l)) (take n (drop a m)) (simp (length-take, length-drop, e)) (λ k b. at k (below k b))
  where
    below : (k : ℕ) → k < length (take n (drop a l)) → k < n
    below k b = let c = rw (length-take) at b in omega arith

    at : (k : ℕ) → k < n → get_or (take n (drop a l)) k 0 ≡ get_or (take n (drop a m)) k 0
    at k b = get_or-take n (drop a l) k 0 b ∙ get_or-drop a l k 0 ∙ h k b ∙ sym (get_or-take n (drop a m) k 0 b ∙ get_or-drop a m k 0)

-- a part before the run, and one behind it
pub part_before : (vs l : List ℕ) (i a n : ℕ) → a + n ≤ i → take n (drop a (sets l i vs)) ≡ take n (drop a l)
part_before vs l i a n h = part_same (sets l i vs) l a n (length-sets l i vs) (λ k b. sets-before vs l i (a + k) (omega (arith, h, b)))

pub part_behind : (vs l : List ℕ) (i a n : ℕ) → i + length vs ≤ a → take n (drop a (sets l i vs)) ≡ take n (drop a l)
part_behind vs l i a n h = part_same (sets l i vs) l a n (length-sets l i vs) (λ k b. sets_behind vs l i (a + k) (omega (arith, h, b)))

-- a place behind the seam
pub append_behind : (l m : List ℕ) (k : ℕ) → length l ≤ k → get_or (l ++ m) k 0 ≡ get_or m (k - length l) 0
append_behind l m k h =
    let e : k ≡ length l + (k - length l) = omega arith in
    ap (λ (j : ℕ). get_or (l ++ m) j 0) e ∙ get_or-append-add l m (k - length l) 0
