-- Runs of bytes one behind the other.
use Rattle.std.specs.Prelude.{ℕ, zero, suc, ◌+◌, ◌-◌, ◌≤◌, ◌<◌, min, ◌≡◌, refl, List, [], ◌∷◌, ◌++◌, length, take, drop, set, get_or, replicate}
use Rattle.std.proofs.Common.{sym, ap, ◌∙◌, append-nil, le_refl, add-zero, zero-add, add-suc, suc-add, add_assoc, add-one, arith, length-drop, length-set, length-append, take_all, take-suc}
use Rattle.std.proofs.Math.Nat.{suc-min-suc, min-zero, zero-min}
use Rattle.std.proofs.lemmas.List.{length-replicate, set_comm}
use Rattle.std.proofs.Math.Seq.{drop-length, length-sets, set_out}
use Rattle.std.proofs.lemmas.List.Edits.{sets, sets-eq}
use Rattle.memory.specs.Wrote.{fitting, Wrote}

pub sets_append : (xs ys l : List ℕ) (i : ℕ) → sets (sets l i xs) (i + length xs) ys ≡ sets l i (xs ++ ys)
sets_append [] ys l i = rw add-zero
sets_append (x ∷ xs) ys l i = rw (add-suc, ← suc-add) (sets_append xs ys (set l i x) (suc i))

-- nothing; one byte; more bytes behind those
pub none : (l : List ℕ) (start : ℕ) → Wrote l start [] l start
none l start = record { content = refl; place = sym (add-zero start) }

pub one : (l : List ℕ) (start b : ℕ) → Wrote l start (b ∷ []) (set l start b) (start + 1)
one l start b = record { content = refl; place = refl }

pub then : {l m n : List ℕ} {start a e : ℕ} {xs ys : List ℕ} → Wrote l start xs m a → Wrote m a ys n e → Wrote l start (xs ++ ys) n e
then {l} {m} {n} {start} {a} {e} {xs} {ys} v w = record {
  content = w.content ∙ rw (v.content, v.place) (sets_append xs ys l start);
  place = w.place ∙ rw (v.place, length-append) (add_assoc start (length xs) (length ys));
}

-- one byte behind i others
pub then_one : {l m : List ℕ} {start : ℕ} {xs : List ℕ} (i b : ℕ) → Wrote l start xs m (start + i) → Wrote l start (xs ++ b ∷ []) (set m (start + i) b) (start + (i + 1))
then_one {l} {m} {start} {xs} i b w = rw (← add_assoc start i 1) (then w (one m (start + i) b))

-- the length stays
pub kept : {l m : List ℕ} {start a : ℕ} {xs : List ℕ} → Wrote l start xs m a → length m ≡ length l
kept w = ap length w.content ∙ simp length-sets

-- stored at the front: the bytes, and what stood behind them
pub front : (l vs : List ℕ) → length vs ≤ length l → sets l 0 vs ≡ vs ++ drop (length vs) l
front l vs h = sets-eq vs l 0 (rw zero-add h) ∙ rw zero-add

-- one element more
pub take_more : (l : List ℕ) (i : ℕ) → i < length l → take (i + 1) l ≡ take i l ++ (get_or l i 0 ∷ [])
take_more l i h = rw (add-one, take-suc l i 0)

replicate-suc : (n v : ℕ) → v ∷ replicate n v ≡ replicate n v ++ (v ∷ [])
replicate-suc zero v = refl
replicate-suc (suc n) v = ap (λ (l : List ℕ). v ∷ l) (replicate-suc n v)

pub replicate_more : (n v : ℕ) → replicate (n + 1) v ≡ replicate n v ++ (v ∷ [])
replicate_more n v = rw add-one (replicate-suc n v)

-- a part that runs to the end
pub rest : (l : List ℕ) (n : ℕ) → take (length l - n) (drop n l) ≡ drop n l
rest l n = take_all (length l - n) (drop n l) (rw length-drop (le_refl (length l - n)))

pub front_to : {l m vs : List ℕ} {next : ℕ} → Wrote l 0 vs m next → next ≤ length l → m ≡ vs ++ drop next l
front_to {l} {m} {vs} {next} w h =
    let e : next ≡ length vs = w.place ∙ zero-add (length vs) in
    w.content ∙ front l vs (rw e at h) ∙ rw e

-- as many bytes as there are places: the bytes
pub sets-whole : (l vs : List ℕ) → length vs ≡ length l → sets l 0 vs ≡ vs
sets-whole l vs e = front l vs (rw e (le_refl (length l))) ∙ rw (e, drop-length) (append-nil vs)

-- ---- what runs past the end is dropped

sets_out : (vs l : List ℕ) (i : ℕ) → length l ≤ i → sets l i vs ≡ l
sets_out [] l i h = refl
sets_out (v ∷ vs) l i h = rw (set_out l i v) (sets_out vs l (suc i) (omega arith))

sets-take : (n : ℕ) (vs l : List ℕ) (i : ℕ) → length l ≤ i + n → sets l i (take n vs) ≡ sets l i vs
sets-take zero vs l i h = sym (sets_out vs l i (omega arith))
sets-take (suc n) [] l i h = refl
sets-take (suc n) (v ∷ vs) l i h = sets-take n vs (set l i v) (suc i) (simp length-set (omega arith))

pub take_min : (n : ℕ) (vs : List ℕ) → take (min (length vs) n) vs ≡ take n vs
take_min zero vs = rw min-zero
take_min (suc n) [] = rw zero-min
take_min (suc n) (v ∷ vs) = rw (suc-min-suc (length vs) n) (ap (λ (l : List ℕ). v ∷ l) (take_min n vs))

-- the bytes that fit do all
pub sets-fitting : (vs l : List ℕ) (i : ℕ) → sets l i (take (fitting (length l) i (length vs)) vs) ≡ sets l i vs
sets-fitting vs l i = rw (take_min (length l - i) vs) (sets-take (length l - i) vs l i (omega arith))

take-replicate : (n k v : ℕ) → n ≤ k → take n (replicate k v) ≡ replicate n v
take-replicate zero k v h = refl
take-replicate (suc n) zero v h = absurd (omega arith)
take-replicate (suc n) (suc k) v h = ap (λ (l : List ℕ). v ∷ l) (take-replicate n k v (omega arith))

pub sets_fitting_same : (k v : ℕ) (l : List ℕ) (i : ℕ) → sets l i (replicate (fitting (length l) i k) v) ≡ sets l i (replicate k v)
sets_fitting_same k v l i = rw (← take-replicate (fitting (length l) i k) k v (omega arith)) (rw (length-replicate k v) at (sets-fitting (replicate k v) l i))

-- ---- the last byte first

pub sets_last : (xs : List ℕ) (v : ℕ) (l : List ℕ) (i j : ℕ) → j ≡ i + length xs → sets (set l j v) i xs ≡ sets l i (xs ++ v ∷ [])
sets_last [] v l i j e = rw (e, add-zero)
sets_last (x ∷ xs) v l i j e = rw (set_comm l j i v x (λ y. omega arith)) (sets_last xs v (set l i x) (suc i) j (omega arith))
