-- Which records bytes leave, and what those are taken as that none leave (document 02, CR 2).
use Rattle.std.specs.Prelude.{ℕ, zero, suc, ◌≤◌, ◌<◌, ◌≡◌, refl, Bool, true, false, cond, List, [], ◌∷◌, length, take, ltb}
use Rattle.std.proofs.Common.{sym, ap, ◌∙◌, arith, ltb-false}
use Rattle.line.specs.declared.Mode.{Mode}
use Rattle.line.specs.declared.Mode.TheVariants.{Plain, Escaped, Skipping}
use Rattle.line.specs.declared.Reading.{Reading}
use Rattle.line.specs.Places.{FaultAt}
use Rattle.line.specs.Scan.{final}
use Rattle.line.specs.Reader.{limit, State, plain, escaped, skipping, emptied, held, step}
use Rattle.line.specs.Reachable.{Reachable, Possible, possible, written}
use Rattle.line.specs.ReachableLaws.{possible-true, bytes_reachable, reachable_written, written-bytes}
use Rattle.line.specs.Pieces.{Every, Bytes}
use Rattle.line.specs.Answers.{at, held_as, taken_as, taken, Clear}
use Rattle.line.specs.AnswerLaws.{clear_held, clear_reachable}

-- the record r lies in the state s: it claims the bytes that s holds
pub record Lies (r : Reading) (s : State) : Type 0 where
  pub state : at (take r.count r.bytes) r.mode ≡ s
  pub count : r.count ≡ length (held s)

-- some bytes, read from between packets, leave it so
abbrev pub Left : Reading → Type 0
Left r = (w : List ℕ) × Bytes w × Lies r (final step emptied w)

every_take : {A : Type 0} (P : A → Type 0) (n : ℕ) (l : List A) → Every P l → Every P (take n l)
every_take P zero l x = tt
every_take P (suc n) [] x = tt
every_take P (suc n) (a ∷ l) x = (x.0, every_take P n l x.1)

held_bytes : (bs : List ℕ) (n : ℕ) (m : Mode) → Bytes bs → Bytes (held (at (take n bs) m))
held_bytes bs n Plain x = every_take (λ b. b < 256) n bs x
held_bytes bs n Escaped x = every_take (λ b. b < 256) n bs x
held_bytes bs n (Skipping f) x = tt

-- A record is left by some bytes unless it claims more than 255, or any while it skips, or skips at places beyond the bounds:
pub left-some : (r : Reading) → length r.bytes ≡ limit → Bytes r.bytes → r.count ≤ limit → Clear r.mode r.count → Left r
left-some r full b n c =
    let s = at (take r.count r.bytes) r.mode in
    let e : final step emptied (written s) ≡ s = reachable_written s (clear_reachable r.bytes r.count r.mode n c) in
    let k : r.count ≡ length (held s) = sym (clear_held r.bytes r.count r.mode (omega arith) c) in (
      written s,
      written-bytes s (held_bytes r.bytes r.count r.mode b),
      record { state = sym e; count = k ∙ ap (λ (z : State). length (held z)) (sym e) },
    )

-- and none of these is left by any
lies_clear : (bs : List ℕ) (n : ℕ) (m : Mode) (s : State) → Reachable s → at (take n bs) m ≡ s → n ≡ length (held s) → (n ≤ limit) × Clear m n
lies_clear bs n Plain (plain h) x e k = (omega arith, tt)
lies_clear bs n Plain (escaped h) x e k = let z : ◌≡◌ {A = ℕ} 0 1 = cc in absurd (omega arith)
lies_clear bs n Plain (skipping f) x e k = let z : ◌≡◌ {A = ℕ} 0 1 = cc in absurd (omega arith)
lies_clear bs n Escaped (plain h) x e k = let z : ◌≡◌ {A = ℕ} 0 1 = cc in absurd (omega arith)
lies_clear bs n Escaped (escaped h) x e k = (omega arith, tt)
lies_clear bs n Escaped (skipping f) x e k = let z : ◌≡◌ {A = ℕ} 0 1 = cc in absurd (omega arith)
lies_clear bs n (Skipping g) (plain h) x e k = let z : ◌≡◌ {A = ℕ} 0 1 = cc in absurd (omega arith)
lies_clear bs n (Skipping g) (escaped h) x e k = let z : ◌≡◌ {A = ℕ} 0 1 = cc in absurd (omega arith)
lies_clear bs n (Skipping g) (skipping f) x e k = let z : f ≡ g = cc in (omega arith, (k, rw z at x))

pub left-none : (r : Reading) → Left r → (r.count ≤ limit) × Clear r.mode r.count
left-none r (w, b, x) = lies_clear r.bytes r.count r.mode (final step emptied w) (bytes_reachable w) x.state x.count

-- document 01's case: it skips, with places that bytes leave, and claims 1 to 255
abbrev pub SkipsWithBytes : Mode → ℕ → Type 0
SkipsWithBytes Plain n = ⊥
SkipsWithBytes Escaped n = ⊥
SkipsWithBytes (Skipping f) n = (0 < n) × (n ≤ limit) × Possible f

positive : (n : ℕ) → (n ≡ 0 → ⊥) → 0 < n
positive zero x = absurd (x refl)
positive (suc n) x = omega arith

module _ (bs : List ℕ) (n : ℕ) where
  -- n bytes claimed, no more than 255, of a record that skips
  skips_emptied : (f : FaultAt) → n ≤ limit → (Clear (Skipping f) n → ⊥) → (SkipsWithBytes (Skipping f) n → ⊥) → held_as (take n bs) (Skipping f) ≡ emptied
  skips_emptied f h never apart = go (possible f) refl
    where
      go : (t : Bool) → possible f ≡ t → cond t (skipping f) emptied ≡ emptied
      go false e = refl
      go true e = absurd (apart (positive n (λ z. never (z, possible-true f e)), h, possible-true f e))

  -- of any
  held-emptied : (m : Mode) → n ≤ limit → (Clear m n → ⊥) → (SkipsWithBytes m n → ⊥) → held_as (take n bs) m ≡ emptied
  held-emptied Plain h never apart = absurd (never tt)
  held-emptied Escaped h never apart = absurd (never tt)
  held-emptied (Skipping f) h never apart = skips_emptied f h never apart

  claims_emptied : (m : Mode) → (n ≤ limit → Clear m n → ⊥) → (SkipsWithBytes m n → ⊥) → taken_as bs n m ≡ emptied
  claims_emptied m never apart = go (ltb limit n) refl
    where
      go : (t : Bool) → ltb limit n ≡ t → cond t emptied (held_as (take n bs) m) ≡ emptied
      go true e = refl
      go false e = held-emptied m (ltb-false limit n e) (never (ltb-false limit n e)) apart

-- "Document 01's cases apart, a lent record that no bytes could leave is taken as emptied."
pub not_left : (r : Reading) → length r.bytes ≡ limit → Bytes r.bytes → (Left r → ⊥) → (SkipsWithBytes r.mode r.count → ⊥) → taken r ≡ emptied
not_left r full b never apart = claims_emptied r.bytes r.count r.mode (λ n c. never (left-some r full b n c)) apart
