-- What one damaged wire byte does to the decoded bytes, and why the checks do not accept it.
use Rattle.std.specs.Prelude.{ℕ, suc, ◌≡◌, refl, List, ◌∷◌, length}
use Rattle.std.proofs.Common.{sym, ◌∙◌, arith}
use Rattle.line.specs.Wire.{END, ESC, ESC-END, ESC-ESC}
use Rattle.frame.specs.Xor.{◌⊕◌, xor_all}
use Rattle.frame.specs.XorLaws.{⊕-assoc, zero-⊕, ⊕-cancel, ⊕-cancel-right}
use Rattle.frame.specs.Frame.{Refusal, Outcome, frame, refused, judge}
use Rattle.frame.specs.Accepted.{Accepted}
use Rattle.frame.proofs.JudgeLaws.{judge-accepted}
use Rattle.frame.specs.Damage.{Damage, replaced, inserted, lost, further}
use Rattle.frame.specs.EscapeLaws.{Pair, end, esc, Sent, usual, pair, pair_same, esc_unusual, sent-same}

-- Of the decoded bytes before and after: one is another, one is more or less, one that was sent escaped became two, of which
-- the second is its pair's, or two became one.
pub data Change : List ℕ → List ℕ → Type 0 where
  other : {a b : ℕ} {h : List ℕ} → (a ≡ b → ⊥) → Change (a ∷ h) (b ∷ h)
  more : {b : ℕ} {h : List ℕ} → Change h (b ∷ h)
  less : {a : ℕ} {h : List ℕ} → Change (a ∷ h) h
  split : {a b c : ℕ} {h : List ℕ} → Pair a c → Change (a ∷ h) (b ∷ c ∷ h)
  joined : {a b c : ℕ} {h : List ℕ} → Pair b c → Change (a ∷ c ∷ h) (b ∷ h)
  later : {a : ℕ} {g h : List ℕ} → Change g h → Change (a ∷ g) (a ∷ h)

-- the two bytes of a pair differ
pair_differ : {b c : ℕ} → Pair b c → b ≡ c → ⊥
pair_differ end e = omega arith
pair_differ esc e = omega arith

-- another second byte means another byte
pair_other : {a b c d : ℕ} → Pair a c → Pair b d → (c ≡ d → ⊥) → a ≡ b → ⊥
pair_other end end ne e = ne refl
pair_other end esc ne e = omega arith
pair_other esc end ne e = omega arith
pair_other esc esc ne e = ne refl

-- by itself, a pair's second byte is read as it is
second-sent : {b c : ℕ} {h w : List ℕ} → Pair b c → Sent h w → Sent (c ∷ h) (c ∷ w)
second-sent end s = usual refl refl s
second-sent esc s = usual refl refl s

-- one damaged wire byte makes one change, where the damaged wire can be decoded
pub damage_change : {g h v w : List ℕ} → Sent g v → Sent h w → Damage v w → Change g h
damage_change (usual x y s) (usual u z t) (replaced ne n) = rw (sent-same s t) (other ne)
damage_change (usual x y s) (pair q t) (replaced ne n) = rw (sent-same s (second-sent q t)) (joined q)
damage_change (pair p s) (usual x y t) (replaced ne n) = rw (sent-same t (second-sent p s)) (split p)
damage_change (pair p s) (pair q t) (replaced ne n) = absurd (ne refl)
damage_change s (usual x y t) (inserted n) = rw (sent-same s t) more
damage_change s (pair q t) (inserted n) = rw (sent-same s (second-sent q t)) (other (λ e. pair_differ q (sym e)))
damage_change (usual x y s) t lost = rw (sent-same s t) less
damage_change (pair p s) t lost = rw (sent-same t (second-sent p s)) (other (pair_differ p))
damage_change (usual x y s) (usual u z t) (further d) = later (damage_change s t d)
damage_change (usual x y s) (pair q t) (further d) = esc_unusual y
damage_change (pair p s) (usual u z t) (further d) = esc_unusual z
damage_change (pair p s) (pair q t) (further (replaced ne n)) = rw (sent-same s t) (other (pair_other p q ne))
damage_change (pair p s) (pair q t) (further (inserted n)) = rw (sent-same t (second-sent p s)) (split p)
damage_change (pair p s) (pair q t) (further lost) = rw (sent-same s (second-sent q t)) (joined q)
damage_change (pair p s) (pair q t) (further (further d)) = rw (pair_same p q) (later (damage_change s t d))

-- ---- the checks do not accept both before and after

-- beyond the second byte the length or the exclusive or differs
change_differs : {g h : List ℕ} → Change g h → length g ≡ length h → xor_all g ≡ xor_all h → ⊥
unfolding xor_all
change_differs (other {h = h} ne) l x = ne (⊕-cancel-right (xor_all h) x)
change_differs (more {h = h}) l x = omega arith
change_differs (less {h = h}) l x = omega arith
change_differs (split p) l x = omega arith
change_differs (joined p) l x = omega arith
change_differs (later {a} c) l x = change_differs c (omega arith) (⊕-cancel a x)

-- a byte more or less that keeps the exclusive or is 0
one_more : (a x : ℕ) → a ⊕ x ≡ x → a ≡ 0
one_more a x e = ⊕-cancel-right x (e ∙ sym (zero-⊕ x))

-- one byte in the place of two that keeps it is theirs
two_for_one : (a b c x : ℕ) → a ⊕ x ≡ b ⊕ (c ⊕ x) → a ≡ b ⊕ c
two_for_one a b c x e = ⊕-cancel-right x (e ∙ sym (⊕-assoc b c x))

-- which an escaped byte in the place of the length is not: the length would be one more than it
pair_length : {a c : ℕ} (b : ℕ) → Pair a c → b ≡ suc a → a ≡ b ⊕ c → ⊥
unfolding ◌⊕◌
pair_length b end p e = let z : END ≡ suc END ⊕ ESC-END = rw p at e in omega arith
pair_length b esc p e = let z : ESC ≡ suc ESC ⊕ ESC-ESC = rw p at e in omega arith

-- nor do the checks accept both where the change is at the second byte, which is the length
second_clashes : {b : ℕ} {g h : List ℕ} → Change g h → Accepted (b ∷ g) → Accepted (b ∷ h) → xor_all g ≡ xor_all h → ⊥
unfolding xor_all
second_clashes (other ne) f k x = ne (omega arith)
second_clashes (more {b} {h}) f k x = let z : b ≡ 0 = one_more b (xor_all h) (sym x) in omega arith
second_clashes (less {a} {h}) f k x = let z : a ≡ 0 = one_more a (xor_all h) x in omega arith
second_clashes (split {a} {b} {c} {h} p) f k x = pair_length b p (omega arith) (two_for_one a b c (xor_all h) x)
second_clashes (joined {a} {b} {c} {h} p) f k x = pair_length a p (omega arith) (two_for_one b a c (xor_all h) (sym x))
second_clashes (later {a} c) f k x = change_differs c (omega arith) (⊕-cancel a x)

-- or at the first, which is 0
change_clashes : {g h : List ℕ} → Change g h → Accepted g → Accepted h → ⊥
unfolding xor_all
change_clashes (other ne) f k = ne (omega arith)
change_clashes more f k = omega arith
change_clashes less f k = omega arith
change_clashes (split end) f k = omega arith
change_clashes (split esc) f k = omega arith
change_clashes (joined end) f k = omega arith
change_clashes (joined esc) f k = omega arith
change_clashes (later {a} c) f k = second_clashes c f k (⊕-cancel a (f.check ∙ sym k.check))

-- a change of what they accept is refused
pub change_refused : {g h : List ℕ} → Change g h → Accepted g → (n : Refusal) × (judge h ≡ refused n)
change_refused {h} x a = go (judge h) refl
  where
    go : (o : Outcome) → judge h ≡ o → (n : Refusal) × (judge h ≡ refused n)
    go (frame c d) e = absurd (change_clashes x a (judge-accepted e))
    go (refused n) e = (n, e)
