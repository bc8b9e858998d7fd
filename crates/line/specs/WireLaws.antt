-- Laws of escaping.
use Rattle.std.specs.Prelude.{ℕ, ◌+◌, ◌*◌, ◌≤◌, ◌<◌, ◌≡◌, refl, List, [], ◌∷◌, ◌++◌, Bool, true, false, cond, length, take, get_or, eqb}
use Rattle.std.proofs.Common.{ap, add-one, arith, length-append, take-append-drop, take-suc, ne_eqb}
use Rattle.line.specs.Wire.{END, ESC, ESC-END, ESC-ESC, escape}

-- one byte
pub escape_end : (b : ℕ) → b ≡ END → escape (b ∷ []) ≡ ESC ∷ ESC-END ∷ []
unfolding escape
escape_end b e = rw e

pub escape_esc : (b : ℕ) → b ≡ ESC → escape (b ∷ []) ≡ ESC ∷ ESC-ESC ∷ []
unfolding escape
escape_esc b e = rw e

pub escape-plain : (b : ℕ) → (b ≡ END → ⊥) → (b ≡ ESC → ⊥) → escape (b ∷ []) ≡ b ∷ []
unfolding escape
escape-plain b p q = rw (ne_eqb b END p, ne_eqb b ESC q)

-- bytes one behind the other are escaped one behind the other
pub escape_append : (a b : List ℕ) → escape (a ++ b) ≡ escape a ++ escape b
unfolding escape
escape_append [] b = refl
escape_append (x ∷ a) b = go (eqb x END) (eqb x ESC) (escape_append a b)
  where
    go : (t u : Bool) → escape (a ++ b) ≡ escape a ++ escape b
        → cond t (ESC ∷ ESC-END ∷ escape (a ++ b)) (cond u (ESC ∷ ESC-ESC ∷ escape (a ++ b)) (x ∷ escape (a ++ b)))
        ≡ cond t (ESC ∷ ESC-END ∷ escape a) (cond u (ESC ∷ ESC-ESC ∷ escape a) (x ∷ escape a)) ++ escape b
    go true u e = rw e
    go false true e = rw e
    go false false e = rw e

-- each byte is sent as one or two
pub escape_short : (p : List ℕ) → length (escape p) ≤ 2 * length p
unfolding escape
escape_short [] = omega arith
escape_short (b ∷ p) = go (eqb b END) (eqb b ESC) (escape_short p)
  where
    go : (t u : Bool) → length (escape p) ≤ 2 * length p
        → length (cond t (ESC ∷ ESC-END ∷ escape p) (cond u (ESC ∷ ESC-ESC ∷ escape p) (b ∷ escape p))) ≤ 2 * length (b ∷ p)
    go true u h = omega arith
    go false true h = omega arith
    go false false h = omega arith

-- one byte more
pub escape_more : (l : List ℕ) (i : ℕ) → i < length l → escape (take (i + 1) l) ≡ escape (take i l) ++ escape (get_or l i 0 ∷ [])
escape_more l i h = rw (add-one, take-suc l i 0, escape_append)

-- the bytes up to i and the next one are within the whole
pub escape_within : (l : List ℕ) (i : ℕ) → i < length l → length (escape (take i l)) + length (escape (get_or l i 0 ∷ [])) ≤ length (escape l)
escape_within l i h =
    omega (
      arith,
      simp (escape_more l i h, length-append, escape_append) at (ap (λ (k : List ℕ). length (escape k)) (take-append-drop (i + 1) l)),
    )
