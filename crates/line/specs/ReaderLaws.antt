-- Laws of the reader, byte by byte.
use Rattle.std.specs.Prelude.{ℕ, ◌+◌, ◌≤◌, ◌≡◌, refl, List, [], ◌∷◌, ◌++◌, Bool, true, false, cond, length, eqb}
use Rattle.std.proofs.Common.{ap, ◌∙◌, append-nil, arith, length-append, eqb-true, lt-ltb}
use Rattle.std.proofs.Math.Option.{Option, none, some}
use Rattle.std.proofs.Math.Seq.{append_snoc}
use Rattle.line.specs.Wire.{END, ESC, escape}
use Rattle.line.specs.Places.{FaultAt}
use Rattle.line.specs.Reader.{limit, State, plain, skipping, emptied, Outcome, decoded, inner, inside, close, step}

-- what holds of two states holds of the one that a test picks
pub cond-holds : (P : State → Type 0) (t : Bool) (s v : State) → P s → P v → P (cond t s v)
cond-holds P true s v x y = x
cond-holds P false s v x y = y

-- after an outcome the reading is between packets
pub step_resets : (s : State) (b : ℕ) (o : Outcome) → (step s b).1 ≡ some o → (step s b).0 ≡ emptied
unfolding step
step_resets s b o e = go (eqb b END) e
  where
    go : (t : Bool) → (cond {A = State × Option Outcome} t (emptied, close s) (inner s b, none)).1 ≡ some o
        → (cond {A = State × Option Outcome} t (emptied, close s) (inner s b, none)).0 ≡ emptied
    go true e = refl
    go false e = let z : ◌≡◌ {A = ℕ} 0 1 = cc in absurd (omega arith)

pub inside_append : (s : State) (p q : List ℕ) → inside s (p ++ q) ≡ inside (inside s p) q
unfolding inside
inside_append s [] q = refl
inside_append s (b ∷ p) q = inside_append (inner s b) p q

-- the rest of a settled piece is skipped
pub inside_skipping : (f : FaultAt) (p : List ℕ) → inside (skipping f) p ≡ skipping f
unfolding inside inner
inside_skipping f [] = refl
inside_skipping f (b ∷ p) = inside_skipping f p

pub escape_usual : (b : ℕ) (p : List ℕ) → eqb b END ≡ false → eqb b ESC ≡ false → escape (b ∷ p) ≡ b ∷ escape p
unfolding escape
escape_usual b p x y = rw (x, y)

pub inner_usual : (h : List ℕ) (b : ℕ) → eqb b ESC ≡ false → inner (plain h) b ≡ decoded h b
unfolding inner
inner_usual h b y = rw y

-- an escaped byte is decoded as itself
pub inside-escape : (h : List ℕ) (b : ℕ) (p : List ℕ) → inside (plain h) (escape (b ∷ p)) ≡ inside (decoded h b) (escape p)
unfolding inside inner escape
inside-escape h b p = go (eqb b END) (eqb b ESC) refl refl
  where
    go : (t u : Bool) → eqb b END ≡ t → eqb b ESC ≡ u → inside (plain h) (escape (b ∷ p)) ≡ inside (decoded h b) (escape p)
    go true u x y = rw (eqb-true b END x)
    go false true x y = rw (eqb-true b ESC y)
    go false false x y = ap (inside (plain h)) (escape_usual b p x y) ∙ ap (λ (s : State). inside s (escape p)) (inner_usual h b y)

-- what is sent escaped is decoded, as far as there is room for it
pub inside_escaped : (h p : List ℕ) → length h + length p ≤ limit → inside (plain h) (escape p) ≡ plain (h ++ p)
unfolding inside escape decoded
inside_escaped h [] x = rw append-nil
inside_escaped h (b ∷ p) x =
    inside-escape h b p
    ∙ rw (lt-ltb (length h) limit (omega arith)) (inside_escaped (h ++ b ∷ []) p (omega (arith, length-append h (b ∷ []))))
    ∙ ap plain (append_snoc h b p)
