-- Only what is sent for given bytes is read as them: wire bytes without an END that come to whole bytes are their escaped form.
use Rattle.std.specs.Prelude.{ℕ, ◌≡◌, refl, List, [], ◌∷◌, Bool, true, false, eqb}
use Rattle.std.proofs.Common.{sym, ap, ap₂, ◌∙◌, arith, eqb-true}
use Rattle.std.proofs.lemmas.Bool.{eqb-false}
use Rattle.line.specs.Wire.{END, ESC, ESC-END, ESC-ESC, escape}
use Rattle.line.specs.Reader.{plain, emptied, inside}
use Rattle.line.specs.ReaderLaws.{escape_usual}
use Rattle.line.specs.Pieces.{NoEnd, Bytes}
use Rattle.line.specs.Reachable.{written}
use Rattle.line.specs.ReachableLaws.{written_no_end}
use Rattle.line.specs.StandingLaws.{plain_escaped}

-- a byte that is sent escaped, and what follows the ESC
pub data Pair : ℕ → ℕ → Type 0 where
  end : Pair END ESC-END
  esc : Pair ESC ESC-ESC

-- wire bytes sent for given bytes
pub data Sent : List ℕ → List ℕ → Type 0 where
  nothing : Sent [] []
  usual : {b : ℕ} {h w : List ℕ} → eqb b END ≡ false → eqb b ESC ≡ false → Sent h w → Sent (b ∷ h) (b ∷ w)
  pair : {b c : ℕ} {h w : List ℕ} → Pair b c → Sent h w → Sent (b ∷ h) (ESC ∷ c ∷ w)

-- ---- escaping

-- one byte more
sent_next : (b : ℕ) (h : List ℕ) → Sent h (escape h) → Sent (b ∷ h) (escape (b ∷ h))
unfolding escape
sent_next b h s = go (eqb b END) (eqb b ESC) refl refl
  where
    go : (t u : Bool) → eqb b END ≡ t → eqb b ESC ≡ u → Sent (b ∷ h) (escape (b ∷ h))
    go true u x y = rw (eqb-true b END x) (pair end s)
    go false true x y = rw (eqb-true b ESC y) (pair esc s)
    go false false x y = rw (escape_usual b h x y) (usual x y s)

-- the escaped bytes are sent for the bytes
pub escape-sent : (h : List ℕ) → Sent h (escape h)
unfolding escape
escape-sent [] = nothing
escape-sent (b ∷ h) = sent_next b h (escape-sent h)

-- and only they
pub sent-escape : {h w : List ℕ} → Sent h w → w ≡ escape h
unfolding escape
sent-escape nothing = refl
sent-escape (usual {b} {h} x y s) = ap (λ (l : List ℕ). b ∷ l) (sent-escape s) ∙ sym (escape_usual b h x y)
sent-escape (pair end s) = ap (λ (l : List ℕ). ESC ∷ ESC-END ∷ l) (sent-escape s)
sent-escape (pair esc s) = ap (λ (l : List ℕ). ESC ∷ ESC-ESC ∷ l) (sent-escape s)

-- no END is among them
pub escape_no_end : (h : List ℕ) → NoEnd (escape h)
unfolding written
escape_no_end h = written_no_end (plain h)

-- ---- the bytes that were sent

-- a pair's second byte tells the first
pub pair_same : {a b c : ℕ} → Pair a c → Pair b c → a ≡ b
pair_same end end = refl
pair_same esc esc = refl

-- ESC is no usual byte
pub esc_unusual : {A : Type 0} → eqb ESC ESC ≡ false → A
esc_unusual e = absurd (eqb-false ESC ESC e refl)

-- wire bytes are sent for one list only
pub sent-same : {g h w : List ℕ} → Sent g w → Sent h w → g ≡ h
sent-same nothing nothing = refl
sent-same (usual {b} x y s) (usual u v t) = ap (λ (l : List ℕ). b ∷ l) (sent-same s t)
sent-same (usual x y s) (pair q t) = esc_unusual y
sent-same (pair p s) (usual u v t) = esc_unusual v
sent-same (pair p s) (pair q t) = ap₂ (λ (n : ℕ) (l : List ℕ). n ∷ l) (pair_same p q) (sent-same s t)

-- bytes are sent for bytes
pub sent-bytes : {h w : List ℕ} → Sent h w → Bytes w → Bytes h
sent-bytes nothing x = tt
sent-bytes (usual u v s) x = (x.0, sent-bytes s x.1)
sent-bytes (pair end s) x = (omega arith, sent-bytes s x.1.1)
sent-bytes (pair esc s) x = (omega arith, sent-bytes s x.1.1)

-- ---- decoding

-- bytes without an END that are read as whole bytes were sent for them
pub decoded-sent : (w h : List ℕ) → NoEnd w → inside emptied w ≡ plain h → Sent h w
decoded-sent w h n e = rw (plain_escaped w h n e) (escape-sent h)
