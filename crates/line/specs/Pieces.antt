-- The reader in the documents' own words: the wire is cut at every END, then each piece is decoded, and places are counted along it.
use Rattle.std.specs.Prelude.{ℕ, ◌<◌, ◌≡◌, List, [], ◌∷◌, ◌++◌, cond, length, ltb, eqb}
use Rattle.line.specs.declared.Fault.{Fault}
use Rattle.line.specs.declared.Fault.TheVariants.{WrongEscape, TooLong}
use Rattle.line.specs.Wire.{END, ESC, ESC-END, ESC-ESC}
use Rattle.line.specs.Places.{WirePlace, wire_at, wire_on, decoded_at, FaultAt}
use Rattle.line.specs.Reader.{limit, refusal, State, plain, escaped, skipping, Outcome, packet, refused}

-- the wire is cut at every END: the pieces of w that an END closes, in order, where p stands before w
unfoldable pub closed : List ℕ → List ℕ → List (List ℕ)
closed p [] = []
closed p (b ∷ w) = cond (eqb b END) (p ∷ closed [] w) (closed (p ++ b ∷ []) w)

-- and the open last piece
unfoldable pub last : List ℕ → List ℕ → List ℕ
last p [] = p
last p (b ∷ w) = cond (eqb b END) (last [] w) (last (p ++ b ∷ []) w)

-- what stands in a piece, left to right: a decoded byte that takes one or two wire bytes, an ESC with a wrong byte behind it, or an ESC at
-- the end
pub data Symbol : Type 0 where
  one : ℕ → Symbol
  two : ℕ → Symbol
  wrong : Symbol
  half : Symbol

unfoldable pub symbols : List ℕ → List Symbol
symbols [] = []
symbols (b ∷ []) = cond (eqb b ESC) half (one b) ∷ []
symbols (b ∷ c ∷ w) =
    cond (eqb b ESC)
    (cond (eqb c ESC-END) (two END ∷ symbols w) (cond (eqb c ESC-ESC) (two ESC ∷ symbols w) (wrong ∷ [])))
    (one b ∷ symbols (c ∷ w))

-- a fault at the wire place w, behind the decoded bytes h
abbrev pub fault_at : Fault → WirePlace → List ℕ → FaultAt
fault_at f w h = record { fault = f; at = record { wire = w; decoded = decoded_at (length h) } }

-- The first fault settles the piece, and the rest is skipped: the byte after an ESC where that is not DC or DD, or a 256th decoded byte, an
-- escaped one where its ESC stands. The next symbol stands at the wire place w, behind the decoded bytes h.
unfoldable pub settle : WirePlace → List ℕ → List Symbol → State
settle w h [] = plain h
settle w h (one b ∷ r) = cond (ltb (length h) limit) (settle (wire_on w 1) (h ++ b ∷ []) r) (skipping (fault_at TooLong w h))
settle w h (two b ∷ r) = cond (ltb (length h) limit) (settle (wire_on w 2) (h ++ b ∷ []) r) (skipping (fault_at TooLong w h))
settle w h (wrong ∷ r) = skipping (fault_at WrongEscape (wire_on w 1) h)
settle w h (half ∷ r) = escaped h

-- the state in which an open piece is kept
unfoldable pub decode : List ℕ → State
decode p = settle (wire_at 0) [] (symbols p)

-- the outcome of the closed piece p that is not empty; an ESC before its END is a wrong escape too, and the END the byte after it
unfoldable pub outcome : List ℕ → State → Outcome
outcome p (plain h) = packet h
outcome p (escaped h) = refused (refusal (fault_at WrongEscape (wire_at (length p)) h))
outcome p (skipping f) = refused (refusal f)

-- an empty piece gives no outcome, every other closed piece exactly one
unfoldable pub piece_outcomes : List (List ℕ) → List Outcome
piece_outcomes [] = []
piece_outcomes ([] ∷ ps) = piece_outcomes ps
piece_outcomes ((b ∷ p) ∷ ps) = outcome (b ∷ p) (decode (b ∷ p)) ∷ piece_outcomes ps

-- the wire again, from the pieces closed
unfoldable pub joined : List (List ℕ) → List ℕ
joined [] = []
joined (p ∷ ps) = p ++ END ∷ joined ps

-- what holds of each element
abbrev pub Every : {A : Type 0} → (A → Type 0) → List A → Type 0
Every P [] = Unit {0}
Every P (a ∷ l) = P a × Every P l

-- no byte is an END
abbrev pub NoEnd : List ℕ → Type 0
NoEnd = Every (λ b. b ≡ END → ⊥)

-- each number is a byte
abbrev pub Bytes : List ℕ → Type 0
Bytes = Every (λ b. b < 256)
