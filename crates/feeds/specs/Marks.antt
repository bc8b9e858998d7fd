-- What is read off entries and answers alone: the bytes used on a line, the outcomes told on it, and which feeds belong to which outcome.
use Rattle.std.specs.Prelude.{ℕ, suc, ◌≡◌, Bool, false, cond, List, [], ◌∷◌, ◌++◌, map, take, eqb}
use Rattle.std.proofs.Math.Option.{Option, none, some}
use Rattle.frame.specs.Frame.{Outcome}
use Rattle.frame.specs.Reader.{also}
use Rattle.feeds.specs.System.{Entry, System, Answer, refused, told, Result, World, results, end_state}

-- The answers, and the replies, of some results.
abbrev pub answers : List Result → List Answer
answers = map (λ (r : Result). r.answer)

abbrev pub replies : List Result → List (List ℕ)
replies = map (λ (r : Result). r.reply)

-- The answers that a list of feeds gives.
abbrev pub answers_of : (H : System) → World H → List Entry → List Answer
answers_of H w es = answers (results H w es)

-- How many bytes an answer tells as used.
unfoldable pub count_of : Answer → ℕ
count_of (refused n) = 0
count_of (told u o k) = u

-- The outcome that an answer tells.
unfoldable pub outcome_of : Answer → Option Outcome
outcome_of (refused n) = none
outcome_of (told u o k) = o

-- One outcome more, if there is one.
unfoldable pub counted : ℕ → Option Outcome → ℕ
counted n none = n
counted n (some o) = suc n

module _ (l : ℕ) where
  -- The outcome that a feed tells on line l.
  abbrev pub outcome_on : Entry → Answer → Option Outcome
  outcome_on e a = cond (eqb e.line l) (outcome_of a) none

  -- The bytes used on line l, one feed after another.
  unfoldable pub used_on : List Entry → List Answer → List ℕ
  used_on [] rs = []
  used_on (e ∷ es) [] = []
  used_on (e ∷ es) (a ∷ rs) = cond (eqb e.line l) (take (count_of a) e.bytes) [] ++ used_on es rs

  -- The outcomes told on line l.
  unfoldable pub told_on : List Entry → List Answer → List Outcome
  told_on [] rs = []
  told_on (e ∷ es) [] = []
  told_on (e ∷ es) (a ∷ rs) = also (outcome_on e a) (told_on es rs)

  -- Which feeds belong to outcome number k of line l, if n outcomes were told on it before them: those on l before which k were told.
  unfoldable pub marks_from : ℕ → ℕ → List Entry → List Answer → List Bool
  marks_from k n [] rs = []
  marks_from k n (e ∷ es) [] = []
  marks_from k n (e ∷ es) (a ∷ rs) = cond (eqb e.line l) (eqb n k) false ∷ marks_from k (counted n (outcome_on e a)) es rs

  -- The feeds of outcome number k of line l, counted from 0: all those on l, refused ones included, after the outcome before it on l,
  -- or from the list's start, up to its own outcome.
  abbrev pub marks : ℕ → List Entry → List Answer → List Bool
  marks k = marks_from k 0

module _ {A : Type 0} where
  -- The marked ones of a list.
  unfoldable pub marked : List Bool → List A → List A
  marked [] l = []
  marked (m ∷ ms) [] = []
  marked (m ∷ ms) (a ∷ l) = cond m (a ∷ marked ms l) (marked ms l)

  -- The list without the marked ones.
  unfoldable pub unmarked : List Bool → List A → List A
  unmarked [] l = l
  unmarked (m ∷ ms) [] = []
  unmarked (m ∷ ms) (a ∷ l) = cond m (unmarked ms l) (a ∷ unmarked ms l)

-- Those of some replies that are not empty.
unfoldable pub nonempty : List (List ℕ) → List (List ℕ)
nonempty [] = []
nonempty ([] ∷ l) = nonempty l
nonempty ((b ∷ r) ∷ l) = (b ∷ r) ∷ nonempty l

-- The marked feeds send one reply, and without them all else is the same.
pub record Isolated (H : System) (reply : List ℕ) (w : World H) (es : List Entry) (m : List Bool) : Type 0 where
  pub one_reply : nonempty (replies (marked m (results H w es))) ≡ reply ∷ []
  pub same_results : results H w (unmarked m es) ≡ unmarked m (results H w es)
  pub same_end : end_state H w (unmarked m es) ≡ end_state H w es
