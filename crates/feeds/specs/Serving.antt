-- Outcomes served one after another, and bytes fed to a line until they are used up.
use Rattle.std.specs.Prelude.{ℕ, zero, suc, ◌≡◌, cond, List, [], ◌∷◌, ◌++◌, map, length, drop, eqb}
use Rattle.std.proofs.Math.Option.{Option, none, some}
use Rattle.frame.specs.Frame.{Outcome}
use Rattle.frame.specs.Reader.{also, State}
use Rattle.feeds.specs.System.{Entry, System, Answer, Result, World, feed, results, end_state}
use Rattle.feeds.specs.Marks.{count_of, outcome_of}

-- An outcome with its line.
unfoldable pub with_line : ℕ → Option Outcome → Option (ℕ × Outcome)
with_line l none = none
with_line l (some o) = some (l, o)

-- The outcomes told on all lines, in order, each with its line.
unfoldable pub told_all : List Entry → List Answer → List (ℕ × Outcome)
told_all [] rs = []
told_all (e ∷ es) [] = []
told_all (e ∷ es) (a ∷ rs) = also (with_line e.line (outcome_of a)) (told_all es rs)

-- A reply, if it goes with an outcome.
unfoldable pub reply_with : Option Outcome → List ℕ → Option (List ℕ)
reply_with none r = none
reply_with (some o) r = some r

-- The replies that go with an outcome, in order.
unfoldable pub replies_told : List Result → List (List ℕ)
replies_told [] = []
replies_told (r ∷ rs) = also (reply_with (outcome_of r.answer) r.reply) (replies_told rs)

-- What serving several outcomes leaves, and the replies in order.
pub record ServedAll (H : System) : Type 0 where
  pub hub : H.Hub
  pub table : H.Table
  pub replies : List (List ℕ)

-- What holds of each entry of a list.
abbrev pub Every : (Entry → Type 0) → List Entry → Type 0
Every P [] = Unit {0}
Every P (e ∷ es) = P e × Every P es

-- Every feed of the list is on line l.
abbrev pub AllOn : ℕ → List Entry → Type 0
AllOn l = Every (λ e. e.line ≡ l)

-- Outcomes of one line, each with the line.
abbrev pub on_line : ℕ → List Outcome → List (ℕ × Outcome)
on_line l = map (λ (o : Outcome). (l, o))

module _ (H : System) where
  -- One reply before others.
  unfoldable pub reply_first : List ℕ → ServedAll H → ServedAll H
  reply_first r x = record { hub = x.hub; table = x.table; replies = r ∷ x.replies }

  -- Outcomes served in order, each on the hub and the table that the one before left.
  unfoldable pub serve_all : H.Hub → H.Table → List (ℕ × Outcome) → ServedAll H
  serve_all h t [] = record { hub = h; table = t; replies = [] }
  serve_all h t (x ∷ xs) =
      reply_first (H.serve h t x.0 x.1).reply (serve_all (H.serve h t x.0 x.1).hub (H.serve h t x.0 x.1).table xs)

  -- Hub and table after a list of feeds, and the replies that went with outcomes.
  abbrev pub served_by : World H → List Entry → ServedAll H
  served_by w es = record { hub = (end_state H w es).hub; table = (end_state H w es).table; replies = replies_told (results H w es) }

  module _ (l room : ℕ) (spare : State) where
    -- An entry of line l with these bytes.
    abbrev pub entry_for : List ℕ → Entry
    entry_for bs = record { line = l; bytes = bs; room = room; spare = spare }

    -- Bytes fed to line l until they are used up, in at most n feeds: each feed is given what the ones before left over.
    unfoldable pub until_used : ℕ → World H → List ℕ → List Entry
    until_used zero w bs = []
    until_used (suc n) w bs =
        cond (eqb (length bs) 0) []
        (entry_for bs ∷ until_used n (feed H w (entry_for bs)).0 (drop (count_of (feed H w (entry_for bs)).1.answer) bs))

    -- Pieces fed to line l one after another, each until it is used up.
    unfoldable pub in_pieces : World H → List (List ℕ) → List Entry
    in_pieces w [] = []
    in_pieces w (p ∷ ps) = until_used (length p) w p ++ in_pieces (end_state H w (until_used (length p) w p)) ps

-- The lines of such a list, in order.
abbrev pub lines_of : List (ℕ × Outcome) → List ℕ
lines_of = map (λ (x : ℕ × Outcome). x.0)
