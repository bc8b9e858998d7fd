-- Lists of calls: the host's and the lines' together.
use Rattle.std.specs.Prelude.{ℕ, ◌≡◌, List, [], ◌∷◌, Bool, true, false, cond, ◌&&◌, length, take, drop, get_or, set, eqb}
use Rattle.std.proofs.Math.Option.{Option, none, some}
use Rattle.frame.specs.Frame.{Outcome, frame, refused}
use Rattle.frame.specs.Reader.{State}
use Rattle.feeds.specs.System as feeds
use Rattle.feeds.specs.Marks.{outcome_of}
use Rattle.rules.specs.declared.Hub.{Hub}
use Rattle.passwords.specs.Passwords.{is_same, stored}
use Rattle.rules.specs.Hub as rules

-- the hub, its table and the four lines' reading states
abbrev pub World : Type 0
World = feeds.World rules.hub

-- a call, by what it is given: room by its length, and a state for a line that has none of its own
pub data Call : Type 0 where
  start : List ℕ → Call
  enrol : ℕ → ℕ → Call
  close : ℕ → State → Call
  finish : ℕ → ℕ → Call
  feed : feeds.Entry → Call

-- what a call leaves
unfoldable pub after : World → Call → World
after w (start p) =
    let r = rules.start w.hub w.table p in
    record { hub = r.hub; table = r.table; states = w.states }
after w (enrol n type) = record { hub = w.hub; table = (rules.enrol w.table n type).table; states = w.states }
after w (close l spare) =
    let r = rules.close w.hub (get_or w.states l spare) l in
    record { hub = r.hub; table = w.table; states = set w.states l r.state }
after w (finish x room) = record { hub = (rules.finish w.hub x room).hub; table = w.table; states = w.states }
after w (feed e) = (feeds.feed rules.hub w e).0

unfoldable pub after_all : World → List Call → World
after_all w [] = w
after_all w (c ∷ cs) = after_all (after w c) cs

-- an outcome that gives the right password: password enter, 32 bytes, whose password is the hub's
unfoldable pub is_password : Hub → Option Outcome → Bool
is_password h none = false
is_password h (some (refused n)) = false
is_password h (some (frame c d)) = eqb c rules.password_enter && (eqb (length d) rules.password_size && is_same d h.password)

-- a call that is not refused logs out
abbrev pub unless_refused : Option ℕ → Bool → Bool
unless_refused none b = false
unless_refused (some n) b = b

-- whether line l stays or becomes logged in by a call, where b says that it is: start and its close log it out, and only the right
-- password on it logs it in
unfoldable pub logged_by : ℕ → Bool → World → Call → Bool
logged_by l b w (start p) = unless_refused (rules.start_refusal w.table p) b
logged_by l b w (enrol n type) = b
logged_by l b w (close k spare) = cond (eqb k l) false b
logged_by l b w (finish x room) = b
logged_by l b w (feed e) = cond (eqb e.line l && is_password w.hub (outcome_of (feeds.feed rules.hub w e).1.answer)) true b

unfoldable pub logged_by_all : ℕ → Bool → World → List Call → Bool
logged_by_all l b w [] = b
logged_by_all l b w (c ∷ cs) = logged_by_all l (logged_by l b w c) (after w c) cs

-- data that change the password p, where i says whether their line is logged in: 64 bytes, whose first half is the password
abbrev pub is_change : List ℕ → Bool → List ℕ → Bool
is_change p i d = eqb (length d) rules.change_size && (i && is_same (take rules.password_size d) p)

-- what an outcome changes it to: the new half of a password change, as it is stored
unfoldable pub new_password : List ℕ → Bool → Option Outcome → Option (List ℕ)
new_password p i none = none
new_password p i (some (refused n)) = none
new_password p i (some (frame c d)) = cond (eqb c rules.password_change && is_change p i d) (some (stored (drop rules.password_size d))) none

-- a password p, or the new one where there is one
abbrev pub replaced_by : Option (List ℕ) → List ℕ → List ℕ
replaced_by none p = p
replaced_by (some q) p = q

-- a password p, or that of a start that is not refused
abbrev pub started_with : Option ℕ → List ℕ → List ℕ → List ℕ
started_with none q p = stored q
started_with (some n) q p = p

-- the password after a call, where p is that before it
unfoldable pub password_by : List ℕ → World → Call → List ℕ
password_by p w (start q) = started_with (rules.start_refusal w.table q) q p
password_by p w (enrol n type) = p
password_by p w (close l spare) = p
password_by p w (finish x room) = p
password_by p w (feed e) = replaced_by (new_password p (rules.is_logged_in w.hub e.line) (outcome_of (feeds.feed rules.hub w e).1.answer)) p

unfoldable pub password_by_all : List ℕ → World → List Call → List ℕ
password_by_all p w [] = p
password_by_all p w (c ∷ cs) = password_by_all (password_by p w c) (after w c) cs

-- calls that are all feeds of lines that are not logged in when they come
abbrev pub Unprivileged : World → List Call → Type 0
Unprivileged w [] = Unit {0}
Unprivileged w (start p ∷ cs) = ⊥
Unprivileged w (enrol n type ∷ cs) = ⊥
Unprivileged w (close l spare ∷ cs) = ⊥
Unprivileged w (finish x room ∷ cs) = ⊥
Unprivileged w (feed e ∷ cs) = (rules.is_logged_in w.hub e.line ≡ false) × Unprivileged (after w (feed e)) cs
