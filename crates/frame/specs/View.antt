-- The view: what is shown of a packet, where it lies, and what `show` promises (document 01, "From packet to frame").
use Rattle.std.specs.Prelude.{ℕ, ◌+◌, ◌≤◌, ◌≡◌, List, [], cond, length, take, drop, eqb}
use Rattle.std.specs.Borrow.{Bor}
use Rattle.frame.specs.declared.view.View.{View}
use Rattle.line.specs.declared.Places.{Places}
use Rattle.frame.specs.Frame.{places_at, Outcome, frame, refused, head}

-- a frame's command number, data, 0 and no place; of a refused packet 0, none, the number of its refusal and where it broke
abbrev pub shown_command : Outcome → ℕ
shown_command (frame c d) = c
shown_command (refused n) = 0

abbrev pub shown_data : Outcome → List ℕ
shown_data (frame c d) = d
shown_data (refused n) = []

abbrev pub shown_refusal : Outcome → ℕ
shown_refusal (frame c d) = 0
shown_refusal (refused n) = n.number

abbrev pub shown_at : Outcome → Places
shown_at (frame c d) = places_at 0 0
shown_at (refused n) = n.at

-- where the data begin: behind a frame's head; of a refused packet, at its start
abbrev pub shown_start : Outcome → ℕ
shown_start (frame c d) = head
shown_start (refused n) = 0

-- the reference r is the n bytes of the lent slice x from s on, where they lie: no copy of them
pub record Part (x : Bor (List ℕ)) (s n : ℕ) (r : Bor (List ℕ)) : Type 0 where
  pub place : r.ref_ptr ≡ (x.ref_ptr.0, x.ref_ptr.1 + s)
  pub bytes : r.now ≡ take n (drop s x.now)
  pub within : s + n ≤ length x.now

-- the view v of the lent slice x shows the outcome o
pub record Shows (o : Outcome) (x : Bor (List ℕ)) (v : View) : Type 0 where
  pub command : v.command ≡ shown_command o
  pub told : v.«data».now ≡ shown_data o
  pub refusal : v.refusal ≡ shown_refusal o
  pub at : v.at ≡ shown_at o
  pub part : Part x (shown_start o) (length (shown_data o)) v.«data»

-- the outcome that a view tells: the refusal that it shows, or, if that is 0, the frame
abbrev pub outcome_in : View → Outcome
outcome_in v = cond (eqb v.refusal 0) (frame v.command v.«data».now) (refused (record { number = v.refusal; at = v.at }))
