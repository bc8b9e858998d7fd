use Rattle.sessions.specs.Search.{any}
use Rattle.sessions.specs.Sessions.{slots_of, is_numbered, finish}
use Rattle.sessions.proofs.SearchWords.{position_some, position_none}
use mathlib.Core.Bool.{false}
use mathlib.Core.Path.{◌≡◌, sym}
use Rattle.sessions.proofs.finishing.line_of.Goals as goal

pub returns-in_err-k : goal.returns-in_err-k
unfolding finish
returns-in_err-k c =
    let none : any (is_numbered c.args.number) (slots_of c.args.slots.now) ≡ false = position_none (is_numbered c.args.number) (slots_of c.args.slots.now) (sym c.in_err-k.ensures) in
    rw c.from_residual.ensures (simp none)

pub returns : goal.returns
unfolding finish
returns c =
    let found = position_some (is_numbered c.args.number) (slots_of c.args.slots.now) c.in_ok-k.k (sym c.in_ok-k.ensures) in
    simp (found.0, found.1, c.slot_at.ensures)
