use Rattle.sessions.specs.Search.{any, first}
use Rattle.sessions.specs.SlotLaws.{first_slot}
use Rattle.sessions.specs.Sessions.{slots_of, is_numbered, finish}
use Rattle.sessions.proofs.SearchWords.{position_some, position_not}
use mathlib.Core.Bool.{false}
use native.Mathlib.Omega.{arith}
use mathlib.Core.Path.{◌≡◌, sym, ◌∙◌}
use Rattle.sessions.proofs.finishing.finish.Goals as goal

pub put_slot-requires : goal.put_slot-requires
put_slot-requires c =
    let place : first (is_numbered c.args.number) (slots_of c.args.slots.now) ≡ c.in-Some.k = (position_some (is_numbered c.args.number) (slots_of c.args.slots.now) c.in-Some.k (sym c.in-Some.ensures)).1 in
    omega (arith, first_slot (is_numbered c.args.number) c.args.slots.now)

pub returns-in-Some : goal.returns-in-Some
unfolding finish
returns-in-Some c =
    let found = position_some (is_numbered c.args.number) (slots_of c.args.slots.now) c.in-Some.k (sym c.in-Some.ensures) in
    c.put_slot.ensures ∙ simp (found.0, found.1, c.closed_slot.ensures)

pub returns-in_default : goal.returns-in_default
unfolding finish
returns-in_default c =
    let none : any (is_numbered c.args.number) (slots_of c.args.slots.now) ≡ false = position_not (is_numbered c.args.number) (slots_of c.args.slots.now) (λ k e. c.in_default.not-Some k (c.first_numbered.ensures ∙ e)) in
    simp none
