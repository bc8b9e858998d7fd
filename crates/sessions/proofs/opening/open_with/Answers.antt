use Prim.Native.Nat.{ℕ, suc, ◌*◌, ◌≤◌}
use mathlib.Core.List.{List, [], ◌∷◌}
use mathlib.Core.Path.{◌≡◌, refl, sym, ◌∙◌}
use native.Mathlib.Omega.{arith}
use lib.ListN.{length}
use lib.Seq.{sets, set_out}
use borrow.Author.Tests.{ltb-false}
use borrow.Author.Rules.{rules}
use Rattle.sessions.specs.Search.{first}
use Rattle.sessions.specs.Sessions.{slot_count, slot_size, sessions_size, slots_of, slot_bytes, with_slot, is_free}
use Rattle.sessions.specs.SlotLaws.{any-slot, first_slot}
use Rattle.sessions.specs.declared.Slot.{Slot}
use Rattle.sessions.proofs.SearchWords.{position_some, position_not}
use Rattle.sessions.proofs.opening.open_with.Goals as goal

-- what would lie behind the table's end is dropped
sets_out : (vs l : List ℕ) (i : ℕ) → length l ≤ i → sets l i vs ≡ l
sets_out [] l i h = refl
sets_out (v ∷ vs) l i h = rw (set_out l i v h) (sets_out vs l (suc i) (omega arith))

with_slot_out : (b : List ℕ) (k : ℕ) (s : Slot) → length b ≡ sessions_size → slot_count ≤ k → with_slot b k s ≡ b
unfolding with_slot
with_slot_out b k s e h = sets_out (slot_bytes s) b (k * slot_size) (omega arith)

pub put_slot-requires : goal.put_slot-requires
put_slot-requires c =
    let place : first is_free (slots_of c.args.slots.now) ≡ c.in-Some.k = (position_some is_free (slots_of c.args.slots.now) c.in-Some.k (sym c.in-Some.ensures)).1 in
    omega (arith, first_slot is_free c.args.slots.now)

pub returns-in-Some : goal.returns-in-Some
returns-in-Some c =
    let place : first is_free (slots_of c.args.slots.now) ≡ c.in-Some.k = (position_some is_free (slots_of c.args.slots.now) c.in-Some.k (sym c.in-Some.ensures)).1 in
    c.put_slot.ensures ∙ rw place

pub returns-in_default : goal.returns-in_default
returns-in_default c =
    let size : length c.args.slots.now ≡ sessions_size = search rules in
    let none = position_not is_free (slots_of c.args.slots.now) (λ k e. c.in_default.not-Some k (c.first_free.ensures ∙ e)) in
    sym (with_slot_out c.args.slots.now (first is_free (slots_of c.args.slots.now)) _ size (ltb-false _ _ (sym (any-slot is_free c.args.slots.now) ∙ none)))
