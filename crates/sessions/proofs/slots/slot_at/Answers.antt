use native.Mathlib.Omega.{arith}
use Rattle.sessions.specs.SlotLaws.{slots_count, slot_at-from}
use Rattle.sessions.specs.Sessions.{slots_of, closed_slot, sessions_size}
use lib.ListN.{length, get_or-eq_default}
use mathlib.Core.Path.{◌≡◌, sym, ◌∙◌}
use borrow.Author.Rules.{rules}
use Rattle.sessions.proofs.slots.slot_at.Goals as goal

pub returns-then-k-ge-SLOTS : goal.returns-then-k-ge-SLOTS
returns-then-k-ge-SLOTS c = c.closed_slot.ensures ∙ sym (get_or-eq_default (slots_of c.args.slots.now) closed_slot (rw (slots_count c.args.slots.now) c.if-k-ge-SLOTS.true))

pub slot_from-requires : goal.slot_from-requires
slot_from-requires c =
    let size : length c.args.slots.now ≡ sessions_size = search rules in
    omega (arith, size, c.if-k-ge-SLOTS.false)

pub returns : goal.returns
returns c = c.slot_from.ensures ∙ sym (slot_at-from c.args.slots.now c.args.k c.if-k-ge-SLOTS.false)
