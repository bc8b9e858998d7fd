use Prim.Native.Nat.{ℕ}
use mathlib.Core.Bool.{Bool, true, false}
use mathlib.Core.List.{List}
use mathlib.Core.Path.{◌≡◌, refl, sym, ap, ◌∙◌}
use native.Mathlib.Numerals.{add-one}
use Rattle.sessions.specs.declared.Slot.{Slot}
use Rattle.sessions.specs.Sessions.{closed_slot, slot_at, with_slot, close_one, close_below}
use Rattle.sessions.proofs.closing.close_where.Goals as goal
use Rattle.sessions.proofs.closing.close_where.Goals.{then-test, else-test}

-- a slot that passes is closed, and another stays
module _ (p : Slot → Bool) (k : ℕ) (b : List ℕ) where
  closed : p (slot_at b k) ≡ true → close_one p k b ≡ with_slot b k closed_slot
  unfolding close_one
  closed e = rw e

  kept : p (slot_at b k) ≡ false → close_one p k b ≡ b
  unfolding close_one
  kept e = rw e

pub loop-k-init : goal.loop-k-init
unfolding close_below
loop-k-init g c p h = refl

pub loop-k-preserved : goal.loop-k-preserved
unfolding close_below
loop-k-preserved g c p h =
    let on = ap (close_one p c.loop-k.k) (c.loop-k.invariant p h) in
    let tested : c.test.result ≡ p (slot_at c.loop-k.slots c.loop-k.k) = h _ _ c.test.ensures ∙ ap p c.slot_at.ensures in
    elim c.if-test.branch [
      | then-test w ↦ rw (w.slots-is, add-one) (w.put_slot.ensures ∙ rw w.closed_slot.ensures (sym (closed p _ _ (sym tested ∙ w.if-test.true)) ∙ on))
      | else-test w ↦ rw (w.slots-is, add-one) (sym (kept p _ _ (sym tested ∙ w.if-test.false)) ∙ on)
    ]
