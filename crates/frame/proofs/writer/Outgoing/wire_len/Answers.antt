use Rattle.std.specs.Prelude.{ℕ, ◌+◌, ◌≤◌, ◌≡◌, List, [], ◌∷◌, length}
use Rattle.std.proofs.Common.{ap, ◌∙◌, arith}
use Rattle.line.specs.Wire.{escape}
use Rattle.line.specs.Places.{wire_length}
use Rattle.line.specs.WireLaws.{escape_short}
use Rattle.frame.specs.Frame.{max_data, head_of, wire}
use Rattle.frame.specs.Writer.{check, room_for_any}
use Rattle.frame.specs.WireLaws.{wire-length, wire_fits}
use Rattle.frame.proofs.writer.Outgoing.wire_len.Goals as goal

-- the bytes of head and data with their ESCs, and the check byte's, come to the wire form's, which is no more than the room for any
module _ (c : ℕ) (d : List ℕ) (few : length d ≤ max_data) (h : ℕ) (head : 4 + h ≡ length (escape (head_of c (length d)))) where
  head_fits : 4 + length d + h ≤ room_for_any
  head_fits = omega (arith, few, escape_short (head_of c (length d)))

  module _ (k : ℕ) (payload : length d + k ≡ length (escape d)) where
    begun : 4 + length d + h + k ≤ room_for_any
    begun = omega (arith, wire-length c d, wire_fits c d few)

    whole : (b w : ℕ) → b ≡ check c d → w ≡ wire_length (b ∷ [])
        → (4 + length d + h + k + w + 2 ≡ length (wire c d)) × (4 + length d + h + k + w + 2 ≤ room_for_any)
    unfolding wire_length
    whole b w e f =
        let g : w ≡ length (escape (check c d ∷ [])) = f ∙ ap (λ (x : ℕ). length (escape (x ∷ []))) e in
        (omega (arith, wire-length c d), omega (arith, wire-length c d, wire_fits c d few))

pub overflow_add-result-2 : goal.overflow_add-result-2
unfolding wire_length
overflow_add-result-2 c = let f = c.args.self in omega (arith, head_fits f.command f.payload.now f.fits_frame _ (rw c.head.ensures at c.escapes.ensures))

pub overflow_add-result-3 : goal.overflow_add-result-3
unfolding wire_length
overflow_add-result-3 c = let f = c.args.self in omega (arith, begun f.command f.payload.now f.fits_frame _ (rw c.head.ensures at c.escapes.ensures) _ c.escapes-2.ensures)

pub overflow_add-result-4 : goal.overflow_add-result-4
unfolding wire_length
overflow_add-result-4 c = let f = c.args.self in omega (arith, (whole f.command f.payload.now f.fits_frame _ (rw c.head.ensures at c.escapes.ensures) _ c.escapes-2.ensures _ _ c.check.ensures c.width.ensures).1)

pub overflow_add-result-5 : goal.overflow_add-result-5
unfolding wire_length
overflow_add-result-5 c = let f = c.args.self in omega (arith, (whole f.command f.payload.now f.fits_frame _ (rw c.head.ensures at c.escapes.ensures) _ c.escapes-2.ensures _ _ c.check.ensures c.width.ensures).1)

pub returns : goal.returns
unfolding wire_length
returns c = let f = c.args.self in (whole f.command f.payload.now f.fits_frame _ (rw c.head.ensures at c.escapes.ensures) _ c.escapes-2.ensures _ _ c.check.ensures c.width.ensures).0
