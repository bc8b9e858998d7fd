use Prim.Native.Nat.{ℕ, ◌+◌, ◌-◌, ◌≤◌, ◌<◌}
use mathlib.Core.Path.{◌≡◌, refl}
use mathlib.Core.List.{List, [], ◌∷◌}
use native.Mathlib.Omega.{arith}
use lib.ListN.{length, take, get_or, length-take}
use Rattle.line.specs.Wire.{escape}
use Rattle.line.specs.PlaceLaws.{wire_length_least, wire_length_most, wire_length_more}
use Rattle.line.specs.Places.{wire_length}
use Rattle.line.proofs.counting.escapes.Goals as goal

-- a byte takes one wire byte or two
byte_least : (b n : ℕ) → n ≡ wire_length (b ∷ []) → 1 ≤ n
byte_least b n e = omega (arith, wire_length_least (b ∷ []))

byte_most : (b n : ℕ) → n ≡ wire_length (b ∷ []) → n ≤ 2
byte_most b n e = omega (arith, wire_length_most (b ∷ []))

-- the first i bytes have no more than i ESCs
added_most : (l : List ℕ) (i n : ℕ) → i + n ≡ wire_length (take i l) → n ≤ i
added_most l i n e = omega (arith, wire_length_most (take i l), length-take i l)

-- one byte more
added_more : (l : List ℕ) (i n k : ℕ) → i < length l → i + n ≡ wire_length (take i l) → k ≡ wire_length (get_or l i 0 ∷ []) → i + 1 + (n + (k - 1)) ≡ wire_length (take (i + 1) l)
added_more l i n k h e w = omega (arith, wire_length_more l i h, wire_length_least (get_or l i 0 ∷ []))

pub loop-b-init : goal.loop-b-init
unfolding wire_length escape
loop-b-init c = refl

pub overflow_sub-added : goal.overflow_sub-added
overflow_sub-added c = byte_least _ _ c.width.ensures

pub overflow_add-added : goal.overflow_add-added
overflow_add-added c =
    let m = byte_most _ _ c.width.ensures in
    let l = added_most _ _ _ c.loop-b.invariant in
    omega (arith, c.loop-b-test.true)

pub loop-b-preserved : goal.loop-b-preserved
loop-b-preserved c = added_more _ _ _ _ c.loop-b-test.true c.loop-b.invariant c.width.ensures
