use Rattle.std.specs.Prelude.{ℕ, ◌+◌, ◌*◌, ◌≤◌, ◌≡◌, refl, List, length, take}
use Rattle.std.proofs.Common.{arith, length-take-le}
use Rattle.line.specs.PlaceLaws.{wire_length_most}
use Rattle.frame.specs.Frame.{wire_length, on_wire, byte_at}
use Rattle.frame.proofs.checks.refused.Goals as goal

-- the wire place of the byte d
behind : (h : List ℕ) (d e : ℕ) → d ≤ length h → length (take d h) + e ≡ wire_length (take d h) → (d + e ≡ wire_length (take d h)) × (d + e ≤ 2 * d)
behind h d e l x = (omega (arith, length-take-le d h l), omega (arith, wire_length_most (take d h), length-take-le d h l))

pub overflow_add-behind : goal.overflow_add-behind
overflow_add-behind c = let m = behind _ _ _ c.requires.0 c.escapes.ensures in omega (arith, c.requires.1)

pub overflow_cast-behind : goal.overflow_cast-behind
overflow_cast-behind c = let m = behind _ _ _ c.requires.0 c.escapes.ensures in omega (arith, c.requires.1)

pub overflow_cast-place : goal.overflow_cast-place
overflow_cast-place c = let h = c.requires.1 in omega arith

pub returns : goal.returns
unfolding byte_at on_wire
returns c = rw (c.places_at-at.ensures, (behind _ _ _ c.requires.0 c.escapes.ensures).0) refl
