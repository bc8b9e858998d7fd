-- Places counted: what escaping adds to some bytes, and the wire place of a fault behind them.
use Rattle.std.specs.Prelude.{ℕ, ◌+◌, ◌*◌, ◌≤◌, ◌≡◌, refl, List, [], ◌∷◌, Bool, true, false, cond, ◌||◌, length, take, eqb}
use Rattle.std.proofs.Common.{◌∙◌, arith, one-mul, length-take, length-take-le}
use Rattle.line.specs.declared.Fault.{Fault}
use Rattle.line.specs.declared.Fault.TheVariants.{WrongEscape, TooLong}
use Rattle.line.specs.Wire.{END, ESC}
use Rattle.line.specs.Places.{DecodedPlace, FaultAt, places_at, wire_length, behind, behind_esc}
use Rattle.line.specs.PlaceLaws.{wire_length-one, wire_length_most}
use Rattle.line.specs.Reader.{limit, wrong_escape, too_long}
use Rattle.line.specs.Reachable.{least_wire, most_wire}
use Rattle.line.specs.Step.{is_special, wire_by, fault_behind}

-- a byte that is sent escaped takes two wire bytes
pub special_width : (b : ℕ) → wire_length (b ∷ []) ≡ cond (is_special b) 2 1
special_width b = wire_length-one b ∙ go (eqb b END) (eqb b ESC)
  where
    go : (t u : Bool) → ◌≡◌ {A = ℕ} (cond t 2 (cond u 2 1)) (cond (t || u) 2 1)
    go true u = refl
    go false u = refl

-- where the first n bytes held end on the wire, by what escaping adds to them: within 16 bits
module _ (bs : List ℕ) (n e : ℕ) (full : length bs ≡ limit) (within : n ≤ limit) (added : length (take n bs) + e ≡ wire_length (take n bs)) where
  pub held_wire : n + e ≡ wire_length (take n bs)
  held_wire = rw (length-take-le n bs (omega arith)) at added

  pub held_most : n + e ≤ 2 * limit
  held_most = omega (arith, held_wire, wire_length_most (take n bs), length-take n bs)

  pub escape_behind : ◌≡◌ {A = FaultAt} (record { fault = WrongEscape; at = places_at (n + e + 1) n }) (fault_behind WrongEscape (take n bs))
  unfolding wrong_escape behind_esc
  escape_behind = rw (held_wire, length-take-le n bs (omega arith))

  pub long_behind : ◌≡◌ {A = FaultAt} (record { fault = TooLong; at = places_at (n + e) n }) (fault_behind TooLong (take n bs))
  unfolding too_long behind
  long_behind = rw (held_wire, length-take-le n bs (omega arith))

-- one wire byte for each byte before a fault is the least, two are the most
pub wire_by_least : (f : Fault) (d : DecodedPlace) → wire_by 1 f d ≡ least_wire f d
wire_by_least WrongEscape d = rw one-mul
wire_by_least TooLong d = rw one-mul

pub wire_by_most : (f : Fault) (d : DecodedPlace) → wire_by 2 f d ≡ most_wire f d
wire_by_most WrongEscape d = refl
wire_by_most TooLong d = refl
