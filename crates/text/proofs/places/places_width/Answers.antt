use native.Mathlib.Omega.{arith}
use Rattle.text.specs.DecimalLaws.{decimal_short}
use Rattle.text.specs.PlacesLaws.{length-places_word}
use Rattle.text.proofs.places.places_width.Goals as goal

pub overflow_add-result : goal.overflow_add-result
overflow_add-result c = omega (arith, rw c.from.ensures at c.width.ensures, decimal_short c.args.places.wire.0 (omega arith))

pub overflow_add-result-2 : goal.overflow_add-result-2
overflow_add-result-2 c = omega (arith, rw c.from.ensures at c.width.ensures, rw c.from-2.ensures at c.width-2.ensures, decimal_short c.args.places.wire.0 (omega arith), decimal_short c.args.places.decoded.0 (omega arith))

pub returns : goal.returns
returns c = omega (arith, rw c.from.ensures at c.width.ensures, rw c.from-2.ensures at c.width-2.ensures, length-places_word c.args.places)
