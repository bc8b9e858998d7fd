use Rattle.std.proofs.Common.{◌≡◌, ◌≤◌, true, false, sym, ◌∙◌, arith, leb-true, eqb-true}
use Rattle.line.specs.declared.Fault.{Fault}
use Rattle.line.specs.declared.Fault.TheVariants.{WrongEscape, TooLong}
use Rattle.line.specs.Places.{DecodedPlace, FaultAt}
use Rattle.line.specs.Reader.{limit}
use Rattle.line.specs.Reachable.{decoded_fits, least_wire, most_wire, possible}
use Rattle.line.specs.Step.{between}
use Rattle.line.proofs.CountingLaws.{wire_by_least, wire_by_most}
use Rattle.line.proofs.counting.is_possible.Goals as goal

-- a decoded place that does not fit, and one that does: the wire place lies between its bounds
unfit : (f : FaultAt) → decoded_fits f.fault f.at.decoded ≡ false → possible f ≡ false
unfolding possible
unfit f e = rw e

fit : (f : FaultAt) → decoded_fits f.fault f.at.decoded ≡ true → possible f ≡ between f.at.wire (least_wire f.fault f.at.decoded) (most_wire f.fault f.at.decoded)
unfolding possible
fit f e = rw e

fits_within : (k : Fault) (d : DecodedPlace) → decoded_fits k d ≡ true → d.0 ≤ limit
unfolding decoded_fits
fits_within WrongEscape d e = leb-true d.0 limit e
fits_within TooLong d e = omega (arith, eqb-true d.0 limit e)

pub wire_by-requires : goal.wire_by-requires
wire_by-requires c = (omega arith, fits_within _ _ (sym c.decoded_fits.ensures ∙ c.if-decoded_fits.true))

pub wire_by-requires-then-decoded_fits : goal.wire_by-requires-then-decoded_fits
wire_by-requires-then-decoded_fits c = (omega arith, fits_within _ _ (sym c.decoded_fits.ensures ∙ c.if-decoded_fits.true))

pub returns-then-decoded_fits : goal.returns-then-decoded_fits
returns-then-decoded_fits c =
    c.is_between.ensures
    ∙ rw (c.wire_by.ensures, c.wire_by-then-decoded_fits.ensures, wire_by_least _ _, wire_by_most _ _) (sym (fit _ (sym c.decoded_fits.ensures ∙ c.if-decoded_fits.true)))

pub returns-else-decoded_fits : goal.returns-else-decoded_fits
returns-else-decoded_fits c = c.if-decoded_fits.false ∙ sym (unfit _ (sym c.decoded_fits.ensures ∙ c.if-decoded_fits.false))
