use Rattle.std.proofs.Common.{◌+◌, ◌≤◌, length, ◌∙◌, refl, arith}
use Rattle.text.specs.Text.{ascii, decimal}
use Rattle.text.specs.AppendedLaws.{leaves-whole, leaves_none, fitting-first, fitting_then}
use Rattle.text.specs.Places.{places_word}
use Rattle.text.proofs.page.Page.append_places.Goals as goal

pub returns-then-room-places_width : goal.returns-then-room-places_width
returns-then-room-places_width c =
    record { same = refl; leaves = leaves_none _ _ (places_word c.args.places) (omega (arith, c.places_width.ensures, c.room.ensures)) }

pub returns : goal.returns
unfolding places_word ascii
returns c =
    let a = c.args in
    let whole = fitting_then (decimal a.places.decoded.0) (fitting-first (rw c.from.ensures at c.append_numbered.ensures.leaves)) (rw c.from-2.ensures at c.append_decimal.ensures.leaves) in
    let fit : a.self.now.at + length (places_word a.places) ≤ length a.self.now.out.now = omega (arith, c.places_width.ensures, c.room.ensures, c.if-room-places_width.false) in
    record { same = c.append_decimal.ensures.same ∙ c.append_numbered.ensures.same; leaves = leaves-whole (whole fit) fit }
