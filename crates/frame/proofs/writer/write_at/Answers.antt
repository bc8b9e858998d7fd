use Rattle.std.specs.Prelude.{ℕ, ◌+◌, ◌-◌, ◌≤◌, ◌<◌, ◌≡◌, refl, List, Err, length}
use Rattle.std.proofs.Common.{sym, ap, ◌∙◌, arith, rules, lt-ltb, le-ltb, leb-true, leb-false}
use Rattle.std.proofs.Math.Seq.{sets-eq}
use Rattle.frame.specs.declared.WriteRefusal.TheVariants.{LongData}
use Rattle.frame.specs.Frame.{max_data, wire}
use Rattle.frame.specs.Writer.{up_to, write_at}
use Rattle.frame.proofs.writer.write_at.Goals.{then-room-start-via-then-room-start, then-room-start-via-else-room-start+then-not-fits}
use Rattle.frame.proofs.writer.write_at.Goals as goal

pub returns-in_err-frame : goal.returns-in_err-frame
unfolding write_at
returns-in_err-frame c =
    let refused : c.from_residual.result ≡ Err LongData = search rules in
    simp (refused, lt-ltb _ _ c.in_err-frame.ensures) (record { answer = refl; room = refl })

pub returns-then-room-start : goal.returns-then-room-start
unfolding write_at
returns-then-room-start c =
    let frame = c.in_ok-frame.frame in
    let (command, payload) = c.in_ok-frame.ensures in
    let few : length c.args.payload.now ≤ max_data = rw payload at frame.fits_frame in
    let sent : List ℕ = wire frame.command frame.payload.now in
    let room : List ℕ = c.args.room.now in
    let short : length room < c.args.start + length sent =
    elim c.then-room-start.branch [
      | then-room-start-via-then-room-start w ↦ omega (arith, w.if-room-start.true)
      | then-room-start-via-else-room-start+then-not-fits w ↦ omega (arith, w.if-room-start.false, leb-false (length sent) (length room - c.args.start) (sym w.fits.ensures ∙ w.if-not-fits.true))
    ] in
    simp (le-ltb _ _ few, lt-ltb _ _ (rw (command, payload) at short)) (record { answer = refl; room = refl })

pub put_at-requires : goal.put_at-requires
put_at-requires c =
    let frame = c.in_ok-frame.frame in
    let sent : List ℕ = wire frame.command frame.payload.now in
    let room : List ℕ = c.args.room.now in
    omega (arith, c.if-room-start.false, leb-true (length sent) (length room - c.args.start) (sym c.fits.ensures ∙ c.if-not-fits.false))

pub returns : goal.returns
unfolding write_at
returns c =
    let frame = c.in_ok-frame.frame in
    let (command, payload) = c.in_ok-frame.ensures in
    let few : length c.args.payload.now ≤ max_data = rw payload at frame.fits_frame in
    let sent : List ℕ = wire frame.command frame.payload.now in
    let room : List ℕ = c.args.room.now in
    let fitting : c.args.start + length sent ≤ length room =
    omega (arith, c.if-room-start.false, leb-true (length sent) (length room - c.args.start) (sym c.fits.ensures ∙ c.if-not-fits.false)) in
    let w = rw (command, payload) at c.put_at.ensures in
    let fits = rw (command, payload) at fitting in
    simp (le-ltb _ _ few, le-ltb _ _ fits) (record { answer = ap up_to w.place; room = w.content ∙ sets-eq _ _ _ fits })
