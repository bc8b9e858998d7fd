use Rattle.std.proofs.Common.{◌+◌, ◌<◌, ◌≤◌, ◌≡◌, refl, sym, ◌∙◌, ◌⊎◌, inl, inr, length, arith, rules}
use Rattle.memory.specs.WroteLaws.{kept}
use Rattle.frame.specs.Reader.{taken_as, taken}
use Rattle.lister.specs.Lines.{LINE}
use Rattle.lister.specs.Lists.{Lists}
use Rattle.lister.specs.ListingLaws.{takes_state, MoreUsed, more_used, going_none, going_more, going_lists}
use Rattle.lister.proofs.capture.list.Goals as goal
use Rattle.lister.proofs.capture.list.Goals.{else-loop-at-test, then-loop-at-test+then-room-lt-LINE}

pub loop-at-init : goal.loop-at-init
loop-at-init c = record { going = going_none _ _ _ (search rules) c.taken_cursor-cursor.ensures; same = refl }

pub overflow_add-at : goal.overflow_add-at
overflow_add-at c =
    let more : MoreUsed (taken_as c.args.reading.bytes c.taken_cursor-cursor.result.count c.taken_cursor-cursor.result.mode) c.args.wire.now c.loop-at.at c.read_in-told.new.bytes c.read_in-told.result =
    more_used _ _ _ _ _ _ c.loop-at-test.true c.loop-at.invariant.going.state c.read_in-told.ensures in
    omega (arith, more.within)

pub loop-at-smaller : goal.loop-at-smaller
loop-at-smaller c =
    let more : MoreUsed (taken_as c.args.reading.bytes c.taken_cursor-cursor.result.count c.taken_cursor-cursor.result.mode) c.args.wire.now c.loop-at.at c.read_in-told.new.bytes c.read_in-told.result =
    more_used _ _ _ _ _ _ c.loop-at-test.true c.loop-at.invariant.going.state c.read_in-told.ensures in
    omega (arith, more.within, more.some)

pub loop-at-preserved : goal.loop-at-preserved
loop-at-preserved c =
    let more : MoreUsed (taken_as c.args.reading.bytes c.taken_cursor-cursor.result.count c.taken_cursor-cursor.result.mode) c.args.wire.now c.loop-at.at c.read_in-told.new.bytes c.read_in-told.result =
    more_used _ _ _ _ _ _ c.loop-at-test.true c.loop-at.invariant.going.state c.read_in-told.ensures in
    let g = c.loop-at.invariant.going in
    let room : c.loop-at.page.at + LINE ≤ length c.loop-at.page.out.now = omega (arith, c.room.ensures, c.if-room-lt-LINE.false) in
    record { going = going_more g more room c.outcome_line.ensures; same = c.outcome_line.ensures.line.same ∙ c.loop-at.invariant.same }

pub returns : goal.returns
returns c =
    let g = c.loop-at.invariant.going in
    let stops : (c.loop-at.at ≡ length c.args.wire.now) ⊎ (length c.args.out.now < c.loop-at.page.at + LINE) =
    elim c.loop-at-test.branch [
      | else-loop-at-test w ↦ inl (omega (arith, g.within, w.loop-at-test.false))
      | then-loop-at-test+then-room-lt-LINE w ↦ inr (omega (arith, kept g.wrote, w.room.ensures, w.if-room-lt-LINE.true))
    ] in
    let started : taken c.args.reading ≡ taken_as c.args.reading.bytes c.taken_cursor-cursor.result.count c.taken_cursor-cursor.result.mode = sym (takes_state _ _ _ c.taken_cursor-cursor.ensures) in
    let listed : Lists (taken c.args.reading) c.args.left c.args.wire.now c.args.out.now c.loop-at.page.out.now c.answer.result = rw (c.answer.ensures, started) (going_lists _ g stops) in
    search rules
