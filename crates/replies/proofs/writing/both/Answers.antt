use Rattle.std.specs.Prelude.{◌≡◌, refl, Err, true, false}
use Rattle.std.proofs.Common.{sym, ap, ◌∙◌, rules}
use Rattle.frame.specs.declared.WriteRefusal.{WriteRefusal}
use Rattle.frame.specs.declared.WriteRefusal.TheVariants.{ShortRoom, LongData}
use Rattle.frame.specs.Writer.{told, told_at}
use Rattle.frame.specs.WireLaws.{told-numbered}
use Rattle.replies.specs.Replies.{is_written}
use Rattle.replies.specs.ReplyLaws.{measured_refused, both_refused, both-written, first-written}
use Rattle.replies.proofs.writing.both.Goals as goal

-- a call that is refused did not write
unwritten : (e : WriteRefusal) → is_written (told_at (Err e)) ≡ false
unwritten ShortRoom = refl
unwritten LongData = refl

pub returns-in_err-start : goal.returns-in_err-start
returns-in_err-start c = absurd (measured_refused _ _ c.requires.0 _ c.in_err-start.ensures)

pub returns-in_err-end : goal.returns-in_err-end
returns-in_err-end c =
    let refused : c.from_residual-in_err-end.result ≡ Err c.in_err-end.field-0.0 = search rules in
    both_refused c.args.room.now c.args.command c.args.payload.now c.args.next c.args.behind.now c.requires.0 c.requires.1 _
    c.in_ok-start.ensures _ _ (ap told refused ∙ told-numbered (Err c.in_err-end.field-0.0)) _
    c.in_err-end.ensures
    (unwritten _)

pub returns-in_err-write_at : goal.returns-in_err-write_at
returns-in_err-write_at c =
    let first : is_written (told_at (Err c.in_err-write_at.field-0.0)) ≡ true =
    first-written c.args.room.now c.args.command c.args.payload.now c.args.next c.args.behind.now c.requires.0 c.requires.1 _
    c.in_ok-start.ensures _ _ refl _ _ _
    c.in_ok-end.ensures refl
    c.in_err-write_at.ensures in
    let z : true ≡ false = sym first ∙ unwritten _ in
    cc

pub returns : goal.returns
returns c =
    both-written c.args.room.now c.args.command c.args.payload.now c.args.next c.args.behind.now c.requires.0 c.requires.1 _
    c.in_ok-start.ensures _ _ refl _ _ _
    c.in_ok-end.ensures refl
    c.in_ok-write_at.ensures
