use Rattle.std.specs.Prelude.{Err}
use Rattle.std.proofs.Common.{rules}
use Rattle.frame.specs.Writer.{told}
use Rattle.frame.specs.Answers.{answer_of}
use Rattle.replies.specs.ReplyLaws.{write_all_done, write_all_err}
use Rattle.rules.specs.declared.CallRefusal.TheVariants.{WrongLine}
use Rattle.rules.proofs.RefusalLaws.{refused_table, refused_line_lem}
use Rattle.frame.specs.Reader.{taken}
use Rattle.requests.specs.Answers.{reading_at}
use Rattle.requests.proofs.feed.Laws.{data_bounded, refused_feeds, short_feeds, told-feeds}
use lib.ListN.{length}
use Prim.Native.Nat.{◌+◌, ◌-◌}
use native.Mathlib.Omega.{arith}
use mathlib.Core.Path.{◌≡◌, sym, ap, ◌∙◌}
use Rattle.requests.proofs.feed.serve.Goals as goal

pub returns-then-table-ne-TABLE : goal.returns-then-table-ne-TABLE
returns-then-table-ne-TABLE c = refused_feeds _ _ _ _ _ _ _ (refused_table c.args.hub.now c.args.table.now (taken (reading_at c.args.held.now c.args.cursor.now)) c.args.line c.args.bytes.now (length c.args.room.now) c.if-table-ne-TABLE.true)

pub returns-in_err-line : goal.returns-in_err-line
returns-in_err-line c =
    let (wrong, above) = c.in_err-line.ensures in
    let refused : c.from_residual.result ≡ Err WrongLine = search rules in
    rw refused (refused_feeds _ _ _ _ _ _ _ (refused_line_lem c.args.hub.now c.args.table.now (taken (reading_at c.args.held.now c.args.cursor.now)) c.args.line c.args.bytes.now (length c.args.room.now) c.if-table-ne-TABLE.false (omega arith)))

pub decide_outcome-reply-requires : goal.decide_outcome-reply-requires
decide_outcome-reply-requires c = (c.read_in-read.ensures.full, c.read_in-read.ensures.data_within)

pub overflow_add-end : goal.overflow_add-end
overflow_add-end c = omega (arith, c.data_len-end.ensures, data_bounded c.read_in-read.result.outcome c.read_in-read.ensures.data_within)

pub slice_bounds-carry_out-end : goal.slice_bounds-carry_out-end
slice_bounds-carry_out-end c = omega (arith, c.data_len-end.ensures, data_bounded c.read_in-read.result.outcome c.read_in-read.ensures.data_within, c.read_in-read.ensures.full)

pub carry_out-requires : goal.carry_out-requires
carry_out-requires c =
    let n = c.data_len-end.result in
    let e : 4 + n - 4 ≡ n = omega arith in
    rw (e, c.data_len-end.ensures) c.decide_outcome-reply.ensures.enough

pub returns-in_default : goal.returns-in_default
returns-in_default c =
    let w = c.write.ensures in
    let x = write_all_err _ _ _ (sym w.answer ∙ ap told c.in_default.is) in
    rw (w.room ∙ x.1, ← c.in_ok-line.ensures) (short_feeds _ _ _ _ _ _ (answer_of _ c.read_in-read.result) c.decide_outcome-reply.result c.if-table-ne-TABLE.false (omega (arith, c.in_ok-line.line.one_of_four)) c.read_in-read.ensures c.decide_outcome-reply.ensures x.0)

pub returns : goal.returns
returns c =
    let w = c.write.ensures in
    let x = write_all_done _ _ _ (sym w.answer ∙ ap told c.in-Ok.is) in
    let n = c.data_len-end.result in
    let e : 4 + n - 4 ≡ n = omega arith in
    let done = rw (e, c.data_len-end.ensures) at c.carry_out.ensures in
    rw (← c.in_ok-line.ensures) (told-feeds _ _ _ _ _ _ (answer_of _ c.read_in-read.result) c.decide_outcome-reply.result c.if-table-ne-TABLE.false (omega (arith, c.in_ok-line.line.one_of_four)) c.read_in-read.ensures c.decide_outcome-reply.ensures _ _ _ _ x.1 x.0 done (w.room ∙ rw (← x.0) x.2))
