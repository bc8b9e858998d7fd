use Rattle.std.proofs.Common.{◌≡◌, refl, sym, ap, ◌∙◌, rules}
use Rattle.std.specs.Result.{is_ok, result_ok}
use Rattle.script.specs.declared.Call.TheVariants.{Bad}
use Rattle.script.specs.Script.{feed_of}
use Rattle.script.specs.Code.{answered}
use Rattle.script.specs.ByteLaws.{up_to_most}
use Rattle.script.specs.CallLaws.{table_most_lem}
use Rattle.script.proofs.parser.feed.Goals as goal

pub returns-in_err-line : goal.returns-in_err-line
unfolding feed_of
returns-in_err-line c =
    let told : answered c.from_residual.result ≡ Bad 2 = search rules in
    let none = c.ok_or.ensures.ok_part ∙ ap result_ok c.in_err-line.was in
    rw (told, rw none at c.byte.ensures) (record { line = refl; within = tt })

pub returns-in_err-room : goal.returns-in_err-room
unfolding feed_of
returns-in_err-room c =
    let told : answered c.from_residual-in_err-room.result ≡ Bad 3 = search rules in
    let w1 = rw (c.ok_or.ensures.ok_part ∙ ap result_ok c.in_ok-line.was) at c.byte.ensures in
    let none = c.ok_or-2.ensures.ok_part ∙ ap result_ok c.in_err-room.was in
    rw (told, w1.0, w1.1, rw none at c.number.ensures) (record { line = refl; within = tt })

pub returns-in_err-len : goal.returns-in_err-len
unfolding feed_of
returns-in_err-len c =
    let told : answered c.from_residual-in_err-len.result ≡ Bad 4 = search rules in
    let w1 = rw (c.ok_or.ensures.ok_part ∙ ap result_ok c.in_ok-line.was) at c.byte.ensures in
    let w2 = rw (c.ok_or-2.ensures.ok_part ∙ ap result_ok c.in_ok-room.was) at c.number.ensures in
    let none = c.ok_or-3.ensures.ok_part ∙ ap result_ok c.in_err-len.was in
    rw (told, w1.0, w1.1, w2.0, w2.1, rw none at c.bytes.ensures) (record { line = refl; within = tt })

pub returns-in_err-table : goal.returns-in_err-table
unfolding feed_of
returns-in_err-table c =
    let told : answered c.from_residual-in_err-table.result ≡ Bad 5 = search rules in
    let w1 = rw (c.ok_or.ensures.ok_part ∙ ap result_ok c.in_ok-line.was) at c.byte.ensures in
    let w2 = rw (c.ok_or-2.ensures.ok_part ∙ ap result_ok c.in_ok-room.was) at c.number.ensures in
    let w3 = rw (c.ok_or-3.ensures.ok_part ∙ ap result_ok c.in_ok-len.was) at c.bytes.ensures in
    let none = c.ok_or-4.ensures.ok_part ∙ ap result_ok c.in_err-table.was in
    rw (told, w1.0, w1.1, w2.0, w2.1, w3.0, w3.2, rw none at c.table.ensures) (record { line = refl; within = tt })

pub returns-in_err-ok_or : goal.returns-in_err-ok_or
unfolding feed_of
returns-in_err-ok_or c =
    let told : answered c.from_residual-in_err-ok_or.result ≡ Bad 6 = search rules in
    let w1 = rw (c.ok_or.ensures.ok_part ∙ ap result_ok c.in_ok-line.was) at c.byte.ensures in
    let w2 = rw (c.ok_or-2.ensures.ok_part ∙ ap result_ok c.in_ok-room.was) at c.number.ensures in
    let w3 = rw (c.ok_or-3.ensures.ok_part ∙ ap result_ok c.in_ok-len.was) at c.bytes.ensures in
    let w4 = rw (c.ok_or-4.ensures.ok_part ∙ ap result_ok c.in_ok-table.was) at c.table.ensures in
    rw (told, w1.0, w1.1, w2.0, w2.1, w3.0, w3.2, w4.0, w4.1, sym c.end.ensures ∙ sym c.ok_or-5.ensures.variant ∙ ap is_ok c.in_err-ok_or.was) (record { line = refl; within = tt })

pub returns : goal.returns
unfolding feed_of
returns c =
    let w1 = rw (c.ok_or.ensures.ok_part ∙ ap result_ok c.in_ok-line.was) at c.byte.ensures in
    let w2 = rw (c.ok_or-2.ensures.ok_part ∙ ap result_ok c.in_ok-room.was) at c.number.ensures in
    let w3 = rw (c.ok_or-3.ensures.ok_part ∙ ap result_ok c.in_ok-len.was) at c.bytes.ensures in
    let w4 = rw (c.ok_or-4.ensures.ok_part ∙ ap result_ok c.in_ok-table.was) at c.table.ensures in
    rw (w1.0, w1.1, w2.0, w2.1, w3.0, w3.2, w4.0, w4.1, sym c.end.ensures ∙ sym c.ok_or-5.ensures.variant ∙ ap is_ok c.in_ok-ok_or.was) (record { line = refl; within = (w3.1, table_most_lem _ _ w4.0, up_to_most _ _ _ w2.0) })
