use Rattle.std.proofs.Common.{◌≡◌, refl, ap, ◌∙◌, rules}
use Rattle.std.specs.Result.{result_ok}
use Rattle.memory.specs.Octets.{same}
use Rattle.text.specs.Text.{ascii}
use Rattle.script.specs.declared.Call.TheVariants.{Bad}
use Rattle.script.specs.Script.{called}
use Rattle.script.specs.Code.{answered}
use Rattle.script.proofs.Same.{same-by}
use Rattle.script.proofs.parser.called.Goals as goal

-- a missing word is no call
pub returns-in_err-word : goal.returns-in_err-word
unfolding called ascii same
returns-in_err-word c =
    let told : answered c.from_residual.result ≡ Bad 1 = search rules in
    let none = c.ok_or.ensures.ok_part ∙ ap result_ok c.in_err-word.was in
    rw (told, rw none at c.next_word.ensures) (record { line = refl; within = tt })

-- the word is written out: where it is compared with another than "start", the refusal names that other
pub returns-then-eq : goal.returns-then-eq
unfolding called ascii
returns-then-eq c =
    let w = rw (c.ok_or.ensures.ok_part ∙ ap result_ok c.in_ok-word.was) at c.next_word.ensures in
    rw (w.0, w.1, same-by c.in_ok-word.word.now (ascii "start") c.eq.ensures c.if-eq.true)
    c.start.ensures

pub returns-then-eq-2 : goal.returns-then-eq-2
unfolding called ascii
returns-then-eq-2 c =
    let w = rw (c.ok_or.ensures.ok_part ∙ ap result_ok c.in_ok-word.was) at c.next_word.ensures in
    rw (w.0, w.1, same-by _ (ascii "start") c.eq.ensures c.if-eq.false, same-by _ (ascii "enrol") c.eq-2.ensures c.if-eq-2.true)
    (c.enrol.ensures _)

pub returns-then-eq-3 : goal.returns-then-eq-3
unfolding called ascii
returns-then-eq-3 c =
    let w = rw (c.ok_or.ensures.ok_part ∙ ap result_ok c.in_ok-word.was) at c.next_word.ensures in
    rw (w.0, w.1, same-by _ (ascii "start") c.eq.ensures c.if-eq.false, same-by _ (ascii "enrol") c.eq-2.ensures c.if-eq-2.false, same-by _ (ascii "feed") c.eq-3.ensures c.if-eq-3.true)
    c.feed.ensures

pub returns-then-eq-4 : goal.returns-then-eq-4
unfolding called ascii
returns-then-eq-4 c =
    let w = rw (c.ok_or.ensures.ok_part ∙ ap result_ok c.in_ok-word.was) at c.next_word.ensures in
    rw (w.0, w.1, same-by _ (ascii "start") c.eq.ensures c.if-eq.false, same-by _ (ascii "enrol") c.eq-2.ensures c.if-eq-2.false, same-by _ (ascii "feed") c.eq-3.ensures c.if-eq-3.false, same-by _ (ascii "close") c.eq-4.ensures c.if-eq-4.true)
    (c.close.ensures _)

pub returns-then-eq-5 : goal.returns-then-eq-5
unfolding called ascii
returns-then-eq-5 c =
    let w = rw (c.ok_or.ensures.ok_part ∙ ap result_ok c.in_ok-word.was) at c.next_word.ensures in
    rw (w.0, w.1, same-by _ (ascii "start") c.eq.ensures c.if-eq.false, same-by _ (ascii "enrol") c.eq-2.ensures c.if-eq-2.false, same-by _ (ascii "feed") c.eq-3.ensures c.if-eq-3.false, same-by _ (ascii "close") c.eq-4.ensures c.if-eq-4.false, same-by _ (ascii "finish") c.eq-5.ensures c.if-eq-5.true)
    (c.finish.ensures _)

pub returns-then-eq-6 : goal.returns-then-eq-6
unfolding called ascii
returns-then-eq-6 c =
    let w = rw (c.ok_or.ensures.ok_part ∙ ap result_ok c.in_ok-word.was) at c.next_word.ensures in
    rw (w.0, w.1, same-by _ (ascii "start") c.eq.ensures c.if-eq.false, same-by _ (ascii "enrol") c.eq-2.ensures c.if-eq-2.false, same-by _ (ascii "feed") c.eq-3.ensures c.if-eq-3.false, same-by _ (ascii "close") c.eq-4.ensures c.if-eq-4.false, same-by _ (ascii "finish") c.eq-5.ensures c.if-eq-5.false, same-by _ (ascii "show") c.eq-6.ensures c.if-eq-6.true)
    (c.show.ensures _)

pub returns-then-eq-7 : goal.returns-then-eq-7
unfolding called ascii
returns-then-eq-7 c =
    let w = rw (c.ok_or.ensures.ok_part ∙ ap result_ok c.in_ok-word.was) at c.next_word.ensures in
    rw (w.0, w.1, same-by _ (ascii "start") c.eq.ensures c.if-eq.false, same-by _ (ascii "enrol") c.eq-2.ensures c.if-eq-2.false, same-by _ (ascii "feed") c.eq-3.ensures c.if-eq-3.false, same-by _ (ascii "close") c.eq-4.ensures c.if-eq-4.false, same-by _ (ascii "finish") c.eq-5.ensures c.if-eq-5.false, same-by _ (ascii "show") c.eq-6.ensures c.if-eq-6.false, same-by _ (ascii "table") c.eq-7.ensures c.if-eq-7.true)
    (c.nodes.ensures _)

pub returns : goal.returns
unfolding called ascii
returns c =
    let w = rw (c.ok_or.ensures.ok_part ∙ ap result_ok c.in_ok-word.was) at c.next_word.ensures in
    rw (w.0, w.1, same-by _ (ascii "start") c.eq.ensures c.if-eq.false, same-by _ (ascii "enrol") c.eq-2.ensures c.if-eq-2.false, same-by _ (ascii "feed") c.eq-3.ensures c.if-eq-3.false, same-by _ (ascii "close") c.eq-4.ensures c.if-eq-4.false, same-by _ (ascii "finish") c.eq-5.ensures c.if-eq-5.false, same-by _ (ascii "show") c.eq-6.ensures c.if-eq-6.false, same-by _ (ascii "table") c.eq-7.ensures c.if-eq-7.false)
    (record { line = refl; within = tt })
