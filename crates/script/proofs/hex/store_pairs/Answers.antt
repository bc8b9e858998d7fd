use Rattle.std.proofs.Common.{Some, ℕ, ◌+◌, ◌*◌, ◌/◌, ◌≤◌, ◌≡◌, sym, ap, ◌∙◌, arith, List, length, take, drop, get_or, take_all, take_at}
use Rattle.memory.specs.Wrote.{Wrote}
use Rattle.memory.specs.WroteLaws.{one, then, kept, take_more, front_to}
use Rattle.script.specs.Script.{pairs}
use Rattle.script.specs.Code.{pair_of}
use Rattle.script.specs.ByteLaws.{pair_on, pair_not, pair_byte, hex_end, length_pairs, pairs-at}
use Rattle.script.proofs.hex.store_pairs.Goals as goal

-- what was stored at the front is the front
front_is : {l m vs : List ℕ} {n : ℕ} → Wrote l 0 vs m n → n ≤ length l → take n m ≡ vs
front_is {l} {m} {vs} {n} w h = ap (take n) (front_to w h) ∙ take_at vs (drop n l) n (omega (arith, w.place))

pub returns-in_err-out : goal.returns-in_err-out
returns-in_err-out c =
    rw (c.from_residual.ensures, c.loop-i.invariant.1 ∙ pair_not c.args.text.now c.loop-i.i (omega arith) (sym c.pair.ensures ∙ c.in_err-out.was))

pub loop-i-preserved : goal.loop-i-preserved
loop-i-preserved c =
    let l = c.loop-i in
    let w = c.args.text.now in
    let p : pair_of (get_or w (2 * l.i) 0) (get_or w (2 * l.i + 1) 0) ≡ Some c.in_ok-out.field-0 = sym c.pair.ensures ∙ c.in_ok-out.was in
    let v = pair_byte (get_or w (2 * l.i) 0) (get_or w (2 * l.i + 1) 0) _ p in
    (rw (take_more (pairs w) l.i (omega (arith, length_pairs w)), pairs-at w l.i (omega arith), v) (then l.invariant.0 (one _ l.i _)), l.invariant.1 ∙ pair_on w l.i _ (omega arith) p)

pub returns : goal.returns
returns c =
    let l = c.loop-i in
    let w = c.args.text.now in
    let e : l.i ≡ length w / 2 = omega arith in
    let all = take_all l.i (pairs w) (omega (arith, length_pairs w)) in
    let hex = l.invariant.1 ∙ hex_end w (2 * l.i) (omega (arith, c.requires.1)) in
    let front = rw e at (front_is (rw all at l.invariant.0) (omega (arith, c.requires.0))) in
    (rw (hex, front), omega (arith, kept l.invariant.0, c.requires.0))
