use Rattle.std.proofs.Common.{ℕ, zero, suc, ◌-◌, min, ◌≡◌, sym, ◌∙◌, List, [], ◌∷◌, length, take, drop}
use Rattle.std.proofs.Math.Nat.{suc-min-suc, min-zero, zero-min}
use Rattle.memory.specs.WroteLaws.{rest}
use Rattle.report.specs.Report.{has_spilled}
use Rattle.report.specs.ReportLaws.{other_step, found_end}
use Rattle.report.proofs.calls.spilled.Goals as goal

drop_min : (n : ℕ) (l : List ℕ) → drop (min n (length l)) l ≡ drop n l
drop_min zero l = rw (zero-min (length l))
drop_min (suc n) [] = rw (min-zero (suc n))
drop_min (suc n) (x ∷ l) = rw (suc-min-suc n (length l)) (drop_min n l)

pub loop-byte-preserved : goal.loop-byte-preserved
loop-byte-preserved c = c.loop-byte.invariant ∙ other_step c.loop-byte.found _ _ c.loop-byte.byte-index c.loop-byte-test.true

pub returns : goal.returns
unfolding has_spilled
returns c =
    let room = c.args.room.now in
    let behind : take (length room - c.min.result) (drop c.min.result room) ≡ drop c.args.from room = rest room c.min.result ∙ rw c.min.ensures (drop_min c.args.from room) in
    rw behind at (sym (c.loop-byte.invariant ∙ found_end _ _ _ c.loop-byte.byte-index c.loop-byte-test.false))
