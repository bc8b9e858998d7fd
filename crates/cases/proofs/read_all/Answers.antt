-- A call on the rest uses at least one byte, and no more than there are.
use Rattle.std.proofs.Common.{arith, rules, ap, ◌≡◌, ℕ, ◌<◌, ◌≤◌, List, length}
use Rattle.line.specs.declared.Answer.{Answer}
use Rattle.line.specs.declared.PacketOutcome.{PacketOutcome}
use Rattle.line.specs.Scan.{Scan}
use Rattle.line.specs.ScanLaws.{used_within, used-some}
use Rattle.line.specs.Reader.{State, Outcome, step, read}
use Rattle.line.specs.Answers.{Answers}
use Rattle.cases.proofs.read_all.Goals as goal

answer_used : (s : State) (w : List ℕ) (r : Answer PacketOutcome) → 0 < length w → Answers (read s w) r → (0 < r.used) × (r.used ≤ length w)
answer_used s w r h a =
    let e : r.used ≡ (read s w).used = ap (λ (x : Scan State Outcome). x.used) a.told in
    let p = used-some step s w h in
    let q = used_within step s w in
    (omega arith, omega arith)

pub slice_bounds-rest-start : goal.slice_bounds-rest-start
slice_bounds-rest-start c = let h = answer_used _ _ _ (search rules) c.read-answer.ensures in omega arith

pub slice_bounds-rest-count : goal.slice_bounds-rest-count
slice_bounds-rest-count c = let h = answer_used _ _ _ (search rules) c.read-answer.ensures in omega arith

pub loop-rest-smaller : goal.loop-rest-smaller
loop-rest-smaller c = let h = answer_used _ _ _ (search rules) c.read-answer.ensures in omega arith
