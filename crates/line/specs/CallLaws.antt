-- Calls one after another, said of what the code answers.
use Rattle.std.specs.Prelude.{ℕ, ◌+◌, ◌-◌, ◌≤◌, ◌<◌, ◌≡◌, refl, List, [], ◌++◌, length, take, drop}
use Rattle.std.proofs.Common.{sym, ap, ◌∙◌, arith, length-take, length-drop}
use Rattle.line.specs.declared.Reading.{Reading}
use Rattle.line.specs.declared.PacketOutcome.{PacketOutcome}
use Rattle.line.specs.declared.Answer.{Answer}
use Rattle.line.specs.Scan.{also, Scan, outcomes, final}
use Rattle.line.specs.ScanLaws.{also_append, outcomes_append, final_append, Tells, scan-tells, used_within, used-some}
use Rattle.line.specs.Reader.{State, Outcome, step, read}
use Rattle.line.specs.Answers.{taken, told, seen, Answers, Calls, done, next}

-- an answer tells what the bytes that it used give
pub answer_tells : (s : Reading) (w : List ℕ) (r : Answer PacketOutcome) → Answers (read (taken s) w) r → Tells step (taken s) w (seen r)
answer_tells s w r a = rw a.told (scan-tells step (taken s) w)

-- a call on the bytes w from n on uses at least one, and no more than there are
pub answer_rest : (s : State) (w : List ℕ) (n : ℕ) (r : Answer PacketOutcome) → n < length w → Answers (read s (take (length w - n) (drop n w))) r
    → (0 < r.used) × (n + r.used ≤ length w)
answer_rest s w n r h a =
    let l : length (take (length w - n) (drop n w)) ≡ length w - n = simp (length-take, length-drop) (omega arith) in
    let e : r.used ≡ (read s (take (length w - n) (drop n w))).used = ap (λ (x : Scan State Outcome). x.used) a.told in
    let p = used-some step s (take (length w - n) (drop n w)) (omega arith) in
    let q = used_within step s (take (length w - n) (drop n w)) in
    (omega arith, omega arith)

-- the outcomes told are those of the bytes used, and the last record is taken as the state after them
pub calls_tell : {s e : Reading} {u : List ℕ} {os : List Outcome} → Calls s u os e
    → (os ≡ outcomes step (taken s) u) × (taken e ≡ final step (taken s) u)
unfolding outcomes final
calls_tell done = (refl, refl)
calls_tell (next {s} {t} {e} {u} {os} w r a same rest) =
    let x = answer_tells s w r a in
    let y = calls_tell rest in
    let v = take r.used w in (
      ap (also (told r.outcome r.reading.bytes)) (y.0 ∙ ap (λ (z : State). outcomes step z u) (same ∙ sym x.after))
          ∙ sym (also_append (told r.outcome r.reading.bytes) [] (outcomes step (final step (taken s) v) u))
          ∙ ap (λ (z : List Outcome). z ++ outcomes step (final step (taken s) v) u) (sym x.outcome)
          ∙ sym (outcomes_append step (taken s) v u),
      y.1 ∙ ap (λ (z : State). final step z u) (same ∙ sym x.after) ∙ sym (final_append step (taken s) v u),
    )

-- cutting the input into calls anywhere changes no outcome and no end state
pub calls_cut : {s s' e e' : Reading} {u : List ℕ} {os os' : List Outcome} → Calls s u os e → Calls s' u os' e' → taken s ≡ taken s'
    → (os ≡ os') × (taken e ≡ taken e')
calls_cut {u = u} a b same =
    let x = calls_tell a in
    let y = calls_tell b in (
      x.0 ∙ ap (λ (z : State). outcomes step z u) same ∙ sym y.0,
      x.1 ∙ ap (λ (z : State). final step z u) same ∙ sym y.1,
    )
