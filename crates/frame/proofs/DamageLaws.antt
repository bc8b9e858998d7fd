-- One damaged byte (demand 3): a frame with one damaged byte between its ENDs is refused, and one without is read.
-- Either way the bytes behind the END give what they give from between packets.
use Rattle.std.specs.Prelude.{ℕ, ◌≡◌, refl, List, [], ◌∷◌, ◌++◌}
use Rattle.std.proofs.Common.{ap, ◌∙◌, arith}
use Rattle.std.proofs.Math.Option.{Option, some}
use Rattle.line.specs.Reader as line
use Rattle.line.specs.Pieces.{NoEnd}
use Rattle.frame.specs.Frame.{Refusal, Numbered, Outcome, frame, refused, judge}
use Rattle.frame.specs.Accepted.{Accepted}
use Rattle.frame.proofs.JudgeLaws.{judge-accepted}
use Rattle.frame.specs.Reader.{END, escape, also, outcomes, State, plain, escaped, skipping, emptied, inside, verdict, step}
use Rattle.frame.proofs.ReaderLaws.{outcomes-closed, closed-number, accepted-closes}
use Rattle.frame.specs.Damage.{Damage, replaced, inserted, lost, further}
use Rattle.frame.specs.EscapeLaws.{escape-sent, escape_no_end, decoded-sent}
use Rattle.frame.proofs.ChangeLaws.{Change, less, damage_change, change_refused}

-- bytes without an END are damaged to bytes without one
damage_keeps : {v w : List ℕ} → Damage v w → NoEnd v → NoEnd w
damage_keeps (replaced ne n) x = (n, x.1)
damage_keeps (inserted n) x = (n, x)
damage_keeps lost x = x.1
damage_keeps (further d) x = (x.0, damage_keeps d x.1)

-- a damaged frame holds no END
pub damaged_no_end : {w : List ℕ} (f : List ℕ) → Damage (escape f) w → NoEnd w
damaged_no_end f d = damage_keeps d (escape_no_end f)

-- the END of a damaged frame gives a refusal
damaged_closes : {f : List ℕ} → Accepted f → (s : State) → ((h : List ℕ) → s ≡ plain h → Change f h) → (n : Refusal) × (verdict (line.close s) ≡ some (refused n))
unfolding line.close verdict
damaged_closes a (plain []) x = go a (x [] refl)
  where
    go : {f : List ℕ} → Accepted f → Change f [] → (n : Refusal) × (verdict (line.close (plain [])) ≡ some (refused n))
    go a less = absurd (omega arith)
damaged_closes a (plain (b ∷ h)) x = let y = change_refused (x (b ∷ h) refl) a in (y.0, ap some y.1)
damaged_closes a (escaped h) x = (line.refusal (line.wrong_escape h), refl)
damaged_closes a (skipping f) x = (line.refusal f, refl)

-- a frame with one damaged byte gives one outcome, a packet refusal
pub damaged_refused : (f : List ℕ) {w : List ℕ} {c : ℕ} {d : List ℕ} → judge f ≡ frame c d → Damage (escape f) w
    → (n : Refusal) × Numbered n.number × ((rest : List ℕ) → outcomes step emptied (w ++ END ∷ rest) ≡ refused n ∷ outcomes step emptied rest)
damaged_refused f {w} e d =
    let x = damaged_no_end f d in
    let (n, r) = damaged_closes (judge-accepted {h = f} e) (inside emptied w) (λ h q. damage_change (escape-sent f) (decoded-sent w h x q) d) in
    (n, closed-number (inside emptied w) n r, λ rest. outcomes-closed emptied w rest x ∙ ap (λ (o : Option Outcome). also o (outcomes step emptied rest)) r)

-- an undamaged one gives one outcome, the frame
pub whole-read : (f : List ℕ) {c : ℕ} {d : List ℕ} → judge f ≡ frame c d
    → (rest : List ℕ) → outcomes step emptied (escape f ++ END ∷ rest) ≡ frame c d ∷ outcomes step emptied rest
whole-read f e rest =
    outcomes-closed emptied (escape f) rest (escape_no_end f)
    ∙ ap (λ (o : Option Outcome). also o (outcomes step emptied rest)) (accepted-closes f e)
