-- Laws of reading frames: by the line reader, by pieces, up to the next END, and what an outcome says.
-- The laws of reading byte by byte, whatever the step, are passed on.
use Rattle.std.specs.Prelude.{ℕ, suc, ◌≤◌, ◌≡◌, refl, List, [], ◌∷◌, ◌++◌, map, Bool, true, false, cond, length, eqb}
use Rattle.std.proofs.Common.{sym, ap, ◌∙◌, arith, ne_eqb}
use Rattle.std.proofs.Math.Option.{Option, none, some, none-ne-some}
use Rattle.line.specs.declared.Fault.{Fault}
use Rattle.line.specs.declared.Fault.TheVariants.{WrongEscape, TooLong}
use Rattle.line.specs.declared.Reading.{Reading}
use Rattle.line.specs.Reader as line
use Rattle.line.specs.ReaderLaws as line_laws
use Rattle.line.specs.Pieces.{closed, last, decode, piece_outcomes, NoEnd}
use Rattle.line.specs.ByPieces as line_pieces
use Rattle.line.specs.Reachable.{Reachable, written}
use Rattle.line.specs.ReachableLaws as line_reachable
use Rattle.frame.specs.Frame.{Refusal, Numbered, low, Outcome, frame, refused, max_data, around, judge}
use Rattle.frame.proofs.JudgeLaws.{judge-accepted, refused_number, accepted_data}
use Rattle.frame.specs.Reader.{END, escape, also, onward, outcomes, final, scan, State, plain, escaped, skipping, emptied, inner, inside, taken, Scan, judged, verdict, step, read}
pub use Rattle.line.specs.ScanLaws.{also_append, outcomes_append, final_append, Tells, scan-tells, used_within, used-some, used_all}

-- ---- by the line reader's outcomes

-- one outcome before others
also-judged : (o : Option line.Outcome) (k : List Outcome) (l : List line.Outcome) → k ≡ map judged l → also (verdict o) k ≡ map judged (also o l)
unfolding verdict
also-judged none k l e = e
also-judged (some (line.packet h)) k l e = ap (λ (z : List Outcome). judge h ∷ z) e
also-judged (some (line.refused n)) k l e = ap (λ (z : List Outcome). refused n ∷ z) e

-- the outcomes are the line reader's, judged
pub outcomes-judged : (s : State) (w : List ℕ) → outcomes step s w ≡ map judged (outcomes line.step s w)
unfolding outcomes step
outcomes-judged s [] = refl
outcomes-judged s (b ∷ w) =
    also-judged (line.step s b).1 (outcomes step (line.step s b).0 w) (outcomes line.step (line.step s b).0 w) (outcomes-judged (line.step s b).0 w)

-- and the end state is the line reader's
pub final_line : (s : State) (w : List ℕ) → final step s w ≡ final line.step s w
unfolding final step
final_line s [] = refl
final_line s (b ∷ w) = final_line (line.step s b).0 w

-- a call is the line reader's, its outcome judged
abbrev pub judged_call : Scan State line.Outcome → Scan State Outcome
judged_call r = record { used = r.used; outcome = verdict r.outcome; after = r.after }

onward-judged : (s : State) (o : Option line.Outcome) (r : Scan State line.Outcome) → onward s (verdict o) (judged_call r) ≡ judged_call (onward s o r)
unfolding onward verdict
onward-judged s none r = refl
onward-judged s (some o) r = refl

pub read-judged : (s : State) (w : List ℕ) → read s w ≡ judged_call (line.read s w)
unfolding scan step verdict
read-judged s [] = refl
read-judged s (b ∷ w) =
    ap (onward (line.step s b).0 (verdict (line.step s b).1)) (read-judged (line.step s b).0 w)
    ∙ onward-judged (line.step s b).0 (line.step s b).1 (line.read (line.step s b).0 w)

-- ---- by pieces

-- what the bytes w give and leave, from the state s, is what the pieces of the wire v do
pub record ByPieces (s : State) (w v : List ℕ) : Type 0 where
  pub given : outcomes step s w ≡ map judged (piece_outcomes (closed [] v))
  pub kept : final step s w ≡ decode (last [] v)

-- the line reader reads by pieces, and so frames are read
by_pieces_judged : {s : State} {w v : List ℕ} → line_pieces.ByPieces s w v → ByPieces s w v
by_pieces_judged {s} {w} x = record {
  given = outcomes-judged s w ∙ ap (map judged) x.given;
  kept = final_line s w ∙ x.kept;
}

-- from between packets: the closed pieces' outcomes, judged, and the open last piece
pub by_pieces : (w : List ℕ) → ByPieces emptied w w
by_pieces w = by_pieces_judged (line_pieces.by_pieces w)

-- from the state of a record: as if bytes without an END that lead to it stood before
pub by_pieces_taken : (r : Reading) (w : List ℕ) → ByPieces (taken r) w (written (taken r) ++ w)
by_pieces_taken r w = by_pieces_judged (line_pieces.by_pieces_taken r w)

-- ---- up to the next END

-- a byte that is no END gives no outcome
pub step-inner : (s : State) (b : ℕ) → (b ≡ END → ⊥) → step s b ≡ (inner s b, none)
unfolding step line.step verdict
step-inner s b n = rw (ne_eqb b END n)

-- an END gives the piece's outcome
pub outcomes-closed : (s : State) (w rest : List ℕ) → NoEnd w
    → outcomes step s (w ++ END ∷ rest) ≡ also (verdict (line.close (inside s w))) (outcomes step emptied rest)
unfolding outcomes step line.step inside verdict
outcomes-closed s [] rest n = refl
outcomes-closed s (b ∷ w) rest n = rw (ne_eqb b END n.0) (outcomes-closed (inner s b) w rest n.1)

-- and leaves the reading between packets
pub final-closed : (s : State) (w rest : List ℕ) → NoEnd w → final step s (w ++ END ∷ rest) ≡ final step emptied rest
unfolding final step line.step
final-closed s [] rest n = refl
final-closed s (b ∷ w) rest n =
    ap (λ (x : State × Option Outcome). final step x.0 (w ++ END ∷ rest)) (step-inner s b n.0) ∙ final-closed (inner s b) w rest n.1

-- a call ends there, where the piece gives an outcome
pub read-closed : (s : State) (w rest : List ℕ) (o : Outcome) → NoEnd w → verdict (line.close (inside s w)) ≡ some o
    → read s (w ++ END ∷ rest) ≡ record { used = suc (length w); outcome = some o; after = emptied }
unfolding scan onward step line.step inside verdict
read-closed s [] rest o n e = rw e
read-closed s (b ∷ w) rest o n e = rw (ne_eqb b END n.0, read-closed (inner s b) w rest o n.1 e)

-- what stands alone is what was put before none
also_one : {A : Type 0} (o : Option A) (a : A) → also o [] ≡ a ∷ [] → o ≡ some a
also_one none a e = let z : ◌≡◌ {A = ℕ} 0 1 = cc in absurd (omega arith)
also_one (some b) a e = cc

-- an outcome that stands alone is the piece's
pub closed-one : (w : List ℕ) (o : Outcome) → NoEnd w → outcomes step emptied (w ++ END ∷ []) ≡ o ∷ [] → verdict (line.close (inside emptied w)) ≡ some o
unfolding outcomes
closed-one w o n e = also_one (verdict (line.close (inside emptied w))) o (sym (outcomes-closed emptied w [] n) ∙ e)

-- an END between packets gives nothing
pub outcomes_end : (w : List ℕ) → outcomes step emptied (END ∷ w) ≡ outcomes step emptied w
unfolding outcomes step line.step verdict line.close
outcomes_end w = refl

-- an accepted packet that is sent escaped is read as its frame
pub accepted-closes : (f : List ℕ) {c : ℕ} {d : List ℕ} → judge f ≡ frame c d → verdict (line.close (inside emptied (escape f))) ≡ some (frame c d)
unfolding verdict line.close
accepted-closes f {c} {d} e =
    let a = judge-accepted {h = f} e in
    ap (λ (s : State). verdict (line.close s)) (line_laws.inside_escaped [] f (omega arith)) ∙ go f a.at_least e
  where
    go : (f : List ℕ) → around ≤ length f → judge f ≡ frame c d → verdict (line.close (plain f)) ≡ some (frame c d)
    go [] n e = absurd (omega arith)
    go (b ∷ f) n e = ap some e

-- after an outcome the reading is between packets
pub step_resets : (s : State) (b : ℕ) (o : Outcome) → (step s b).1 ≡ some o → (step s b).0 ≡ emptied
unfolding step verdict
step_resets s b o e = go (line.step s b).1 refl e
  where
    go : (x : Option line.Outcome) → (line.step s b).1 ≡ x → verdict x ≡ some o → (line.step s b).0 ≡ emptied
    go none p q = absurd (none-ne-some o q)
    go (some y) p q = line_laws.step_resets s b y p

-- ---- what an outcome says

-- an outcome is told at an END
step-closes : (s : State) (b : ℕ) (o : Outcome) → (step s b).1 ≡ some o → verdict (line.close s) ≡ some o
unfolding step line.step verdict
step-closes s b o = go (eqb b END)
  where
    go : (t : Bool) → verdict (cond {A = State × Option line.Outcome} t (emptied, line.close s) (inner s b, none)).1 ≡ some o → verdict (line.close s) ≡ some o
    go true e = e
    go false e = absurd (none-ne-some o e)

-- a frame is told of a packet that is accepted
pub closed-frame : (s : State) {c : ℕ} {d : List ℕ} → verdict (line.close s) ≡ some (frame c d) → (h : List ℕ) × (s ≡ plain h) × (judge h ≡ frame c d)
unfolding verdict line.close
closed-frame (plain []) {c} {d} e = absurd (none-ne-some (frame c d) e)
closed-frame (plain (b ∷ h)) e = (b ∷ h, refl, (cc))
closed-frame (escaped h) e = let z : ◌≡◌ {A = ℕ} 0 1 = cc in absurd (omega arith)
closed-frame (skipping f) e = let z : ◌≡◌ {A = ℕ} 0 1 = cc in absurd (omega arith)

-- a fault of the line reader has a packet refusal's number
fault_number : (f : Fault) → Numbered (line.number f)
fault_number WrongEscape = low {n = 1} (omega arith) (omega arith)
fault_number TooLong = low {n = 2} (omega arith) (omega arith)

-- a refusal at an END has one
pub closed-number : (s : State) (n : Refusal) → verdict (line.close s) ≡ some (refused n) → Numbered n.number
unfolding verdict line.close
closed-number (plain []) n e = absurd (none-ne-some (refused n) e)
closed-number (plain (b ∷ h)) n e = refused_number (b ∷ h) n (cc)
closed-number (escaped h) n e = let x : line.refusal (line.wrong_escape h) ≡ n = cc in rw (ap (λ (z : Refusal). z.number) x) at (fault_number (line.wrong_escape h).fault)
closed-number (skipping f) n e = let x : line.refusal f ≡ n = cc in rw (ap (λ (z : Refusal). z.number) x) at (fault_number f.fault)

-- and so every refusal that a byte gives
pub outcome-number : (s : State) (b : ℕ) (n : Refusal) → (step s b).1 ≡ some (refused n) → Numbered n.number
outcome-number s b n e = closed-number s n (step-closes s b (refused n) e)

-- the outcome of a call is that of some piece
pub read_told : (s : State) (w : List ℕ) (o : Outcome) → (read s w).outcome ≡ some o → (t : State) × (verdict (line.close t) ≡ some o)
unfolding scan onward
read_told s [] o e = absurd (none-ne-some o e)
read_told s (b ∷ w) o e = go (step s b).1 refl e (read_told (step s b).0 w o)
  where
    go : (x : Option Outcome) → (step s b).1 ≡ x → (onward (step s b).0 x (read (step s b).0 w)).outcome ≡ some o
        → ((read (step s b).0 w).outcome ≡ some o → (t : State) × (verdict (line.close t) ≡ some o)) → (t : State) × (verdict (line.close t) ≡ some o)
    go none p e ih = ih e
    go (some y) p e ih = (s, step-closes s b o (p ∙ e))

-- a frame that a call gives has no more than 250 bytes of data
pub read_data : (s : State) (w : List ℕ) {c : ℕ} {d : List ℕ} → (read s w).outcome ≡ some (frame c d) → length d ≤ max_data
read_data s w {c} {d} e =
    let (t, r) = read_told s w (frame c d) e in
    let (h, p, q) = closed-frame t r in
    accepted_data h q

-- a call leaves a state that bytes leave
pub read_reachable : (s : State) (w : List ℕ) → Reachable s → Reachable (read s w).after
read_reachable s w x = rw (read-judged s w) (line_reachable.read_reachable s w x)
