-- What the code's answers come to: causes of refusal, answers in parts, and what is shown of a packet.
use Rattle.std.specs.Prelude.{ℕ, ◌+◌, ◌-◌, ◌≡◌, refl, List, length, take, drop}
use Rattle.std.proofs.Common.{sym, ap, ap₂, ◌∙◌, subst, arith, length-take, length-drop, ne_eqb}
use Rattle.std.proofs.Math.Option.{some}
use Rattle.std.specs.Borrow.{Bor}
use Rattle.line.specs.declared.Fault.{Fault}
use Rattle.line.specs.declared.Fault.TheVariants.{WrongEscape, TooLong}
use Rattle.line.specs.declared.Reading.{Reading}
use Rattle.line.specs.declared.FaultAt.{FaultAt}
use Rattle.line.specs.Reader as line
use Rattle.line.specs.declared.Answer.{Answer}
use Rattle.line.specs.declared.AnswerAt.{AnswerAt}
use Rattle.line.specs.declared.Told.{Told}
use Rattle.frame.specs.declared.FrameOutcome.{FrameOutcome}
use Rattle.frame.specs.declared.FrameOutcome.TheVariants as given
use Rattle.frame.specs.declared.view.View.{View}
use Rattle.frame.specs.Frame.{number, refusal, Outcome, frame, refused, head, around, judge}
use Rattle.frame.proofs.JudgeLaws.{judge-accepted, judge-frame, refused_number, numbered-some, framed-accepted}
use Rattle.frame.specs.Reader.{State, Scan, taken_as, taken, read}
use Rattle.frame.specs.Answers.{told, seen, Answers, answer_of, Within, Whole}
use Rattle.frame.specs.Judgements.{cause_of, refusal_of}
use Rattle.frame.specs.Lent.{told_of, ReadsFrame}
use Rattle.frame.specs.View.{shown_data, shown_start, Part, Shows, outcome_in}

-- a fault of the line reader is told as the line reader tells it
cause_number : (f : Fault) → number (cause_of f) ≡ line.number f
cause_number WrongEscape = refl
cause_number TooLong = refl

pub fault_refusal : (f : FaultAt) → refusal (refusal_of f) ≡ line.refusal f
fault_refusal f = ap (λ (n : ℕ). record { number = n; at = f.at }) (cause_number f.fault)

-- bytes that lie apart from an answer tell its frame and its state
pub apart_seen : (bs : List ℕ) (t : AnswerAt FrameOutcome)
    → seen (answer_of bs t) ≡ record { used = t.used; outcome = told t.outcome bs; after = taken_as bs t.cursor.count t.cursor.mode }
apart_seen bs t = refl

-- a call by value whose record is put back is a call on the lent record
pub frame-lent : (s : Reading) (w : List ℕ) (a : Answer FrameOutcome) → Answers (read (taken s) w) a → ReadsFrame s w (told_of a) a.reading
frame-lent s w a x = x

-- the data shown of a packet are its bytes from where they begin on
pub shown_part : (h : List ℕ) → shown_data (judge h) ≡ take (length (shown_data (judge h))) (drop (shown_start (judge h)) h)
shown_part h = go (judge h) refl
  where
    go : (o : Outcome) → judge h ≡ o → shown_data o ≡ take (length (shown_data o)) (drop (shown_start o) h)
    go (frame c d) e =
        let a = judge-accepted {h = h} e in
        let p = (judge-frame h e).1 in
        let n : length d ≡ length h - around = ap length p ∙ simp (length-take, length-drop) (omega arith) in
        rw n p
    go (refused n) e = refl

-- and they lie in the lent slice's memory
pub part_memory : (x : Bor (List ℕ)) (s n : ℕ) (r : Bor (List ℕ)) → Part x s n r → r.ref_ptr.0 ≡ x.ref_ptr.0
part_memory x s n r p = ap (λ (q : ℕ × ℕ). q.0) p.place

-- a view tells its packet's outcome
pub shown-outcome : (x : Bor (List ℕ)) (v : View) → Shows (judge x.now) x v → outcome_in v ≡ judge x.now
shown-outcome x v s = go (judge x.now) refl s
  where
    go : (o : Outcome) → judge x.now ≡ o → Shows o x v → outcome_in v ≡ o
    go (frame c d) e s = rw s.refusal (ap₂ frame s.command s.told)
    go (refused n) e s =
        rw (s.refusal, s.at, ne_eqb n.number 0 (numbered-some n.number (refused_number x.now n e))) refl

-- a frame's packet in the array is accepted, as that frame
pub whole-judged : (c n : ℕ) (bs : List ℕ) → Within (given.Frame c n) → Whole (given.Frame c n) bs → judge (take (n + around) bs) ≡ frame c (take n (drop head bs))
whole-judged c n bs h w = ap judge w ∙ framed-accepted c (take n (drop head bs)) (simp (length-take, length-drop) (omega arith))

-- What reading accepts can be viewed: where a call on a lent record tells a frame, the view of the packet at the array's front
-- shows that frame, and tells the outcome of the bytes read.
pub reading_shown : (s : Reading) (w : List ℕ) (t : Told FrameOutcome) (e : Reading) → ReadsFrame s w t e → (c n : ℕ) → t.outcome ≡ given.Frame c n
    → (x : Bor (List ℕ)) (v : View) → x.now ≡ take (n + around) e.bytes → Shows (judge x.now) x v
    → Shows (frame c (take n (drop head e.bytes))) x v × ((read (taken s) w).outcome ≡ some (outcome_in v))
reading_shown s w t e a c n p x v q h =
    let o : judge x.now ≡ frame c (take n (drop head e.bytes)) = ap judge q ∙ whole-judged c n e.bytes (rw p at a.data_within) (rw p at a.packet) in (
      subst (λ (z : Outcome). Shows z x v) o h,
      ap (λ (z : Scan State Outcome). z.outcome) (sym a.told) ∙ rw p (ap some (sym (shown-outcome x v h ∙ o))),
    )
