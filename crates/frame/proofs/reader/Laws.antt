-- What the proofs of the functions share.
use Prim.Native.Nat.{ℕ, zero, suc, ◌+◌, ◌≤◌}
use mathlib.Core.Path.{◌≡◌, sym, ap, ◌∙◌}
use mathlib.Core.List.{List, [], ◌∷◌}
use native.Mathlib.Nat.{zero-add, suc-add}
use native.Mathlib.Omega.{arith}
use lib.ListN.{length, take, drop}
use lib.Seq.{take-nil, take-take, length-take-le}
use Rattle.line.specs.declared.PacketOutcome.{PacketOutcome as Got}
use Rattle.line.specs.declared.PacketOutcome.TheVariants as got
use Rattle.line.specs.Reader.{limit}
use Rattle.frame.specs.declared.AcceptedFrame.{AcceptedFrame}
use Rattle.frame.specs.declared.PacketRefusal.{PacketRefusal}
use Rattle.std.specs.Prelude.{Result, Ok, Err}
use Rattle.frame.specs.declared.FrameOutcome.{FrameOutcome}
use mathlib.Core.Option.{Option, some}
use Rattle.line.specs.declared.AnswerAt.{AnswerAt}
use Rattle.line.specs.Reader as line
use Rattle.line.specs.Answers as line_answers
use Rattle.frame.specs.Frame as Frame
use Rattle.frame.specs.Frame.{frame, head, around, framed, judge}
use Rattle.frame.specs.Reader.{State, taken_as, verdict, read}
use Rattle.frame.specs.Answers.{Judges, answer_of, Answers}
use Rattle.frame.proofs.ReaderLaws.{judged_call, read-judged}
use Rattle.frame.specs.Judgements.{outcome_of, Judging}

drop-take : (i k : ℕ) (l : List ℕ) → drop i (take (i + k) l) ≡ take k (drop i l)
drop-take zero k l = rw zero-add
drop-take (suc i) k [] = rw (take-nil k, take-nil (suc i + k))
drop-take (suc i) k (x ∷ l) = rw suc-add (drop-take i k l)

-- data seen in a packet are seen in the array that it lies at the front of
front_part : (bs : List ℕ) (n k : ℕ) → k + around ≡ n → take k (drop head (take n bs)) ≡ take k (drop head bs)
front_part bs n k e =
    let m : n ≡ head + suc k = omega arith in
    ap (λ (x : ℕ). take k (drop head (take x bs))) m ∙ ap (take k) (drop-take head (suc k) bs) ∙ take-take k (suc k) (drop head bs) (omega arith)

-- a packet that is a frame at the front of bs stands there whole
front_whole : (bs : List ℕ) (c n k s : ℕ) → s ≡ head → k + around ≡ n → take n bs ≡ framed c (take k (drop s (take n bs))) → take (k + around) bs ≡ framed c (take k (drop head bs))
front_whole bs c n k s p e w =
    ap (λ (x : ℕ). take x bs) e ∙ w ∙ ap (λ (x : ℕ). framed c (take k (drop x (take n bs)))) p ∙ ap (framed c) (front_part bs n k e)

-- a packet of n bytes at the front of bs was judged as j
pub judging : (bs : List ℕ) (n : ℕ) (g : Got) (j : Result AcceptedFrame PacketRefusal) (r : FrameOutcome) → g ≡ got.Packet n → r ≡ outcome_of j
    → Judges (judge (take n bs)) (take n bs) j → n ≤ limit → length bs ≡ limit → Judging bs g r
unfolding verdict
judging bs n g (Ok a) r e f x h l =
    let c = a.command in
    let s = a.start in
    let k = a.len in
    let (p, q, m) = x.within in
    let w : length (take n bs) ≡ n = length-take-le n bs (omega arith) in
    record {
      told =
          rw (e, f)
          (ap some
          (ap (frame c) (sym (front_part bs n k (q ∙ w))) ∙ ap (λ (i : ℕ). frame c (take k (drop i (take n bs)))) (sym p) ∙ x.told));
      within = rw f m;
      whole = rw f (front_whole bs c n k s p (q ∙ w) x.whole);
      full = l;
    }
judging bs n g (Err q) r e f x h l = record { told = rw (e, f) (ap some x.told); within = rw f tt; whole = rw f tt; full = l }

-- what the line reader answered, judged, is what the frame layer answers
pub answered : (s : State) (w bs : List ℕ) (t : AnswerAt Got) (o : FrameOutcome) → line_answers.Answers (line.read s w) (line_answers.answer_of bs t) → Judging bs t.outcome o
    → Answers (read s w) (answer_of bs (record { used = t.used; outcome = o; cursor = t.cursor }))
answered s w bs t o x y = record {
  told =
      ap (λ (z : Option Frame.Outcome). record { used = t.used; outcome = z; after = taken_as bs t.cursor.count t.cursor.mode }) y.told
      ∙ ap judged_call x.told
      ∙ sym (read-judged s w);
  data_within = y.within;
  packet = y.whole;
  count_within = x.count_within;
  clear = x.clear;
  full = y.full;
}
