-- The lines that the calls' answers and the room are written as are those of the definitions' answers: a reply is what is told, and nothing spills.
use Rattle.std.specs.Prelude.{ℕ, zero, suc, ◌≡◌, Bool, true, false, cond, ltb, eqb, replicate, Ok, Err}
use Rattle.std.proofs.Math.Path.{refl, ap}
use Rattle.std.proofs.Common.{sym, ◌∙◌, true≢false, arith, length-take, length-drop, eq-eqb}
use mathlib.Core.List.{List, [], ◌∷◌, ◌++◌}
use Rattle.std.proofs.Math.Option.{Option, none, some}
use Rattle.std.proofs.Math.ListN.{length, take, drop}
use Rattle.std.proofs.Math.Seq.{take_at, drop-append_seam}
use Rattle.line.specs.declared.Reading.{Reading}
use Rattle.frame.specs.Line.{limit}
use Rattle.frame.specs.Answers as outcome
use Rattle.frame.specs.declared.FrameOutcome.{FrameOutcome as Given}
use Rattle.frame.specs.declared.FrameOutcome.TheVariants as given
use Rattle.feeds.specs.Service.{length_of, called}
use Rattle.feeds.proofs.ServiceLaws.{call_length, refused_untouched}
use Rattle.sessions.specs.Sessions as sessions
use Rattle.rules.specs.declared.Hub.{Hub}
use Rattle.rules.specs.Hub as rules
use Rattle.rules.specs.Promises.{Finishes}
use Rattle.rules.proofs.RefusalLaws.{finish_refused}
use Rattle.rules.specs.Answers.{CallAnswer, FinishAnswer, FeedAnswer, number, refusal_of, answer_of}
use Rattle.rules.specs.Promises.{Feeds}
use Rattle.rules.proofs.PromiseLaws.{feeds_promise}
use Rattle.report.specs.Report.{frame_line, has_other, has_spilled}
use Rattle.transcript.specs.Replies.{filler, call_line, refusal_line, finish_line, outcome_line, feed_line}
use Rattle.transcript.specs.World.{call_told, finish_told, outcome_told, feed_told}

-- ---- a room of filler

other_cons : (f b : ℕ) (l : List ℕ) → has_other f (b ∷ l) ≡ false → (eqb b f ≡ true) × (has_other f l ≡ false)
unfolding has_other
other_cons f b l p = go (eqb b f) refl p
  where
    go : (t : Bool) → eqb b f ≡ t → cond t (has_other f l) true ≡ false → (eqb b f ≡ true) × (has_other f l ≡ false)
    go true e p = (e, p)
    go false e p = absurd (true≢false p)

other-drop : (f n : ℕ) (l : List ℕ) → has_other f l ≡ false → has_other f (drop n l) ≡ false
unfolding has_other
other-drop f zero l p = p
other-drop f (suc n) [] p = p
other-drop f (suc n) (b ∷ l) p = other-drop f n l (other_cons f b l p).1

pub other_none : (f n : ℕ) → has_other f (replicate n f) ≡ false
unfolding has_other
other_none f zero = refl
other_none f (suc n) = rw (eq-eqb f f refl) (other_none f n)

-- ---- a call without room

pub call-told : (a : CallAnswer) → call_line a ≡ call_told (refusal_of a)
unfolding call_line call_told
call-told (Ok done) = refl
call-told (Err r) = refl

-- ---- calls with room: `part` is lent, all filler

-- the length that finish tells is the reply's
finish-length : (h : Hub) (x room l k : ℕ) → (rules.finish h x room).answer ≡ rules.finished_on l k → k ≡ length (rules.finish h x room).reply
finish-length h x room l k = go (sessions.finish h.slots x) (ltb room (length (rules.notice x)))
  where
    go : (o : Option sessions.Finished) (b : Bool) → (rules.finish_by o b h x).answer ≡ rules.finished_on l k → k ≡ length (rules.finish_by o b h x).reply
    go none b e = let z : ◌≡◌ {A = ℕ} 0 1 = cc in absurd (omega arith)
    go (some f) true e = let z : ◌≡◌ {A = ℕ} 0 1 = cc in absurd (omega arith)
    go (some f) false e = cc

-- the outcome that is written is the one told
outcome-told : (u : ℕ) (o : Given) (bs reply : List ℕ) → length bs ≡ limit → outcome.Within o → outcome_line u o reply false ≡ outcome_told u (outcome.told o bs) reply
unfolding outcome_line outcome_told
outcome-told u given.Nothing bs reply n w = refl
outcome-told u (given.Frame c k) bs reply n w =
    let long : length (take k (drop 4 bs)) ≡ k = length-take k (drop 4 bs) ∙ omega (arith, length-drop 4 bs) in
    ap (λ (z : ℕ). frame_line u c z reply false) (sym long)
outcome-told u (given.Refused r) bs reply n w = refl

module _ (part : List ℕ) (p : has_other filler part ≡ false) where
  -- a reply x of k bytes: behind it is filler
  none_spilled : (x left : List ℕ) (k : ℕ) → k ≡ length x → left ≡ x ++ drop (length x) part → has_spilled left k filler ≡ false
  unfolding has_spilled
  none_spilled x left k long e =
      let behind : drop k left ≡ drop (length x) part = ap (drop k) e ∙ ap (λ (n : ℕ). drop n (x ++ drop (length x) part)) long ∙ drop-append_seam x (drop (length x) part) in
      rw behind (other-drop filler (length x) part p)

  pub finish-told : (h : Hub) (x : ℕ) (a : FinishAnswer) (g : Hub) (left : List ℕ) → Finishes h x part a g left
      → finish_line a left ≡ finish_told (rules.finish h x (length part)).answer (rules.finish h x (length part)).reply
  unfolding finish_line finish_told refusal_line
  finish-told h x (Err r) g left w =
      let f = finish_refused h x (length part) (number r) (sym w.answer) in
      let room : left ≡ part = w.room ∙ ap (λ (z : rules.Finished). z.reply ++ drop (length z.reply) part) f in
      rw (f, none_spilled [] left 0 refl room)
  finish-told h x (Ok n) g left w =
      let F = rules.finish h x (length part) in
      let size = finish-length h x (length part) n.line n.len (sym w.answer) in
      let told : take n.len left ≡ F.reply = ap (take n.len) w.room ∙ take_at F.reply (drop (length F.reply) part) n.len (sym size) in
      rw (none_spilled F.reply left n.len size w.room, told, ← w.answer)

  pub feed-told : (h : Hub) (t : List ℕ) (r : Reading) (l : ℕ) (bytes : List ℕ) (a : FeedAnswer) (g : Hub) (e : Reading) (t' left : List ℕ)
      → Feeds h t r l bytes part a g t' e left
      → feed_line a left ≡ feed_told (answer_of a e.bytes) (take (length_of (answer_of a e.bytes)) left)
  unfolding feed_line feed_told refusal_line length_of
  feed-told h t r l bytes (Err why) g e t' left w =
      let room : left ≡ part = (refused_untouched (feeds_promise w) (number why) refl).3 in
      rw (none_spilled [] left 0 refl room)
  feed-told h t r l bytes (Ok x) g e t' left w =
      let c = called rules.hub h t r l bytes part in
      let size : x.len ≡ length c.result.reply = ap length_of w.answer ∙ call_length rules.hub h t _ l bytes (length part) in
      rw (none_spilled c.result.reply left x.len size w.room)
      (outcome-told x.used x.outcome e.bytes (take x.len left) w.bounded.0.0 w.bounded.1)
