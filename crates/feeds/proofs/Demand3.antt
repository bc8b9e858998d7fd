-- Demand 3 (specs/Demand3.antt) holds of any hub that answers a refused packet with the error reply only.
use Rattle.std.specs.Prelude.{ℕ, ◌<◌, ◌≡◌, Bool, List, [], ◌∷◌, ◌++◌, map, length}
use Rattle.std.proofs.Common.{sym, ap, ap₂, ◌∙◌, arith}
use Rattle.std.proofs.Math.ListN.{length-map, get_or-map}
use Rattle.frame.specs.Frame.{Outcome, refused}
use Rattle.frame.specs.Reader.{END, outcomes, State, taken, emptied, emptied_reading, step}
use Rattle.frame.proofs.ReaderLaws.{by_pieces_taken}
use Rattle.feeds.specs.System.{Entry, System, Result, World, results, end_state, OnlyErrorReply}
use Rattle.feeds.specs.Marks.{replies, answers_of, used_on, told_on, marks, marked, unmarked, nonempty}
use Rattle.feeds.specs.Sent.{frame_of, enclosed, sent, sent_then}
use Rattle.feeds.specs.Service.{world_of, Feeds, entries_in, results_in, answers_in}
use Rattle.feeds.proofs.SystemLaws.{own}
use Rattle.feeds.proofs.SentLaws.{outcomes_then}
use Rattle.feeds.proofs.AnyHub.{damage_isolated, frames_recovered}
use Rattle.feeds.proofs.ServiceLaws.{run_results, run_answers, run_end}
use Rattle.feeds.specs.Demand3.{Line, record_at, OneDamaged, its_feeds, Harmless, AnyThenFrames, Recovered, Demand3}

module _ {H : System} where
  -- The line's state at the start is that of its record.
  pub own-taken : (l : ℕ) (F : Feeds H) → own H l (world_of F.start) ≡ taken (record_at l F)
  unfolding world_of
  own-taken l F = get_or-map taken F.start.records l emptied_reading

  -- It is one of the lines that have a state.
  pub has_line : (l : ℕ) (F : Feeds H) → Line l F → l < length (world_of F.start).states
  unfolding world_of
  has_line l F x = omega (arith, length-map F.start.records taken)

  -- The first half.
  pub harmless : OnlyErrorReply H → (l : ℕ) (F : Feeds H) (d : OneDamaged l F) → Harmless l F d
  harmless only l F d =
      let w : World H = world_of F.start in
      let es : List Entry = entries_in F in
      let A : answers_in F ≡ answers_of H w es = run_answers F in
      let R : results_in F ≡ results H w es = run_results F in
      let M : its_feeds d ≡ marks l (length d.before) es (answers_of H w es) = ap (marks l (length d.before) es) A in
      let u : used_on l es (answers_of H w es) ≡ sent d.before ++ (enclosed d.one.ends d.damaged ++ sent_then d.after d.ends) = ap (used_on l es) (sym A) ∙ d.used in
      let b : own H l w ≡ emptied = own-taken l F ∙ d.between in
      let x = damage_isolated H l w (has_line l F d.line) es only b d.before d.one d.damaged (sent_then d.after d.ends) d.damage u in
      let i = x.isolated in
      record {
        one_reply = ap₂ (λ (m : List Bool) (r : List Result). nonempty (replies (marked m r))) M R ∙ i.one_reply;
        same_results = λ G y.
            run_results G
            ∙ ap₂ (results H) y.start (y.entries ∙ ap (λ (m : List Bool). unmarked m es) M)
            ∙ i.same_results
            ∙ ap₂ (λ (m : List Bool) (r : List Result). unmarked m r) (sym M) (sym R);
        same_end = λ G y.
            run_end G
            ∙ ap₂ (end_state H) y.start (y.entries ∙ ap (λ (m : List Bool). unmarked m es) M)
            ∙ i.same_end
            ∙ sym (run_end F);
        refusal = x.refusal;
        numbered = x.numbered;
        told = ap (told_on l es) A ∙ x.told ∙ ap (λ (z : List Outcome). map frame_of d.before ++ refused x.refusal ∷ z) (outcomes_then d.after d.ends);
      }

  -- The second half.
  pub recovered : (l : ℕ) (F : Feeds H) (a : AnyThenFrames l F) → Recovered l F a
  recovered l F a =
      let w : World H = world_of F.start in
      let es : List Entry = entries_in F in
      let A : answers_in F ≡ answers_of H w es = run_answers F in
      let v : List ℕ = a.bytes ++ END ∷ [] in
      let o = frames_recovered H l w (has_line l F a.line) es a.bytes a.frames a.ends (ap (used_on l es) (sym A) ∙ a.used) in
      let p = ap (λ (s : State). outcomes step s v) (own-taken l F) ∙ (by_pieces_taken (record_at l F) v).given in
      record { told = ap (told_on l es) A ∙ o ∙ ap (λ (z : List Outcome). z ++ map frame_of a.frames) p }

-- Every hub that answers a refused packet with the error reply only has demand 3.
pub demand3 : (H : System) → OnlyErrorReply H → Demand3 H
demand3 H only = record { first = harmless only; second = recovered }
