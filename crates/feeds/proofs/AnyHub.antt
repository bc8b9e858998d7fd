-- Demand 3 for any hub, over the definition of feed.
use Rattle.std.specs.Prelude.{ℕ, ◌<◌, ◌≡◌, List, [], ◌∷◌, ◌++◌, map, length}
use Rattle.std.proofs.Common.{ap, ◌∙◌}
use Rattle.std.proofs.lemmas.List.{length-map}
use Rattle.frame.specs.Frame.{Refusal, Numbered, refused}
use Rattle.frame.specs.Reader.{END, escape, outcomes, emptied, step}
use Rattle.frame.specs.Damage.{Damage}
use Rattle.feeds.specs.System.{Entry, System, World, error_reply, OnlyErrorReply}
use Rattle.feeds.specs.Marks.{answers_of, used_on, told_on, marks, Isolated}
use Rattle.feeds.specs.Sent.{Sent, frame_of, enclosed, sent, sent_then}
use Rattle.feeds.proofs.SystemLaws.{own, told-outcomes}
use Rattle.feeds.proofs.SentLaws.{outcomes_damaged, outcomes_then, outcomes_recovered}
use Rattle.feeds.proofs.Isolation.{isolated}

-- A damaged frame behind the frames `before` and before the bytes `rest`: its feeds are isolated, and its outcome is a packet refusal.
pub record DamageIsolated (H : System) (l : ℕ) (w : World H) (es : List Entry) (before : List Sent) (rest : List ℕ) : Type 0 where
  pub isolated : Isolated H error_reply w es (marks l (length before) es (answers_of H w es))
  pub refusal : Refusal
  pub numbered : Numbered refusal.number
  pub told : told_on l es (answers_of H w es) ≡ map frame_of before ++ refused refusal ∷ outcomes step emptied rest

module _ (H : System) (l : ℕ) (w : World H) (has : l < length w.states) (es : List Entry) where
  -- The first half, whatever follows the damaged frame.
  pub damage_isolated : OnlyErrorReply H → own H l w ≡ emptied → (before : List Sent) (f : Sent) (damaged rest : List ℕ) → Damage (escape f.bytes) damaged
      → used_on l es (answers_of H w es) ≡ sent before ++ (enclosed f.ends damaged ++ rest) → DamageIsolated H l w es before rest
  damage_isolated only idle before f damaged rest x u =
      let (n, p, r) = outcomes_damaged before f x in
      let o : outcomes step (own H l w) (used_on l es (answers_of H w es)) ≡ map frame_of before ++ refused n ∷ outcomes step emptied rest = rw (idle, u) (r rest) in
      let i = isolated H l (refused n) (λ h t. only h t l n) es (map frame_of before) (outcomes step emptied rest) w has idle o in
      record {
        isolated = rw (length-map before frame_of) at i;
        refusal = n;
        numbered = p;
        told = told-outcomes H l es w has ∙ o;
      }

  -- The second half: any bytes whatever, from any state, then undisturbed frames.
  pub frames_recovered : (bytes : List ℕ) (frames : List Sent) (n : ℕ) → used_on l es (answers_of H w es) ≡ bytes ++ END ∷ sent_then frames n
      → told_on l es (answers_of H w es) ≡ outcomes step (own H l w) (bytes ++ END ∷ []) ++ map frame_of frames
  frames_recovered bytes frames n u =
      told-outcomes H l es w has
      ∙ ap (outcomes step (own H l w)) u
      ∙ outcomes_recovered (own H l w) bytes (sent_then frames n)
      ∙ ap (λ y. outcomes step (own H l w) (bytes ++ END ∷ []) ++ y) (outcomes_then frames n)
