-- Laws of frames on a line: what they, and ENDs around them, give.
use Rattle.std.specs.Prelude.{ℕ, zero, suc, ◌≡◌, refl, List, [], ◌∷◌, ◌++◌, map, replicate}
use Rattle.std.proofs.Common.{sym, ap, ◌∙◌, append_assoc, append-nil}
use Rattle.frame.specs.Frame.{Refusal, Numbered, refused, body, framed, wire}
use Rattle.frame.specs.Xor.{◌⊕◌, xor_all}
use Rattle.frame.specs.Reader.{END, escape, outcomes, final, State, emptied, step}
use Rattle.frame.proofs.ReaderLaws.{outcomes_append, final_append, final-closed, outcomes_end}
use Rattle.frame.specs.Damage.{Damage}
use Rattle.frame.proofs.DamageLaws.{damaged_refused, whole-read}
use Rattle.feeds.specs.Sent.{Sent, frame_of, enclosed, sent, sent_then}
use Rattle.feeds.specs.System.{error_reply}

-- The error reply is the wire form of command 0000 with byte 2.
pub error_reply_wire : error_reply ≡ wire 0 (2 ∷ [])
unfolding wire framed body xor_all ◌⊕◌ escape
error_reply_wire = refl

-- ENDs between packets give nothing.
outcomes_ends : (n : ℕ) (rest : List ℕ) → outcomes step emptied (replicate n END ++ rest) ≡ outcomes step emptied rest
outcomes_ends zero rest = refl
outcomes_ends (suc n) rest = outcomes_end (replicate n END ++ rest) ∙ outcomes_ends n rest

-- Enclosed bytes are read as bytes closed with an END.
pub outcomes-enclosed : (n : ℕ) (w rest : List ℕ) → outcomes step emptied (enclosed n w ++ rest) ≡ outcomes step emptied (w ++ END ∷ rest)
outcomes-enclosed n w rest =
    ap (outcomes step emptied) (append_assoc (replicate n END) (w ++ END ∷ []) rest) ∙ outcomes_ends n (w ++ END ∷ [] ++ rest)
    ∙ ap (outcomes step emptied) (append_assoc w (END ∷ []) rest)

-- Frames on a line between packets give themselves, in order.
pub outcomes-sent : (fs : List Sent) (rest : List ℕ) → outcomes step emptied (sent fs ++ rest) ≡ map frame_of fs ++ outcomes step emptied rest
unfolding sent frame_of
outcomes-sent [] rest = refl
outcomes-sent (f ∷ fs) rest =
    ap (outcomes step emptied) (append_assoc (enclosed f.ends (escape f.bytes)) (sent fs) rest)
    ∙ outcomes-enclosed f.ends (escape f.bytes) (sent fs ++ rest)
    ∙ whole-read f.bytes f.accepted (sent fs ++ rest)
    ∙ ap (λ x. frame_of f ∷ x) (outcomes-sent fs rest)

-- The same, where nothing follows, and where only ENDs do.
pub outcomes_frames : (fs : List Sent) → outcomes step emptied (sent fs) ≡ map frame_of fs
unfolding outcomes
outcomes_frames fs = ap (outcomes step emptied) (sym (append-nil (sent fs))) ∙ outcomes-sent fs [] ∙ append-nil (map frame_of fs)

pub outcomes_then : (fs : List Sent) (n : ℕ) → outcomes step emptied (sent_then fs n) ≡ map frame_of fs
unfolding outcomes
outcomes_then fs n =
    let ends : outcomes step emptied (replicate n END) ≡ [] = ap (outcomes step emptied) (sym (append-nil (replicate n END))) ∙ outcomes_ends n [] in
    outcomes-sent fs (replicate n END) ∙ ap (λ y. map frame_of fs ++ y) ends ∙ append-nil (map frame_of fs)

-- Frames, one that is damaged, and any bytes: the outcomes are the frames, a packet refusal, and those of the bytes.
pub outcomes_damaged : (before : List Sent) (f : Sent) {damaged : List ℕ} → Damage (escape f.bytes) damaged
    → (n : Refusal) × Numbered n.number
    × ((rest : List ℕ) → outcomes step emptied (sent before ++ (enclosed f.ends damaged ++ rest)) ≡ map frame_of before ++ refused n ∷ outcomes step emptied rest)
outcomes_damaged before f {damaged} x =
    let (n, p, r) = damaged_refused f.bytes f.accepted x in (
      n,
      p,
      λ rest.
          outcomes-sent before (enclosed f.ends damaged ++ rest) ∙ ap (λ y. map frame_of before ++ y) (outcomes-enclosed f.ends damaged rest ∙ r rest),
    )

-- From any state, bytes closed with an END give their outcomes, and what follows gives its own, as from between packets.
pub outcomes_recovered : (s : State) (w rest : List ℕ) → outcomes step s (w ++ END ∷ rest) ≡ outcomes step s (w ++ END ∷ []) ++ outcomes step emptied rest
unfolding final
outcomes_recovered s w rest =
    ap (outcomes step s) (sym (append_assoc w (END ∷ []) rest))
    ∙ outcomes_append step s (w ++ END ∷ []) rest
    ∙ ap (λ (z : State). outcomes step s (w ++ END ∷ []) ++ outcomes step z rest) (final_append step s w (END ∷ []) ∙ final-closed (final step s w) [] [] tt)
