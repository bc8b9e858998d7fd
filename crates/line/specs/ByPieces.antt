-- Document 01, "From wire to packet", and document 02, CR 2: the reader gives the outcomes of the closed pieces, each refusal with its places
-- counted along its piece, and keeps the open last one. It does so from between packets and from every state that bytes leave, so from that
-- of every record.
use Rattle.std.specs.Prelude.{ℕ, ◌≡◌, refl, List, [], ◌∷◌, ◌++◌}
use Rattle.std.proofs.Common.{sym, ap, ◌∙◌}
use Rattle.line.specs.declared.Reading.{Reading}
use Rattle.line.specs.Wire.{END}
use Rattle.line.specs.Scan.{outcomes, final}
use Rattle.line.specs.Reader.{State, emptied, Outcome, inside, close, step}
use Rattle.line.specs.Pieces.{closed, last, decode, outcome, piece_outcomes, NoEnd}
use Rattle.line.specs.PieceLaws.{outcomes_pieces, final_pieces, closed-from, last-from}
use Rattle.line.specs.Reachable.{Reachable, written}
use Rattle.line.specs.ReachableLaws.{written_reaches, written_no_end}
use Rattle.line.specs.Answers.{taken}
use Rattle.line.specs.AnswerLaws.{taken_reachable}

-- what the bytes w give and leave, from the state s, is what the pieces of the wire v do
pub record ByPieces (s : State) (w v : List ℕ) : Type 0 where
  pub given : outcomes step s w ≡ piece_outcomes (closed [] v)
  pub kept : final step s w ≡ decode (last [] v)

-- bytes without an END that lead to the state s stand before w
by_pieces_from : (s : State) (p w : List ℕ) → inside emptied p ≡ s → NoEnd p → ByPieces s w (p ++ w)
by_pieces_from s p w e x = record {
  given = ap (λ (z : State). outcomes step z w) (sym e) ∙ outcomes_pieces p w x ∙ ap piece_outcomes (sym (closed-from [] p w x));
  kept = ap (λ (z : State). final step z w) (sym e) ∙ final_pieces p w x ∙ ap decode (sym (last-from [] p w x));
}

pub by_pieces : (w : List ℕ) → ByPieces emptied w w
unfolding inside
by_pieces w = by_pieces_from emptied [] w refl tt

pub by_pieces_reachable : (s : State) (w : List ℕ) → Reachable s → ByPieces s w (written s ++ w)
by_pieces_reachable s w x = by_pieces_from s (written s) w (written_reaches s x) (written_no_end s)

pub by_pieces_taken : (r : Reading) (w : List ℕ) → ByPieces (taken r) w (written (taken r) ++ w)
by_pieces_taken r w = by_pieces_reachable (taken r) w (taken_reachable r)

-- an empty piece gives no outcome
pub piece_empty : (w : List ℕ) → outcomes step emptied (END ∷ w) ≡ outcomes step emptied w
unfolding outcomes step close
piece_empty w = refl

-- every other closed piece gives exactly one
pub piece_one : (b : ℕ) (p w : List ℕ) → NoEnd (b ∷ p) → outcomes step emptied (b ∷ p ++ END ∷ w) ≡ outcome (b ∷ p) (decode (b ∷ p)) ∷ outcomes step emptied w
unfolding closed piece_outcomes
piece_one b p w x =
    (by_pieces (b ∷ p ++ END ∷ w)).given
    ∙ ap piece_outcomes (closed-from [] (b ∷ p) (END ∷ w) x)
    ∙ ap (λ (l : List Outcome). outcome (b ∷ p) (decode (b ∷ p)) ∷ l) (sym (by_pieces w).given)
