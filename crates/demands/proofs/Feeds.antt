-- Feeds on this hub: a refused packet, any bytes used up in any pieces, and lines above 3. Their other laws are those of any hub: crate feeds, CallLaws and ServingLaws.
use Rattle.std.specs.Prelude.{ℕ, ◌≤◌, ◌<◌, ◌≡◌, refl, Bool, true, false, cond, not, length, eqb}
use Rattle.std.proofs.Common.{◌∙◌, arith, eqb-true, le-ltb}
use mathlib.Core.List.{List, [], ◌∷◌, flatten}
use Rattle.std.proofs.Math.Option.{none, some}
use Rattle.frame.specs.Frame as frames
use Rattle.frame.specs.Reader.{also, State, emptied, read}
use Rattle.nodes.specs.Table.{table_size}
use Rattle.feeds.specs.System.{Entry, told, state_for, call, decided, returned, feed, results, error_reply}
use Rattle.feeds.specs.Marks.{answers_of, outcome_of, used_on, told_on}
use Rattle.feeds.specs.Serving.{in_pieces}
use Rattle.feeds.proofs.CallLaws.{packet_refused}
use Rattle.feeds.proofs.Reach.{pieces_used}
use Rattle.feeds.proofs.Cutting.{Same, cut_same}
use Rattle.rules.specs.declared.Hub.{Hub}
use Rattle.rules.specs.Hub.{line_count, wrong_table, wrong_line, refuse_if, feed_refusal, hub}
use Rattle.demands.specs.Calls.{World}
use Rattle.demands.proofs.ErrorReply.{only_error_reply}
use Rattle.rules.proofs.Lengths.{serve-kept}
use Rattle.rules.proofs.Longest.{longest_reply, room_enough}

module _ (h : Hub) (t : List ℕ) (s : State) (l : ℕ) (bytes : List ℕ) (room : ℕ) where
  -- a refused packet is used up, to its END, and brings one error reply only
  pub refused_packet : (n : frames.Refusal) → feed_refusal h t s l bytes room ≡ none → (read s bytes).outcome ≡ some (frames.refused n)
      → call hub h t s l bytes room ≡ record {
        hub = h;
        table = t;
        state = emptied;
        result = record { answer = told (read s bytes).used (some (frames.refused n)) (length error_reply); reply = error_reply };
      }
  refused_packet n p q = packet_refused hub h t s l bytes room only_error_reply n p q

-- a line of the four, with room for the longest reply, and a table of the right length; for other rooms, and refused feeds, see Demand2, `cut`
module _ (w : World) (l room : ℕ) (spare : State) (line : l < line_count) (enough : longest_reply ≤ room) (size : length w.table ≡ table_size) (four : length w.states ≡ line_count) where
  -- any bytes can be used up, in any pieces
  pub used_up : (pieces : List (List ℕ)) → used_on l (in_pieces hub l room spare w pieces) (answers_of hub w (in_pieces hub l room spare w pieces)) ≡ flatten pieces
  used_up pieces =
      pieces_used hub l room spare (λ h t. length t ≡ table_size) (λ h t o k. serve-kept h t l o ∙ k) (λ h t s bs k. room_enough h t s l bs room k (omega arith) enough) pieces w size

  -- for every split of a byte list into pieces, each piece fed until used up: same outcomes, same replies in order, same hub, table
  -- and record as for the whole list fed until used up
  pub cut_anywhere : (pieces : List (List ℕ)) → Same hub l w (in_pieces hub l room spare w pieces) (in_pieces hub l room spare w (flatten pieces ∷ []))
  cut_anywhere pieces =
      cut_same hub l w room spare (λ h t. length t ≡ table_size) (λ h t o k. serve-kept h t l o ∙ k) (λ h t s bs k. room_enough h t s l bs room k (omega arith) enough)
      size (omega arith) pieces

-- ---- lines above 3

-- a feed on one tells no outcome: it is refused
above_refused : (w : World) (e : Entry) → line_count ≤ e.line → outcome_of (feed hub w e).1.answer ≡ none
unfolding outcome_of feed returned call decided
above_refused w e h = rw (le-ltb e.line line_count h) (go (not (eqb (length w.table) table_size)))
  where
    go : (b : Bool) → outcome_of (decided hub w.hub w.table e.line (state_for hub w e) (read (state_for hub w e) e.bytes) (refuse_if b wrong_table (some wrong_line))).result.answer ≡ none
    go true = refl
    go false = refl

pub above_none : (l : ℕ) → line_count ≤ l → (es : List Entry) (w : World) → told_on l es (answers_of hub w es) ≡ []
unfolding told_on results
above_none l h [] w = refl
above_none l h (e ∷ es) w = go (eqb e.line l) refl (above_none l h es (feed hub w e).0)
  where
    go : (t : Bool) → eqb e.line l ≡ t → told_on l es (answers_of hub (feed hub w e).0 es) ≡ []
        → also (cond t (outcome_of (feed hub w e).1.answer) none) (told_on l es (answers_of hub (feed hub w e).0 es)) ≡ []
    go true p ih = rw (above_refused w e (rw (eqb-true e.line l p) h)) ih
    go false p ih = ih
