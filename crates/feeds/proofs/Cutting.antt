-- The cutting law for feeds: however bytes are cut into pieces, each fed to a line until it is used up, outcomes, replies and end state are the same.
use Rattle.std.specs.Prelude.{ℕ, ◌<◌, ◌≡◌, length}
use Rattle.std.proofs.Math.Path.{sym}
use Rattle.std.proofs.Common.{ap, ap₂, ◌∙◌}
use mathlib.Core.List.{List, [], ◌∷◌, append-nil, flatten}
use Rattle.std.proofs.Math.Option.{none}
use Rattle.frame.specs.Frame.{Outcome}
use Rattle.frame.specs.Reader.{State}
use Rattle.feeds.specs.System.{Entry, System, World, results, end_state}
use Rattle.feeds.specs.Marks.{answers_of, used_on, told_on}
use Rattle.feeds.specs.Serving.{replies_told, ServedAll, AllOn, served_by, in_pieces}
use Rattle.feeds.proofs.ServingLaws.{LineServed, line_served}
use Rattle.feeds.proofs.Reach.{pieces_on, pieces_used}

module _ (H : System) (l : ℕ) (w : World H) where
  -- Two lists of feeds tell the same outcomes on line l, send the same replies with them in order, and end in the same hub, table and states.
  pub record Same (es fs : List Entry) : Type 0 where
    pub told : told_on l es (answers_of H w es) ≡ told_on l fs (answers_of H w fs)
    pub replies : replies_told (results H w es) ≡ replies_told (results H w fs)
    pub end : end_state H w es ≡ end_state H w fs

  -- Two lists of feeds on line l that use the same bytes come to the same, refused feeds included.
  pub used-same : l < length w.states → (es fs : List Entry) → AllOn l es → AllOn l fs
      → used_on l es (answers_of H w es) ≡ used_on l fs (answers_of H w fs) → Same es fs
  used-same h es fs x y u =
      let a : LineServed H l w es (used_on l fs (answers_of H w fs)) = rw u at (line_served H l es w x h) in
      let b = line_served H l fs w y h in
      let left : served_by H w es ≡ served_by H w fs = a.left ∙ sym b.left in
      let states : (end_state H w es).states ≡ (end_state H w fs).states = a.states ∙ sym b.states in
      record {
        told = a.told ∙ sym b.told;
        replies = ap (λ (r : ServedAll H). r.replies) left;
        end = ap₂ (λ (r : ServedAll H) (ss : List State). record { hub = r.hub; table = r.table; states = ss }) left states;
      }

  -- The law, on a line that is not refused while P holds of hub and table, where serving keeps P.
  pub cut_same : (room : ℕ) (spare : State) (P : H.Hub → H.Table → Type 0)
      → ((h : H.Hub) (t : H.Table) (o : Outcome) → P h t → P (H.serve h t l o).hub (H.serve h t l o).table)
      → ((h : H.Hub) (t : H.Table) (s : State) (bs : List ℕ) → P h t → H.refusal h t s l bs room ≡ none)
      → P w.hub w.table → l < length w.states
      → (pieces : List (List ℕ)) → Same (in_pieces H l room spare w pieces) (in_pieces H l room spare w (flatten pieces ∷ []))
  unfolding flatten
  cut_same room spare P keeps free k h pieces =
      let whole : List (List ℕ) = flatten pieces ∷ [] in
      used-same h (in_pieces H l room spare w pieces) (in_pieces H l room spare w whole)
      (pieces_on H l room spare pieces w) (pieces_on H l room spare whole w)
      (pieces_used H l room spare P keeps free pieces w k ∙ sym (append-nil (flatten pieces)) ∙ sym (pieces_used H l room spare P keeps free whole w k))
