-- Reading is exact: stated of lists of feeds as crate feeds has them, and proved; and of what the writer wrote (specs/Frames.antt).
use Rattle.std.specs.Prelude.{ℕ, ◌≡◌, List, [], ◌++◌, Result, map, drop, get_or}
use Rattle.std.proofs.Common.{sym, ap, ◌∙◌, take_at, drop_at}
use Rattle.frame.specs.Line.{NoEnd, closed, last, decode, piece_outcomes}
use Rattle.frame.specs.Frame.{Refusal, frame, refused, command_of, data_of, judge, wire}
use Rattle.frame.specs.declared.WriteRefusal.{WriteRefusal}
use Rattle.frame.specs.Writer as writer
use Rattle.frame.specs.Writer.{up_to, write, Writes}
use Rattle.frame.specs.WireLaws.{write_done}
use Rattle.frame.specs.Places.{InPiece}
use Rattle.frame.proofs.PlaceLaws.{refused_in_piece}
use Rattle.frame.specs.Accepted.{Accepted}
use Rattle.frame.proofs.JudgeLaws.{judge-accepted, judge-frame, accepted-judge}
use Rattle.frame.specs.Reader.{outcomes, final, plain, emptied, emptied_reading, step, taken, judged}
use Rattle.frame.proofs.ReaderLaws.{by_pieces_taken}
use Rattle.feeds.specs.Sent.{frame_of}
use Rattle.feeds.proofs.SentLaws.{outcomes_frames}
use Rattle.feeds.specs.Service.{used_in, told_in}
use Rattle.feeds.specs.Demand3.{Line, record_at}
use Rattle.rules.specs.Frames.{Frames}
use Rattle.rules.proofs.Frames.{wire-sent}
use Rattle.demands.specs.FeedLists.{FeedList}
use Rattle.demands.proofs.FeedLists.{feeds_of}
use Rattle.demands.specs.Frames.{wire_of, Wrote}
use Rattle.demands.proofs.FeedLists.{feeds_of}

-- reading
pub record ReadExactly : Type 0 where
  -- "The wire is cut at every END": a line's outcomes are those of its closed pieces, decoded and judged,
  pub told : (l : ℕ) (f : FeedList) → let F = feeds_of f in Line l F → told_in l F ≡ map judged (piece_outcomes (closed [] (wire_of l F)))
  -- and its record is left in the state of the open last one
  pub kept : (l : ℕ) (f : FeedList) → let F = feeds_of f in Line l F → taken (get_or F.end.records l emptied_reading) ≡ decode (last [] (wire_of l F))
  -- a packet is a frame exactly if it passes every check; its command and data are those in their places
  pub accepted : (h : List ℕ) → Accepted h → judge h ≡ frame (command_of h) (data_of h)
  pub checked : (h : List ℕ) (c : ℕ) (d : List ℕ) → judge h ≡ frame c d → Accepted h × (c ≡ command_of h) × (d ≡ data_of h)
  -- a packet that a check refuses is told at places of the piece p that gave it (document 02, CR 2); a fault's are counted along its piece
  pub placed : (p h : List ℕ) (n : Refusal) → NoEnd p → decode p ≡ plain h → judge h ≡ refused n → InPiece p h n.at

-- from what a list tells and leaves by the reader's definition
pub read_exactly : ((l : ℕ) (f : FeedList) → let F = feeds_of f in Line l F → told_in l F ≡ outcomes step (taken (record_at l F)) (used_in l F))
    → ((l : ℕ) (f : FeedList) → let F = feeds_of f in Line l F → taken (get_or F.end.records l emptied_reading) ≡ final step (taken (record_at l F)) (used_in l F)) → ReadExactly
read_exactly outcome state = record {
  told = λ l f line. outcome l f line ∙ (by_pieces_taken (record_at l (feeds_of f)) (used_in l (feeds_of f))).given;
  kept = λ l f line. state l f line ∙ (by_pieces_taken (record_at l (feeds_of f)) (used_in l (feeds_of f))).kept;
  accepted = accepted-judge;
  checked = λ h c d e. (judge-accepted {h = h} e, (judge-frame h e).0, (judge-frame h e).1);
  placed = refused_in_piece;
}

-- and of what is read back
pub read_frames : (w : List ℕ) (x : Frames w) → outcomes step emptied w ≡ map frame_of x.frames
read_frames w x = ap (outcomes step emptied) x.bytes ∙ outcomes_frames x.frames

-- what the writer leaves, by the laws of its definition
pub writer_wrote : (room : List ℕ) (c : ℕ) (d : List ℕ) (r : Result ℕ WriteRefusal) (left : List ℕ) → Writes (write room c d) (writer.told r) left → (n : ℕ) → writer.told r ≡ up_to n → Wrote room c d n left
writer_wrote room c d r left x n e =
    let (most, k, w) = write_done room c d n (sym x.answer ∙ e) in
    let l : left ≡ wire c d ++ drop n room = x.room ∙ w in
    record {
      most = most;
      frame = rw (l, take_at (wire c d) (drop n room) n (sym k)) (wire-sent c d most);
      behind = rw (l, drop_at (wire c d) (drop n room) n (sym k));
    }
