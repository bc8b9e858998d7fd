-- Demand 3, stated of any hub that answers a refused packet with the error reply only, and of any feed that keeps its promise; proofs/Demand3.antt proves it.
-- Words in quotes are the papers'. A list of feeds F : Feeds H is one that was run: each feed by its promise, and each "gets the hub, the one table
-- .. and its line's own record as the last one left them". F is "every list of feeds on all lines, refused ones included, whatever the other lines send".
use Rattle.std.specs.Prelude.{ℕ, ◌<◌, ◌≡◌, Bool, List, [], ◌∷◌, ◌++◌, map, length, get_or}
use Rattle.line.specs.declared.Reading.{Reading}
use Rattle.frame.specs.Line.{closed, piece_outcomes, written}
use Rattle.frame.specs.Frame.{Refusal, Numbered, refused}
use Rattle.frame.specs.Reader.{END, escape, taken, emptied, emptied_reading, judged}
use Rattle.frame.specs.Damage.{Damage}
use Rattle.feeds.specs.System.{System, error_reply}
use Rattle.feeds.specs.Marks.{replies, marked, unmarked, nonempty}
use Rattle.feeds.specs.Sent.{Sent, frame_of, enclosed, sent, sent_then}
use Rattle.feeds.specs.Service.{world_of, Feeds, entries_in, results_in, used_in, told_in, marks_in}

module _ {H : System} where
  -- Line l is one of the four.
  pub record Line (l : ℕ) (F : Feeds H) : Type 0 where
    -- "four serial lines (0 to 3)", one record each
    pub four : length F.start.records ≡ 4
    pub line : l < 4

  -- Its record at the start.
  abbrev pub record_at : ℕ → Feeds H → Reading
  record_at l F = get_or F.start.records l emptied_reading

  -- The first half's case: one frame on line l is damaged.
  pub record OneDamaged (l : ℕ) (F : Feeds H) : Type 0 where
    pub line : Line l F
    -- "one line being between packets": "its record is taken as an emptied one"
    pub between : taken (record_at l F) ≡ emptied
    -- "well-formed frames, each with an END before and after", where "neighbours may share an END"; none is needed before the first, and more do no harm
    pub before : List Sent
    pub one : Sent
    pub after : List Sent
    -- "save that between the ENDs of one frame one byte is replaced by a different one, inserted or lost, no END being involved"
    pub damaged : List ℕ
    pub damage : Damage (escape one.bytes) damaged
    -- "let the bytes used on that line be" these, and any number of ENDs behind the last
    pub ends : ℕ
    pub used : used_in l F ≡ sent before ++ (enclosed one.ends damaged ++ sent_then after ends)

  -- "That frame's feeds": "all those on its line, refused ones included, after the outcome before it on that line, or from the list's start, up to its own outcome".
  abbrev pub its_feeds : {l : ℕ} {F : Feeds H} → OneDamaged l F → List Bool
  its_feeds {l} {F} d = marks_in l (length d.before) F

  -- G is F "without them in the list": the same start, records "compared by the states that they are taken as", and the same entries but those marked.
  pub record Without (m : List Bool) (F G : Feeds H) : Type 0 where
    pub start : world_of G.start ≡ world_of F.start
    pub entries : entries_in G ≡ unmarked m (entries_in F)

  -- The first half's claim.
  pub record Harmless (l : ℕ) (F : Feeds H) (d : OneDamaged l F) : Type 0 where
    -- "That frame's feeds send exactly one error reply and nothing else."
    pub one_reply : nonempty (replies (marked (its_feeds d) (results_in F))) ≡ error_reply ∷ []
    -- "Without them in the list, every other feed gives the same answer and the same reply,"
    pub same_results : (G : Feeds H) → Without (its_feeds d) F G → results_in G ≡ unmarked (its_feeds d) (results_in F)
    -- "and the end state is the same": "hub, table and four records"
    pub same_end : (G : Feeds H) → Without (its_feeds d) F G → world_of G.end ≡ world_of F.end
    -- The outcomes told on the line are the frames before, one packet refusal, with a number from 1 to 6 or 15, and the frames after.
    pub refusal : Refusal
    pub numbered : Numbered refusal.number
    pub told : told_in l F ≡ map frame_of d.before ++ refused refusal ∷ map frame_of d.after

  -- The second half's case: "from any hub state and records",
  pub record AnyThenFrames (l : ℕ) (F : Feeds H) : Type 0 where
    pub line : Line l F
    -- "let the bytes used on a line be any bytes whatever,"
    pub bytes : List ℕ
    -- "then one or more undisturbed frames of that kind", the first with an END of its own before it; it holds of none as well
    pub frames : List Sent
    -- and any number of ENDs behind the last
    pub ends : ℕ
    pub used : used_in l F ≡ bytes ++ END ∷ sent_then frames ends

  -- The second half's claim: "Its outcomes are those of the bytes before, closed with an END, then these frames in order."
  -- "Outcomes of any bytes are those of this page's rules, begun in the state that the record holds": cut at every END, behind bytes that lead to that state.
  pub record Recovered (l : ℕ) (F : Feeds H) (a : AnyThenFrames l F) : Type 0 where
    pub told : told_in l F ≡ map judged (piece_outcomes (closed [] (written (taken (record_at l F)) ++ (a.bytes ++ END ∷ [])))) ++ map frame_of a.frames

-- Demand 3, whole: for every line and every list of feeds that was run.
pub record Demand3 (H : System) : Type 0 where
  pub first : (l : ℕ) (F : Feeds H) (d : OneDamaged l F) → Harmless l F d
  pub second : (l : ℕ) (F : Feeds H) (a : AnyThenFrames l F) → Recovered l F a
