-- Feeds as they are called: records are structs, compared by the states that they are taken as, and rooms are lent memory with content.
use Rattle.std.specs.Prelude.{ℕ, ◌≡◌, Bool, List, [], ◌∷◌, ◌++◌, map, length, take, drop, get_or, set}
use Rattle.line.specs.declared.Reading.{Reading}
use Rattle.frame.specs.Frame.{Outcome}
use Rattle.frame.specs.Reader.{taken}
use Rattle.feeds.specs.System.{Entry, System, Answer, refused, told, Result, Called, World, call}
use Rattle.feeds.specs.Marks.{used_on, told_on, marks}

-- What the serial service lends to a feed: line, bytes, room, and a record for a line that has none of its own.
pub record Lent : Type 0 where
  pub line : ℕ
  pub bytes : List ℕ
  pub room : List ℕ
  pub spare : Reading

-- What it gets back: hub, table and record, the answer and the room.
pub record Got (H : System) : Type 0 where
  pub hub : H.Hub
  pub table : H.Table
  pub reading : Reading
  pub answer : Answer
  pub room : List ℕ

-- What it keeps between feeds: hub, table and the lines' records.
pub record Memory (H : System) : Type 0 where
  pub hub : H.Hub
  pub table : H.Table
  pub records : List Reading

-- The entry that a feed is, by the room's length and the state that the spare record is taken as.
unfoldable pub entry_of : Lent → Entry
entry_of g = record { line = g.line; bytes = g.bytes; room = length g.room; spare = taken g.spare }

-- Hub, table and records as they are compared: each record by the state that it is taken as.
unfoldable pub world_of : {H : System} → Memory H → World H
world_of m = record { hub = m.hub; table = m.table; states = map taken m.records }

-- The length that an answer tells of the reply.
unfoldable pub length_of : Answer → ℕ
length_of (refused n) = 0
length_of (told u o k) = k

-- What a feed gives: its answer, and the reply, which is the room's first bytes.
unfoldable pub result_of : {H : System} → Got H → Result
result_of g = record { answer = g.answer; reply = take (length_of g.answer) g.room }

module _ (H : System) where
  -- The definition's call for a feed that is lent the record r and this room.
  abbrev pub called : H.Hub → H.Table → Reading → ℕ → List ℕ → List ℕ → Called H
  called h t r l bytes room = call H h t (taken r) l bytes (length room)

  -- The promise of feed, by what it is lent and what is got back: hub, table, record as taken, answer and reply are the call's, bytes behind
  -- the reply stay, and a refused call leaves the record as it lies. Left to the program otherwise: the array's places beyond the bytes held
  -- and, where a frame is told, those outside its data.
  pub record Promise (h : H.Hub) (t : H.Table) (r : Reading) (l : ℕ) (bytes space : List ℕ) (o : Got H) : Type 0 where
    pub hub : o.hub ≡ (called h t r l bytes space).hub
    pub table : o.table ≡ (called h t r l bytes space).table
    pub state : taken o.reading ≡ (called h t r l bytes space).state
    pub answer : o.answer ≡ (called h t r l bytes space).result.answer
    pub room : o.room ≡ (called h t r l bytes space).result.reply ++ drop (length (called h t r l bytes space).result.reply) space
    pub kept : (n : ℕ) → o.answer ≡ refused n → o.reading ≡ r

  -- The record lent: the line's own, if it has one.
  abbrev pub record_for : Memory H → Lent → Reading
  record_for m g = get_or m.records g.line g.spare

  -- What a feed leaves: its record is the line's own again.
  abbrev pub left_by : Memory H → Lent → Got H → Memory H
  left_by m g o = record { hub = o.hub; table = o.table; records = set m.records g.line o.reading }

  -- Feeds one after another, each by its promise: each gets the hub, the one table and its line's own record as the last one left them.
  pub data Run : Memory H → List Lent → List (Got H) → Memory H → Type 0 where
    stop : {m : Memory H} → Run m [] [] m
    next : {m e : Memory H} {g : Lent} {gs : List Lent} {o : Got H} {os : List (Got H)}
        → Promise m.hub m.table (record_for m g) g.line g.bytes g.room o → Run (left_by m g o) gs os e → Run m (g ∷ gs) (o ∷ os) e

-- A list of feeds that was run: where it started, what was lent and got back, and where it ended.
pub record Feeds (H : System) : Type 0 where
  pub start : Memory H
  pub lent : List Lent
  pub got : List (Got H)
  pub end : Memory H
  pub run : Run H start lent got end

module _ {H : System} where
  -- The entries of the list.
  abbrev pub entries_in : Feeds H → List Entry
  entries_in F = map entry_of F.lent

  -- What its feeds gave: answers and replies.
  abbrev pub results_in : Feeds H → List Result
  results_in F = map result_of F.got

  -- The answers alone.
  abbrev pub answers_in : Feeds H → List Answer
  answers_in F = map (λ (g : Got H). g.answer) F.got

  -- The bytes used on line l.
  abbrev pub used_in : ℕ → Feeds H → List ℕ
  used_in l F = used_on l (entries_in F) (answers_in F)

  -- The outcomes told on line l.
  abbrev pub told_in : ℕ → Feeds H → List Outcome
  told_in l F = told_on l (entries_in F) (answers_in F)

  -- The feeds of outcome number k of line l.
  abbrev pub marks_in : ℕ → ℕ → Feeds H → List Bool
  marks_in l k F = marks l k (entries_in F) (answers_in F)
