-- A script replayed (docs/REPLAY.md): what each line answers, and what it leaves. The calls are the rules', the lines of text those of `report`.
use Rattle.std.specs.Prelude.{ℕ, ◌+◌, min, List, [], ◌∷◌, ◌++◌, false, cond, length, take, drop, get_or, set, replicate, eqb}
use Rattle.std.proofs.Math.Option.{Option, none, some}
use Rattle.frame.specs.Frame as packet
use Rattle.frame.specs.Frame.{Outcome}
use Rattle.frame.specs.Reader.{emptied}
use Rattle.feeds.specs.System as system
use Rattle.rules.specs.Hub as rules
use Rattle.script.specs.Script as script
use Rattle.report.specs.Report.{bad_line, long_line, done_line, refused_line, finished_line, none_line, frame_line, packet_line}
use Rattle.transcript.specs.State.{state_lines, table_lines}

-- what lasts from line to line: the hub, the table buffer, and the lines' reading states
abbrev pub World : Type 0
World = system.World rules.hub

-- before the first line: the hub before any start, a buffer of zeros, emptied readings
abbrev pub first_world : World
first_world = record { hub = rules.first_hub; table = replicate script.table_most 0; states = replicate rules.line_count emptied }

-- the lines that a line of the script is answered with, and the world after it
pub record Played : Type 0 where
  pub lines : List (List ℕ)
  pub world : World

-- ---- answers; no byte behind a reply or of a refused call's room changes, so none ends in ` spilled`

-- a call without room
unfoldable pub call_told : Option ℕ → List ℕ
call_told none = done_line
call_told (some n) = refused_line n false

-- a session finished, by its answer and the reply
unfoldable pub finish_told : rules.Finish → List ℕ → List ℕ
finish_told (rules.refused_finish n) reply = refused_line n false
finish_told (rules.finished_on l k) reply = finished_line l reply false

-- what a feed's bytes came to
unfoldable pub outcome_told : ℕ → Option Outcome → List ℕ → List ℕ
outcome_told u none reply = none_line u reply false
outcome_told u (some (packet.frame c d)) reply = frame_line u c (length d) reply false
outcome_told u (some (packet.refused n)) reply = packet_line u n.number n.at reply false

-- a feed
unfoldable pub feed_told : system.Answer → List ℕ → List ℕ
feed_told (system.refused n) reply = refused_line n false
feed_told (system.told u o k) reply = outcome_told u o reply

-- ---- calls, each on the table that is lent

unfoldable pub start : World → List ℕ → Played
start w p =
    let r = rules.start w.hub w.table p in
    record { lines = call_told r.refusal ∷ []; world = record { hub = r.hub; table = r.table; states = w.states } }

unfoldable pub enrol : World → ℕ → ℕ → Played
enrol w n type =
    let r = rules.enrol w.table n type in
    record { lines = call_told r.refusal ∷ []; world = record { hub = w.hub; table = r.table; states = w.states } }

-- a line above 3 has no record of its own: it is lent an emptied one, which is thrown away
unfoldable pub feed : World → ℕ → List ℕ → ℕ → Played
feed w l bs room =
    let r = system.feed rules.hub w (record { line = l; bytes = bs; room = room; spare = emptied }) in
    record { lines = feed_told r.1.answer r.1.reply ∷ []; world = r.0 }

unfoldable pub close : World → ℕ → Played
close w l =
    let r = rules.close w.hub (get_or w.states l emptied) l in
    record { lines = call_told r.refusal ∷ []; world = record { hub = r.hub; table = w.table; states = set w.states l r.state } }

unfoldable pub finish : World → ℕ → ℕ → Played
finish w x room =
    let r = rules.finish w.hub x room in
    record { lines = finish_told r.answer r.reply ∷ []; world = record { hub = r.hub; table = w.table; states = w.states } }

-- nothing changes where the state or the nodes in use are written
unfoldable pub show : World → Played
show w = record { lines = state_lines w.hub w.table w.states; world = w }

unfoldable pub list : World → Played
list w = record { lines = table_lines w.table; world = w }

-- ---- lines of the script

-- nor where no call is made: a remark has no answer, and another line is told by its number n
abbrev pub silent : World → Played
silent w = record { lines = []; world = w }

unfoldable pub bad : World → ℕ → ℕ → Played
bad w n word = record { lines = bad_line n word ∷ []; world = w }

unfoldable pub long : World → ℕ → Played
long w n = record { lines = long_line n ∷ []; world = w }

-- the first n bytes of the table buffer, or all of a shorter one, are lent to a call, and the others stay
abbrev pub lending : ℕ → World → World
lending n w = record { hub = w.hub; table = take n w.table; states = w.states }

abbrev pub returned : ℕ → World → Played → Played
returned n w x = record { lines = x.lines; world = record { hub = x.world.hub; table = x.world.table ++ drop n w.table; states = x.world.states } }

-- the call of line n is made, if it is one
unfoldable pub play : World → ℕ → script.Line → Played
play w n script.remark = silent w
play w n (script.wrong word) = bad w n word
play w n script.long = long w n
play w n (script.call (script.start p k)) = returned k w (start (lending k w) p)
play w n (script.call (script.enrol x type k)) = returned k w (enrol (lending k w) x type)
play w n (script.call (script.feed l room bs k)) = returned k w (feed (lending k w) l bs room)
play w n (script.call (script.close l)) = close w l
play w n (script.call (script.finish x room)) = finish w x room
play w n (script.call script.show) = show w
play w n (script.call script.table) = list w

abbrev pub play_line : World → ℕ → List ℕ → Played
play_line w n line = play w n (script.parse line)

-- the numbers of lines go up from 1 to what 64 bits hold, and stay there
abbrev pub last_number : ℕ
last_number = 18446744073709551615

abbrev pub next_number : ℕ → ℕ
next_number n = min (n + 1) last_number

-- ---- the whole input

abbrev pub line_feed : ℕ
line_feed = 10

-- it is cut at each LF; what follows the last one is a line only if it is not empty
unfoldable pub lines_of : List ℕ → List (List ℕ)
lines_of [] = []
lines_of (b ∷ bs) = cond (eqb b line_feed) ([] ∷ lines_of bs) (script.before b (lines_of bs))

-- lines of text one behind the other
unfoldable pub joined : List (List ℕ) → List ℕ
joined [] = []
joined (x ∷ xs) = x ++ joined xs

-- the answers of lines of which the first has number n, one after another
unfoldable pub answers_from : ℕ → World → List (List ℕ) → List ℕ
answers_from n w [] = []
answers_from n w (l ∷ ls) = joined (play_line w n l).lines ++ answers_from (next_number n) (play_line w n l).world ls

-- what the program is to write for an input; each line of it is what `play` promises
unfoldable pub transcript : List ℕ → List ℕ
transcript input = answers_from 1 first_world (lines_of input)
