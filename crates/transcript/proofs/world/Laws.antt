-- What the calls' promises and the written lines make of a line of a script.
use Prim.Native.Nat.{ℕ, zero, suc, min}
use mathlib.Core.Path.{◌≡◌, refl, ap}
use mathlib.Core.List.{List, [], ◌∷◌, ◌++◌, map}
use mathlib.Core.Bool.{false}
use native.Mathlib.Nat.{suc-min-suc, min-zero, zero-min}
use lib.ListN.{length, take, drop, get_or, set, replicate, get_or-map}
use Rattle.memory.specs.WroteLaws.{take_min}
use Rattle.line.specs.declared.Reading.{Reading}
use Rattle.frame.specs.Reader.{emptied_reading, taken}
use Rattle.feeds.specs.Service as service
use Rattle.feeds.proofs.ServiceLaws.{map-set, promise_feed}
use Rattle.rules.specs.declared.Hub.{Hub}
use Rattle.rules.specs.Promises.{Starts, Enrols, Finishes}
use Rattle.rules.specs.Promises.{Closes, Feeds}
use Rattle.rules.specs.Answers.{CallAnswer, FinishAnswer, FeedAnswer}
use Rattle.rules.proofs.PromiseLaws.{feeds_promise}
use Rattle.report.specs.Report.{has_other, bad_line, long_line}
use Rattle.text.specs.Appended.{appended, Leaves}
use Rattle.transcript.specs.Lines.{appended_all}
use Rattle.transcript.specs.LinesLaws.{all_one}
use Rattle.transcript.specs.State.{state_lines, table_lines}
use Rattle.transcript.specs.Replies.{filler, call_line, finish_line, feed_line}
use Rattle.transcript.specs.World.{World, Played, start, enrol, feed, close, finish, show, list, bad, long, lending, returned}
use Rattle.transcript.specs.WorldLaws.{other_none, call-told, finish-told, feed-told}
use Rattle.transcript.specs.declared.Run.{Run}
use Rattle.transcript.specs.Plays.{world_of, Plays}

-- ---- a line answered with one line

module _ {before after : List ℕ} {at end : ℕ} where
  -- it is appended, and the world is the definition's
  plays_one : (x : Played) (text : List ℕ) (h : Hub) (rs : List Reading) (t : List ℕ) → x ≡ record { lines = text ∷ []; world = record { hub = h; table = t; states = map taken rs } }
      → Leaves (appended before at text) after end → Plays x before at (record { hub = h; readings = rs; at = end }) t after
  plays_one x text h rs t e l = rw e (record { world = refl; text = all_one _ _ _ l })

  pub plays_start : (r : Run) (t p : List ℕ) (a : CallAnswer) (h : Hub) (t' : List ℕ) → Starts r.hub t p a h t'
      → Leaves (appended before at (call_line a)) after end → Plays (start (world_of r t) p) before at (record { hub = h; readings = r.readings; at = end }) t' after
  unfolding start
  plays_start r t p a h t' s l = plays_one _ _ _ _ _ (rw (← s, call-told a)) l

  pub plays_enrol : (r : Run) (t : List ℕ) (n type : ℕ) (a : CallAnswer) (t' : List ℕ) → Enrols t n type a t'
      → Leaves (appended before at (call_line a)) after end → Plays (enrol (world_of r t) n type) before at (record { hub = r.hub; readings = r.readings; at = end }) t' after
  unfolding enrol
  plays_enrol r t n type a t' s l = plays_one _ _ _ _ _ (rw (← s, call-told a)) l

  pub plays_close : (r : Run) (t : List ℕ) (l : ℕ) (a : CallAnswer) (h : Hub) (e : Reading)
      → Closes r.hub (get_or r.readings l emptied_reading) l a h e
      → Leaves (appended before at (call_line a)) after end → Plays (close (world_of r t) l) before at (record { hub = h; readings = set r.readings l e; at = end }) t after
  unfolding close
  plays_close r t l a h e s w =
      plays_one _ _ _ _ _ (rw (get_or-map taken r.readings l emptied_reading, ← s.refusal, ← s.hub, ← s.state, map-set taken r.readings l e, call-told a)) w

  -- the room is lent, `part`, all filler
  module _ (part : List ℕ) (p : has_other filler part ≡ false) where
    pub plays_finish : (r : Run) (t : List ℕ) (x : ℕ) (a : FinishAnswer) (h : Hub) (left : List ℕ) → Finishes r.hub x part a h left
        → Leaves (appended before at (finish_line a left)) after end
        → Plays (finish (world_of r t) x (length part)) before at (record { hub = h; readings = r.readings; at = end }) t after
    unfolding finish
    plays_finish r t x a h left s w = plays_one _ _ _ _ _ (rw (finish-told part p r.hub x a h left s, s.hub)) w

    pub plays_feed : (r : Run) (t : List ℕ) (l : ℕ) (bytes : List ℕ) (a : FeedAnswer) (h : Hub) (e : Reading) (t' left : List ℕ)
        → Feeds r.hub t (get_or r.readings l emptied_reading) l bytes part a h t' e left
        → Leaves (appended before at (feed_line a left)) after end
        → Plays (feed (world_of r t) l bytes (length part)) before at (record { hub = h; readings = set r.readings l e; at = end }) t' after
    unfolding feed service.world_of service.entry_of service.result_of
    plays_feed r t l bytes a h e t' left s w =
        let f = promise_feed (record { hub = r.hub; table = t; records = r.readings }) (record { line = l; bytes = bytes; room = part; spare = emptied_reading }) (feeds_promise s) in
        plays_one _ _ _ _ _ (rw (f, feed-told part p r.hub t (get_or r.readings l emptied_reading) l bytes a h e t' left s)) w

  pub plays_bad : (r : Run) (t : List ℕ) (n word : ℕ) → Leaves (appended before at (bad_line n word)) after end
      → Plays (bad (world_of r t) n word) before at (record { hub = r.hub; readings = r.readings; at = end }) t after
  unfolding bad
  plays_bad r t n word w = plays_one _ _ _ _ _ refl w

  pub plays_long : (r : Run) (t : List ℕ) (n : ℕ) → Leaves (appended before at (long_line n)) after end
      → Plays (long (world_of r t) n) before at (record { hub = r.hub; readings = r.readings; at = end }) t after
  unfolding long
  plays_long r t n w = plays_one _ _ _ _ _ refl w

  pub plays_list : (r : Run) (t : List ℕ) → Leaves (appended_all before at (table_lines t)) after end
      → Plays (list (world_of r t)) before at (record { hub = r.hub; readings = r.readings; at = end }) t after
  unfolding list
  plays_list r t w = record { world = refl; text = w }

  pub plays_show : (r : Run) (t : List ℕ) → Leaves (appended_all before at (state_lines r.hub t (map taken r.readings))) after end
      → Plays (show (world_of r t)) before at (record { hub = r.hub; readings = r.readings; at = end }) t after
  unfolding show
  plays_show r t w = record { world = refl; text = w }

-- ---- a table that is lent in part

-- of a list as much as there is
drop_min : (n : ℕ) (l : List ℕ) → drop (min (length l) n) l ≡ drop n l
drop_min zero l = rw min-zero
drop_min (suc n) [] = rw zero-min
drop_min (suc n) (b ∷ l) = rw (suc-min-suc (length l) n) (drop_min n l)

-- the call x is made on the first n bytes of the table, or on all of a shorter one
pub plays_lent : (r₀ : Run) (t : List ℕ) {before after : List ℕ} {at : ℕ} {r : Run} (n m : ℕ) (x : World → Played) (part : List ℕ) → m ≡ min (length t) n
    → Plays (x (world_of r₀ (take m t))) before at r part after → Plays (returned n (world_of r₀ t) (x (lending n (world_of r₀ t)))) before at r (part ++ drop m t) after
plays_lent r₀ t {before} {after} {at} {r} n m x part e p =
    let q : Plays (x (world_of r₀ (take n t))) before at r part after = rw (e, take_min n t) at p in
    rw (e, drop_min n t)
    (record { world = ap (λ (v : World). record { hub = v.hub; table = v.table ++ drop n t; states = v.states }) q.world; text = q.text })

-- ---- the room

-- as many bytes of filler as it has
abbrev pub filled : List ℕ → List ℕ
filled room = replicate (length room) filler

pub filled-filler : (room : List ℕ) → has_other filler (filled room) ≡ false
filled-filler room = other_none filler (length room)
