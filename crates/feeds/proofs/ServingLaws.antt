-- Each outcome is served in order, on the hub and the table that the one before left, however the bytes came in feeds.
use Rattle.std.specs.Prelude.{ℕ, ◌<◌, ◌≡◌, length}
use Rattle.std.proofs.Math.Path.{refl, sym, ap}
use Rattle.std.proofs.Common.{◌∙◌, arith, eq-eqb}
use mathlib.Core.List.{List, [], ◌∷◌, map}
use Rattle.std.proofs.Math.Option.{Option, none, some}
use Rattle.std.proofs.Math.ListN.{set}
use Rattle.std.proofs.lemmas.List.{set-get_or}
use Rattle.std.proofs.Math.Seq.{set-set}
use Rattle.frame.specs.Frame.{Outcome}
use Rattle.frame.specs.Reader.{also, outcomes, final, State, emptied, step}
use Rattle.feeds.specs.System.{Entry, System, Answer, Result, World, serve_if, settled, returned, feed, results, end_state}
use Rattle.feeds.specs.Marks.{answers_of, outcome_of, used_on, told_on}
use Rattle.feeds.specs.Sent.{Sent, frame_of, sent}
use Rattle.feeds.specs.Serving.{with_line, told_all, reply_with, replies_told, ServedAll, AllOn, on_line, reply_first, serve_all, served_by}
use Rattle.feeds.proofs.SystemLaws.{Fed, barred, done, fed, fed_length_lem, own, own-set, told-outcomes, told-final}
use Rattle.feeds.proofs.SentLaws.{outcomes_frames}

-- One outcome of the line before others.
also_line : (l : ℕ) (o : Option Outcome) (os : List Outcome) → also (with_line l o) (on_line l os) ≡ on_line l (also o os)
unfolding with_line
also_line l none os = refl
also_line l (some o) os = refl

-- Where all feeds are on line l, what is told is told on l.
told_all_lem : (l : ℕ) (es : List Entry) (rs : List Answer) → AllOn l es → told_all es rs ≡ on_line l (told_on l es rs)
unfolding told_all told_on
told_all_lem l [] rs x = refl
told_all_lem l (e ∷ es) [] x = refl
told_all_lem l (e ∷ es) (a ∷ rs) x =
    ap (λ (m : ℕ). also (with_line m (outcome_of a)) (told_all es rs)) x.0
    ∙ ap (also (with_line l (outcome_of a))) (told_all_lem l es rs x.1)
    ∙ also_line l (outcome_of a) (told_on l es rs)
    ∙ rw (eq-eqb e.line l x.0)

module _ (H : System) where
  -- One feed before others.
  served_step : {w : World H} {e : Entry} {x : World H × Result} (es : List Entry) → Fed H w e x
      → served_by H x.0 es ≡ serve_all H x.0.hub x.0.table (told_all es (answers_of H x.0 es))
      → ◌≡◌ {A = ServedAll H}
      (record { hub = (end_state H x.0 es).hub; table = (end_state H x.0 es).table; replies = also (reply_with (outcome_of x.1.answer) x.1.reply) (replies_told (results H x.0 es)) })
      (serve_all H w.hub w.table (also (with_line e.line (outcome_of x.1.answer)) (told_all es (answers_of H x.0 es))))
  unfolding serve_all reply_first with_line reply_with outcome_of serve_if settled returned
  served_step es (barred n) ih = ih
  served_step es (done u s none q) ih = ih
  served_step {w} {e} es (done u s (some o) q) ih = ap (reply_first H (H.serve w.hub w.table e.line o).reply) ih

  -- Over any list of feeds on all lines, the outcomes told are served in order, each on what the one before left.
  pub served_in_order : (es : List Entry) (w : World H) → served_by H w es ≡ serve_all H w.hub w.table (told_all es (answers_of H w es))
  unfolding end_state results replies_told told_all serve_all
  served_in_order [] w = refl
  served_in_order (e ∷ es) w = served_step es (fed H w e) (served_in_order es (feed H w e).0)

  module _ (l : ℕ) where
    -- One feed on line l touches its state alone.
    states_step : {w : World H} {e : Entry} {x : World H × Result} → Fed H w e x → e.line ≡ l → l < length w.states → x.0.states ≡ set w.states l (own H l x.0)
    unfolding settled returned
    states_step {w} (barred n) p h = sym (set-get_or w.states l emptied)
    states_step {w} {e} (done u s o q) p h = ap (λ (m : ℕ). set w.states m s) p ∙ ap (set w.states l) (sym (own-set H l w e s p h))

    -- Feeds on line l touch its state alone.
    states_line : (es : List Entry) (w : World H) → AllOn l es → l < length w.states → (end_state H w es).states ≡ set w.states l (own H l (end_state H w es))
    unfolding end_state
    states_line [] w x h = sym (set-get_or w.states l emptied)
    states_line (e ∷ es) w x h =
        let v : World H = (feed H w e).0 in
        let f = fed H w e in
        states_line es v x.1 (omega (arith, fed_length_lem H f))
        ∙ ap (λ (ss : List State). set ss l (own H l (end_state H v es))) (states_step f x.0 h)
        ∙ set-set w.states l (own H l v) (own H l (end_state H v es))

    -- What feeds on line l alone come to, by the bytes used: outcomes, replies, hub, table and states.
    pub record LineServed (w : World H) (es : List Entry) (bytes : List ℕ) : Type 0 where
      pub told : told_on l es (answers_of H w es) ≡ outcomes step (own H l w) bytes
      pub left : served_by H w es ≡ serve_all H w.hub w.table (on_line l (outcomes step (own H l w) bytes))
      pub states : (end_state H w es).states ≡ set w.states l (final step (own H l w) bytes)

    -- It is settled by the bytes used on it.
    pub line_served : (es : List Entry) (w : World H) → AllOn l es → l < length w.states → LineServed w es (used_on l es (answers_of H w es))
    line_served es w x h =
        let t = told-outcomes H l es w h in
        record {
          told = t;
          left = served_in_order es w ∙ ap (serve_all H w.hub w.table) (told_all_lem l es (answers_of H w es) x ∙ ap (on_line l) t);
          states = states_line es w x h ∙ ap (set w.states l) (told-final H l es w h);
        }

    -- Frames fed to a line between packets are served in order, each on the hub and the table that the one before left.
    pub frames_served : (es : List Entry) (w : World H) → AllOn l es → l < length w.states → own H l w ≡ emptied
        → (frames : List Sent) → used_on l es (answers_of H w es) ≡ sent frames → served_by H w es ≡ serve_all H w.hub w.table (on_line l (map frame_of frames))
    frames_served es w x h i frames u =
        let o : outcomes step (own H l w) (used_on l es (answers_of H w es)) ≡ map frame_of frames = rw (u, i) (outcomes_frames frames) in
        (line_served es w x h).left ∙ ap (λ (os : List Outcome). serve_all H w.hub w.table (on_line l os)) o
