-- Feeds that keep their promise give what the definition gives: records as taken, replies out of the room.
use Rattle.std.specs.Prelude.{ℕ, zero, suc, ◌≡◌, Bool, true, false, take, drop, set}
use Rattle.std.proofs.Math.Path.{refl, sym, ap, ap₂}
use Rattle.std.proofs.Common.{◌∙◌}
use mathlib.Core.List.{List, [], ◌∷◌, ◌++◌, map}
use Rattle.std.proofs.Math.Option.{Option, none, some}
use Rattle.std.proofs.Math.ListN.{length, get_or-map}
use Rattle.std.proofs.Math.Seq.{take_at}
use Rattle.line.specs.declared.Reading.{Reading}
use Rattle.frame.specs.Reader.{State, read, taken}
use Rattle.feeds.specs.System.{System, Answer, refused, Result, Called, World, settled, decided, call, state_for, returned, feed, results, end_state}
use Rattle.feeds.specs.Marks.{answers, answers_of, unmarked}
use Rattle.feeds.proofs.CallLaws.{call_refused, answer_refused}
use Rattle.feeds.specs.Service.{Lent, Got, Memory, entry_of, world_of, length_of, result_of, called, Promise, record_for, left_by, Run, stop, next, Feeds, entries_in, results_in, answers_in}

-- A list's elements mapped, with one set.
pub map-set : {A B : Type 0} (f : A → B) (l : List A) (i : ℕ) (a : A) → map f (set l i a) ≡ set (map f l) i (f a)
map-set f [] i a = refl
map-set f (x ∷ l) zero a = refl
map-set f (x ∷ l) (suc i) a = ap (λ z. f x ∷ z) (map-set f l i a)

-- A list's elements mapped, without the marked ones.
pub map-unmarked : {A B : Type 0} (f : A → B) (ms : List Bool) (l : List A) → map f (unmarked ms l) ≡ unmarked ms (map f l)
unfolding unmarked
map-unmarked f [] l = refl
map-unmarked f (m ∷ ms) [] = refl
map-unmarked f (true ∷ ms) (a ∷ l) = map-unmarked f ms l
map-unmarked f (false ∷ ms) (a ∷ l) = ap (λ z. f a ∷ z) (map-unmarked f ms l)

-- The length told is the reply's.
pub call_length : (H : System) (h : H.Hub) (t : H.Table) (s : State) (l : ℕ) (bytes : List ℕ) (room : ℕ)
    → length_of (call H h t s l bytes room).result.answer ≡ length (call H h t s l bytes room).result.reply
unfolding length_of call decided settled
call_length H h t s l bytes room = go (H.refusal h t s l bytes room)
  where
    go : (r : Option ℕ) → length_of (decided H h t l s (read s bytes) r).result.answer ≡ length (decided H h t l s (read s bytes) r).result.reply
    go (some n) = refl
    go none = refl

module _ {H : System} where
  module _ {h : H.Hub} {t : H.Table} {r : Reading} {l : ℕ} {bytes space : List ℕ} {o : Got H} (x : Promise H h t r l bytes space o) where
    -- What a feed that keeps its promise gives is the call's result.
    promise_result : result_of o ≡ (called H h t r l bytes space).result
    unfolding result_of
    promise_result =
        let c = called H h t r l bytes space in
        let k : length c.result.reply ≡ length_of o.answer = sym (call_length H h t (taken r) l bytes (length space)) ∙ ap length_of (sym x.answer) in
        let p = ap (take (length_of o.answer)) x.room ∙ take_at c.result.reply (drop (length c.result.reply) space) (length_of o.answer) k in
        ap₂ (λ (a : Answer) (y : List ℕ). record { answer = a; reply = y }) x.answer p

    -- A refused feed leaves hub, table, record and room exactly as they were lent.
    pub refused_untouched : (n : ℕ) → o.answer ≡ refused n → (o.hub ≡ h) × (o.table ≡ t) × (o.reading ≡ r) × (o.room ≡ space)
    refused_untouched n p =
        let q = answer_refused H h t (taken r) l bytes (length space) n (sym x.answer ∙ p) in
        let c = call_refused H h t (taken r) l bytes (length space) n q in (
          x.hub ∙ ap (λ (y : Called H). y.hub) c,
          x.table ∙ ap (λ (y : Called H). y.table) c,
          x.kept n p,
          x.room ∙ ap (λ (y : Called H). y.result.reply ++ drop (length y.result.reply) space) c,
        )

  -- Equal parts make equal worlds and results.
  same_fed : {h h' : H.Hub} {t t' : H.Table} {ss ss' : List State} {o o' : Result} → h ≡ h' → t ≡ t' → ss ≡ ss' → o ≡ o'
      → ◌≡◌ {A = World H × Result} (record { hub = h; table = t; states = ss }, o) (record { hub = h'; table = t'; states = ss' }, o')
  same_fed a b c d = rw (a, b, c, d)

  -- A feed that keeps its promise does what the definition's feed does.
  pub promise_feed : (m : Memory H) (g : Lent) {o : Got H} → Promise H m.hub m.table (record_for H m g) g.line g.bytes g.room o
      → feed H (world_of m) (entry_of g) ≡ (world_of (left_by H m g o), result_of o)
  unfolding feed returned state_for world_of entry_of
  promise_feed m g {o} x =
      let s = ap (set (map taken m.records) g.line) (sym x.state) ∙ sym (map-set taken m.records g.line o.reading) in
      rw (get_or-map taken m.records g.line g.spare) (same_fed (sym x.hub) (sym x.table) s (sym (promise_result x)))

  -- So do feeds one after another, in answers and replies,
  results_run : {m e : Memory H} {gs : List Lent} {os : List (Got H)} → Run H m gs os e → map result_of os ≡ results H (world_of m) (map entry_of gs)
  unfolding results
  results_run stop = refl
  results_run (next {m} {g = g} {o = o} x rest) = rw (promise_feed m g x) (ap (λ z. result_of o ∷ z) (results_run rest))

  -- and in what they leave.
  end_run : {m e : Memory H} {gs : List Lent} {os : List (Got H)} → Run H m gs os e → world_of e ≡ end_state H (world_of m) (map entry_of gs)
  unfolding end_state
  end_run stop = refl
  end_run (next {m} {g = g} {gs = gs} x rest) = end_run rest ∙ ap (λ (z : World H × Result). end_state H z.0 (map entry_of gs)) (sym (promise_feed m g x))

  -- The answers got are those of the results.
  answers-got : (os : List (Got H)) → map (λ (g : Got H). g.answer) os ≡ answers (map result_of os)
  unfolding result_of
  answers-got [] = refl
  answers-got (o ∷ os) = ap (λ z. o.answer ∷ z) (answers-got os)

  -- Answers and replies are the definition's.
  pub run_results : (F : Feeds H) → results_in F ≡ results H (world_of F.start) (entries_in F)
  run_results F = results_run F.run

  -- The answers alone.
  pub run_answers : (F : Feeds H) → answers_in F ≡ answers_of H (world_of F.start) (entries_in F)
  run_answers F = answers-got F.got ∙ ap answers (run_results F)

  -- The end is the definition's, records as taken.
  pub run_end : (F : Feeds H) → world_of F.end ≡ end_state H (world_of F.start) (entries_in F)
  run_end F = end_run F.run
