-- Over any hub and any rule of refusal: the feeds of an outcome that the hub only answers leave no trace.
use Rattle.std.specs.Prelude.{ℕ, suc, ◌+◌, ◌<◌, ◌≡◌, Bool, cond, length, set, eqb}
use Rattle.std.proofs.Math.Path.{refl, sym, ap}
use Rattle.std.proofs.Common.{◌∙◌, subst}
use Rattle.std.proofs.Math.Bool.{true, false}
use mathlib.Core.List.{List, [], ◌∷◌, ◌++◌, nil≢cons, head-eq_of_cons-eq, tail-eq_of_cons-eq}
use Rattle.std.proofs.Math.Option.{Option, none, some}
use native.Mathlib.Omega.{arith}
use Rattle.std.proofs.Math.Seq.{get_or-set_other, set-set, set-get_or}
use Rattle.std.proofs.lemmas.List.{set_comm}
use borrow.Author.Tests.{eqb-true, eqb-false, eq-eqb, ne_eqb}
use Rattle.frame.specs.Frame.{Outcome}
use Rattle.frame.specs.Reader.{also, outcomes, State, emptied, step}
use Rattle.feeds.specs.System.{Entry, Served, System, Result, Called, World, serve_if, settled, call, state_for, returned, feed, results, end_state}
use Rattle.feeds.specs.Marks.{replies, answers_of, outcome_of, counted, outcome_on, used_on, marks_from, marks, marked, unmarked, nonempty, Isolated}
use Rattle.feeds.proofs.SystemLaws.{Fed, barred, done, fed, fed_length_lem, done_resets, own, own-set, fed_told, told-before}

-- Both cases alike.
same_cond : {A : Type 0} (t : Bool) (a : A) → cond t a a ≡ a
same_cond true a = refl
same_cond false a = refl

-- No list is empty and has an element.
empty : {A : Type 0} {P : Type 0} (f : List A) (a : A) (b : List A) → [] ≡ f ++ a ∷ b → P
empty [] a b e = absurd (nil≢cons e)
empty (x ∷ f) a b e = absurd (nil≢cons e)

-- The outcome stays behind.
counted_past : {k n : ℕ} → k < n → (o : Option Outcome) → k < counted n o
unfolding counted
counted_past h none = h
counted_past h (some o) = omega arith

module _ (H : System) (l k : ℕ) where
  -- The same world, with line l between packets.
  reset : World H → World H
  reset w = record { hub = w.hub; table = w.table; states = set w.states l emptied }

  -- It is the same where the line is between packets already.
  reset_own : (w : World H) → own H l w ≡ emptied → reset w ≡ w
  unfolding reset
  reset_own w p = ap (λ r. record { hub = w.hub; table = w.table; states = r }) (ap (set w.states l) (sym p) ∙ set-get_or w.states l emptied)

  -- What stood there does not matter.
  reset_set : (w : World H) (e : Entry) (s : State) → e.line ≡ l
      → reset (record { hub = w.hub; table = w.table; states = set w.states e.line s }) ≡ reset w
  unfolding reset
  reset_set w e s p = rw (p, set-set w.states l s emptied)

  -- A feed on another line is lent the same state,
  state_reset : (w : World H) (e : Entry) → (e.line ≡ l → ⊥) → state_for H (reset w) e ≡ state_for H w e
  unfolding state_for reset
  state_reset w e ne = get_or-set_other w.states l e.line emptied e.spare ne

  -- leaves the same,
  returned_reset : (w : World H) (m : ℕ) (c : Called H) → (m ≡ l → ⊥) → returned H (reset w) m c ≡ (reset (returned H w m c).0, (returned H w m c).1)
  unfolding returned reset
  returned_reset w m c ne = rw (set_comm w.states l m emptied c.state (λ z. ne (sym z)))

  -- and so gives the same.
  feed_reset : (w : World H) (e : Entry) → (e.line ≡ l → ⊥) → feed H (reset w) e ≡ (reset (feed H w e).0, (feed H w e).1)
  unfolding feed reset
  feed_reset w e ne =
      ap (λ s. returned H (reset w) e.line (call H (reset w).hub (reset w).table s e.line e.bytes e.room)) (state_reset w e ne)
      ∙ returned_reset w e.line (call H w.hub w.table (state_for H w e) e.line e.bytes e.room) ne

  -- The marks of a list of feeds before which n outcomes were told on the line.
  abbrev flags : ℕ → World H → List Entry → List Bool
  flags n w es = marks_from l k n es (answers_of H w es)

  -- After the outcome no feed is left out,
  past_unmarked : {A : Type 0} (es : List Entry) (n : ℕ) → k < n → (w : World H) (r : List A) → unmarked (flags n w es) r ≡ r
  unfolding marks_from results unmarked
  past_unmarked [] n h w r = refl
  past_unmarked (e ∷ es) n h w [] = refl
  past_unmarked (e ∷ es) n h w (a ∷ r) =
      rw (ne_eqb n k (omega arith), same_cond (eqb e.line l) false)
      (ap (λ x. a ∷ x) (past_unmarked es (counted n (outcome_on l e (feed H w e).1.answer)) (counted_past h (outcome_on l e (feed H w e).1.answer)) (feed H w e).0 r))

  -- and none is marked.
  past_marked : {A : Type 0} (es : List Entry) (n : ℕ) → k < n → (w : World H) (r : List A) → marked (flags n w es) r ≡ []
  unfolding marks_from results marked
  past_marked [] n h w r = refl
  past_marked (e ∷ es) n h w [] = refl
  past_marked (e ∷ es) n h w (a ∷ r) =
      rw (ne_eqb n k (omega arith), same_cond (eqb e.line l) false)
      (past_marked es (counted n (outcome_on l e (feed H w e).1.answer)) (counted_past h (outcome_on l e (feed H w e).1.answer)) (feed H w e).0 r)

  module _ (o : Outcome) (first : ℕ) (others : List ℕ)
      (only : (h : H.Hub) (t : H.Table) → H.serve h t l o ≡ record { hub = h; table = t; reply = first ∷ others }) where
    -- Two runs: one with all feeds, of results R and end E, and one from v without the marked ones.
    record Apart (R : List Result) (E v : World H) (es : List Entry) (m : List Bool) : Type 0 where
      one : nonempty (replies (marked m R)) ≡ (first ∷ others) ∷ []
      same : results H v (unmarked m es) ≡ unmarked m R
      finish : end_state H v (unmarked m es) ≡ E

    module _ {R : List Result} {E : World H} {es : List Entry} {m : List Bool} (e : Entry) (r : Result) where
      -- A feed that is not marked, before such runs.
      keep : (v : World H) {x : World H} → feed H v e ≡ (x, r) → Apart R E x es m → Apart (r ∷ R) E v (e ∷ es) (false ∷ m)
      unfolding marked unmarked results end_state
      keep v p a = record {
        one = a.one;
        same = rw p (ap (λ x. r ∷ x) a.same);
        finish = ap (λ (z : World H × Result). end_state H z.0 (unmarked m es)) p ∙ a.finish;
      }

      -- A marked feed that sends nothing, before such runs.
      leave : (v : World H) → r.reply ≡ [] → Apart R E v es m → Apart (r ∷ R) E v (e ∷ es) (true ∷ m)
      unfolding marked unmarked nonempty
      leave v p a = record { one = rw p a.one; same = a.same; finish = a.finish }

    -- The feed that tells the outcome, after which nothing is marked.
    last : (es : List Entry) (e : Entry) (r : Result) (n : ℕ) → k < n → (v w : World H) → r.reply ≡ first ∷ others → v ≡ w
        → Apart (r ∷ results H w es) (end_state H w es) v (e ∷ es) (true ∷ flags n w es)
    unfolding marked unmarked nonempty
    last es e r n h v w p q = record {
      one = rw p (ap (λ z. (first ∷ others) ∷ nonempty (replies z)) (past_marked es n h w (results H w es)));
      same = ap (results H v) (past_unmarked es n h w es) ∙ ap (λ z. results H z es) q ∙ sym (past_unmarked es n h w (results H w es));
      finish = ap (end_state H v) (past_unmarked es n h w es) ∙ ap (λ z. end_state H z es) q;
    }

    -- The run from w with all feeds, before which n outcomes were told, and the run from v without the marked ones.
    abbrev Runs : World H → World H → ℕ → List Entry → Type 0
    Runs w v n es = Apart (results H w es) (end_state H w es) v es (flags n w es)

    -- After the outcome the two runs are in one state.
    spoken_reset : (w : World H) (e : Entry) (s : State) (y : Outcome) → e.line ≡ l → s ≡ emptied
        → H.serve w.hub w.table e.line y ≡ record { hub = w.hub; table = w.table; reply = first ∷ others }
        → reset w ≡ record { hub = (H.serve w.hub w.table e.line y).hub; table = (H.serve w.hub w.table e.line y).table; states = set w.states e.line s }
    unfolding reset
    spoken_reset w e s y p i q = rw (q, p, i)

    -- One feed, where the outcome's feeds have begun: the other run has the line between packets.
    inside-step : {w : World H} {e : Entry} {x : World H × Result} (es : List Entry) (back : List Outcome)
        → Fed H w e x → feed H w e ≡ x → l < length w.states → (t : Bool) → eqb e.line l ≡ t
        → also (cond t (outcome_of x.1.answer) none) (outcomes step (own H l x.0) (used_on l es (answers_of H x.0 es))) ≡ o ∷ back
        → ((w : World H) → l < length w.states → outcomes step (own H l w) (used_on l es (answers_of H w es)) ≡ o ∷ back → Runs w (reset w) k es)
        → Apart (x.1 ∷ results H x.0 es) (end_state H x.0 es) (reset w) (e ∷ es)
        (cond t true false ∷ flags (counted k (cond t (outcome_of x.1.answer) none)) x.0 es)
    unfolding outcome_of counted serve_if settled returned reset
    inside-step {w} {e} {x} es back (barred n) q h true p u ih = leave e x.1 (reset w) refl (ih w h u)
    inside-step {w} {e} {x} es back (done i s none f) q h true p u ih =
        leave e x.1 (reset w) refl
        (subst (λ (v : World H). Runs x.0 v k es) (reset_set w e s (eqb-true e.line l p)) (ih x.0 (omega (arith, fed_length_lem H (done i s none f))) u))
    inside-step {w} {e} {x} es back (done i s (some y) f) q h true p u ih =
        let z : y ≡ o = head-eq_of_cons-eq u in
        let served : H.serve w.hub w.table e.line y ≡ record { hub = w.hub; table = w.table; reply = first ∷ others } =
        rw (z, eqb-true e.line l p) (only w.hub w.table) in
        last es e x.1 (suc k) (omega arith) (reset w) x.0 (ap (λ (r : Served H.Hub H.Table). r.reply) served)
        (spoken_reset w e s y (eqb-true e.line l p) (done_resets H w e i s y f) served)
    inside-step {w} {e} {x} es back d q h false p u ih =
        keep e x.1 (reset w) (rw q at (feed_reset w e (eqb-false e.line l p))) (ih x.0 (omega (arith, fed_length_lem H d)) u)

    -- All feeds from there on.
    inside : (es : List Entry) (back : List Outcome) (w : World H) → l < length w.states
        → outcomes step (own H l w) (used_on l es (answers_of H w es)) ≡ o ∷ back → Runs w (reset w) k es
    unfolding results end_state marks_from used_on outcomes
    inside [] back w h u = empty [] o back u
    inside (e ∷ es) back w h u =
        rw (eq-eqb k k refl)
        (inside-step es back (fed H w e) refl h (eqb e.line l) refl
        (sym (told-before H l (fed_told H l (fed H w e) h (eqb e.line l) refl) (used_on l es (answers_of H (feed H w e).0 es))) ∙ u) (inside es back))

    -- Where the outcome's feeds come first, the line is between packets.
    abbrev Ready : List Outcome → World H → Type 0
    Ready [] w = own H l w ≡ emptied
    Ready (y ∷ front) w = Unit {0}

    -- A line between packets is ready.
    ready : (front : List Outcome) (w : World H) → own H l w ≡ emptied → Ready front w
    ready [] w p = p
    ready (y ∷ front) w p = tt

    -- One feed, while outcomes are still to come before this one.
    before-step : {w : World H} {e : Entry} {x : World H × Result} (es : List Entry) (n : ℕ) (y : Outcome) (front back : List Outcome) → n + suc (length front) ≡ k
        → Fed H w e x → feed H w e ≡ x → l < length w.states → (t : Bool) → eqb e.line l ≡ t
        → also (cond t (outcome_of x.1.answer) none) (outcomes step (own H l x.0) (used_on l es (answers_of H x.0 es))) ≡ y ∷ (front ++ o ∷ back)
        → ((n : ℕ) (front : List Outcome) (w : World H) → n + length front ≡ k → l < length w.states → Ready front w
        → outcomes step (own H l w) (used_on l es (answers_of H w es)) ≡ front ++ o ∷ back → Runs w w n es)
        → Apart (x.1 ∷ results H x.0 es) (end_state H x.0 es) w (e ∷ es)
        (cond t false false ∷ flags (counted n (cond t (outcome_of x.1.answer) none)) x.0 es)
    unfolding outcome_of counted serve_if settled returned
    before-step {w} {e} {x} es n y front back c (barred m) q h true p u ih = keep e x.1 w q (ih n (y ∷ front) w c h tt u)
    before-step {w} {e} {x} es n y front back c (done i s none f) q h true p u ih =
        keep e x.1 w q (ih n (y ∷ front) x.0 c (omega (arith, fed_length_lem H (done i s none f))) tt u)
    before-step {w} {e} {x} es n y front back c (done i s (some v) f) q h true p u ih =
        keep e x.1 w q (ih (suc n) front x.0 (omega arith) (omega (arith, fed_length_lem H (done i s (some v) f)))
        (ready front x.0 (own-set H l w e s (eqb-true e.line l p) h ∙ done_resets H w e i s v f)) (tail-eq_of_cons-eq u))
    before-step {w} {e} {x} es n y front back c d q h false p u ih = keep e x.1 w q (ih n (y ∷ front) x.0 c (omega (arith, fed_length_lem H d)) tt u)

    -- All feeds.
    start : (es : List Entry) (back : List Outcome) (n : ℕ) (front : List Outcome) (w : World H) → n + length front ≡ k → l < length w.states → Ready front w
        → outcomes step (own H l w) (used_on l es (answers_of H w es)) ≡ front ++ o ∷ back → Runs w w n es
    unfolding results end_state marks_from used_on outcomes
    start [] back n front w c h i u = empty front o back u
    start (e ∷ es) back n [] w c h i u =
        let same : n ≡ k = omega arith in
        rw same (subst (λ (v : World H). Runs w v k (e ∷ es)) (reset_own w i) (inside (e ∷ es) back w h u))
    start (e ∷ es) back n (y ∷ front) w c h i u =
        rw (ne_eqb n k (omega arith))
        (before-step es n y front back c (fed H w e) refl h (eqb e.line l) refl
        (sym (told-before H l (fed_told H l (fed H w e) h (eqb e.line l) refl) (used_on l es (answers_of H (feed H w e).0 es))) ∙ u) (start es back))

-- If outcome number k of line l is o, which the hub only answers, and the line is between packets at the start, the feeds of o are isolated.
pub isolated : (H : System) (l : ℕ) (o : Outcome) {first : ℕ} {others : List ℕ}
    → ((h : H.Hub) (t : H.Table) → H.serve h t l o ≡ record { hub = h; table = t; reply = first ∷ others })
    → (es : List Entry) (front back : List Outcome) (w : World H) → l < length w.states → own H l w ≡ emptied
    → outcomes step (own H l w) (used_on l es (answers_of H w es)) ≡ front ++ o ∷ back
    → Isolated H (first ∷ others) w es (marks l (length front) es (answers_of H w es))
isolated H l o {first} {others} only es front back w h i u =
    let a = start H l (length front) o first others only es back 0 front w (omega arith) h (ready H l (length front) o first others only front w i) u in
    record { one_reply = a.one; same_results = a.same; same_end = a.finish }
