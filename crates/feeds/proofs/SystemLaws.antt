-- Laws of feeds over any hub: a feed in two cases, and what is told on a line are the outcomes of the bytes used on it.
use Prim.Native.Nat.{ℕ, ◌<◌}
use Rattle.std.specs.Prelude.{◌≡◌, Bool, cond, length, take, set, eqb}
use Rattle.std.proofs.Math.Path.{refl, sym, ap}
use Rattle.std.proofs.Common.{◌∙◌, arith, get_or-set_same}
use Rattle.std.proofs.Math.Bool.{true, false}
use mathlib.Core.List.{List, [], ◌∷◌, ◌++◌}
use Rattle.std.proofs.Math.Option.{Option, none, some}
use Rattle.std.proofs.Math.ListN.{get_or, length-set}
use Rattle.std.proofs.Math.Seq.{drop-cons, get_or-set_other, set-get_or}
use borrow.Author.Tests.{eqb-true, eqb-false}
use Rattle.frame.specs.Frame.{Outcome}
use Rattle.frame.specs.Reader.{also, Scan, outcomes, final, State, emptied, step, read}
use Rattle.frame.proofs.ReaderLaws.{also_append, outcomes_append, final_append, Tells, scan-tells}
use Rattle.feeds.specs.System.{Entry, System, refused, Result, World, serve_if, settled, decided, call, state_for, returned, feed, results, end_state}
use Rattle.feeds.proofs.CallLaws.{read_resets}
use Rattle.feeds.specs.Marks.{answers_of, count_of, outcome_of, outcome_on, used_on, told_on}

module _ (H : System) where
  -- What a feed comes to: refused, or u bytes read to the state s with an outcome or none.
  pub data Fed (w : World H) (e : Entry) : World H × Result → Type 0 where
    barred : (n : ℕ) → Fed w e (w, record { answer = refused n; reply = [] })
    done : (u : ℕ) (s : State) (o : Option Outcome) → read (state_for H w e) e.bytes ≡ record { used = u; outcome = o; after = s }
        → Fed w e (returned H w e.line (settled H (record { used = u; outcome = o; after = s }) (serve_if H w.hub w.table e.line o)))

  -- A record given back as it was lent.
  state_returned : (w : World H) (e : Entry) → set w.states e.line (state_for H w e) ≡ w.states
  unfolding state_for
  state_returned w e = set-get_or w.states e.line e.spare

  -- Every feed comes to one of these.
  pub fed : (w : World H) (e : Entry) → Fed w e (feed H w e)
  unfolding feed returned call decided
  fed w e = go (H.refusal w.hub w.table (state_for H w e) e.line e.bytes e.room)
    where
      go : (r : Option ℕ) → Fed w e (returned H w e.line (decided H w.hub w.table e.line (state_for H w e) (read (state_for H w e) e.bytes) r))
      go (some n) = rw (state_returned w e) (barred n)
      go none = done (read (state_for H w e) e.bytes).used (read (state_for H w e) e.bytes).after (read (state_for H w e) e.bytes).outcome refl

  -- A feed keeps the number of lines.
  pub fed_length_lem : {w : World H} {e : Entry} {x : World H × Result} → Fed w e x → length x.0.states ≡ length w.states
  unfolding settled returned
  fed_length_lem (barred n) = refl
  fed_length_lem {w} {e} (done u s o q) = length-set w.states e.line s

  -- An outcome leaves the record emptied.
  pub done_resets : (w : World H) (e : Entry) (u : ℕ) (s : State) (o : Outcome) → read (state_for H w e) e.bytes ≡ record { used = u; outcome = some o; after = s } → s ≡ emptied
  done_resets w e u s o q =
      ap (λ (r : Scan State Outcome). r.after) (sym q) ∙ read_resets (state_for H w e) e.bytes o (ap (λ (r : Scan State Outcome). r.outcome) q)

  module _ (l : ℕ) where
    -- The state of line l.
    abbrev pub own : World H → State
    own w = get_or w.states l emptied

    -- A feed on line l is lent its state.
    state_own : (w : World H) (e : Entry) → e.line ≡ l → l < length w.states → state_for H w e ≡ own w
    unfolding state_for
    state_own w e p h = rw p (ap (λ (ss : List State). get_or ss 0 emptied) (sym (drop-cons w.states l e.spare h) ∙ drop-cons w.states l emptied h))

    -- A state put back on line l is its state.
    pub own-set : (w : World H) (e : Entry) (s : State) → e.line ≡ l → l < length w.states → get_or (set w.states e.line s) l emptied ≡ s
    own-set w e s p h = rw p (get_or-set_same w.states l s emptied h)

    -- A feed on another line leaves it.
    fed_other : {w : World H} {e : Entry} {x : World H × Result} → Fed w e x → (e.line ≡ l → ⊥) → own x.0 ≡ own w
    unfolding settled returned
    fed_other (barred n) ne = refl
    fed_other {w} {e} (done u s o q) ne = get_or-set_other w.states e.line l s emptied (λ z. ne (sym z))

    -- What one feed tells on line l, and leaves there, is what the bytes v that it used there give.
    pub record Told (w : World H) (v : List ℕ) (o : Option Outcome) (x : World H) : Type 0 where
      pub outcome : outcomes step (own w) v ≡ also o []
      pub after : final step (own w) v ≡ own x

    -- One feed tells and leaves what the bytes that it used on line l give.
    pub fed_told : {w : World H} {e : Entry} {x : World H × Result} → Fed w e x → l < length w.states → (t : Bool) → eqb e.line l ≡ t
        → Told w (cond t (take (count_of x.1.answer) e.bytes) []) (cond t (outcome_of x.1.answer) none) x.0
    unfolding outcomes final count_of outcome_of settled returned
    fed_told (barred n) h true p = record { outcome = refl; after = refl }
    fed_told {w} {e} (done u s o q) h true p =
        let i = eqb-true e.line l p in
        let x : Tells step (own w) e.bytes (record { used = u; outcome = o; after = s }) = rw (q, state_own w e i h) at (scan-tells step (state_for H w e) e.bytes) in
        record { outcome = x.outcome; after = x.after ∙ sym (own-set w e s i h) }
    fed_told {w} {e} x h false p = record { outcome = refl; after = sym (fed_other x (eqb-false e.line l p)) }

    -- One feed's outcome, then those of the bytes used after it.
    pub told-before : {w x : World H} {v : List ℕ} {o : Option Outcome} → Told w v o x → (rest : List ℕ) → outcomes step (own w) (v ++ rest) ≡ also o (outcomes step (own x) rest)
    told-before {w} {x} {v} {o} y rest =
        outcomes_append step (own w) v rest
        ∙ ap (λ (z : List Outcome). z ++ outcomes step (final step (own w) v) rest) y.outcome
        ∙ also_append o [] (outcomes step (final step (own w) v) rest)
        ∙ ap (λ (z : State). also o (outcomes step z rest)) y.after

    -- The outcomes told on a line are those of the bytes used on it.
    pub told-outcomes : (es : List Entry) (w : World H) → l < length w.states → told_on l es (answers_of H w es) ≡ outcomes step (own w) (used_on l es (answers_of H w es))
    unfolding told_on used_on results outcomes
    told-outcomes [] w h = refl
    told-outcomes (e ∷ es) w h =
        ap (also (outcome_on l e (feed H w e).1.answer)) (told-outcomes es (feed H w e).0 (omega (arith, fed_length_lem (fed w e))))
        ∙ sym (told-before (fed_told (fed w e) h (eqb e.line l) refl) (used_on l es (answers_of H (feed H w e).0 es)))

    -- The state of a line at the end is the one that the bytes used on it lead to.
    pub told-final : (es : List Entry) (w : World H) → l < length w.states → own (end_state H w es) ≡ final step (own w) (used_on l es (answers_of H w es))
    unfolding used_on results end_state final
    told-final [] w h = refl
    told-final (e ∷ es) w h =
        let x : World H = (feed H w e).0 in
        let t = fed_told (fed w e) h (eqb e.line l) refl in
        let rest : List ℕ = used_on l es (answers_of H x es) in
        told-final es x (omega (arith, fed_length_lem (fed w e)))
        ∙ ap (λ (z : State). final step z rest) (sym t.after)
        ∙ sym (final_append step (own w) (cond (eqb e.line l) (take (count_of (feed H w e).1.answer) e.bytes) []) rest)
