-- Lists of feeds on all lines: where each line uses the same bytes and the lines' outcomes come in the same order, all comes to the same.
use Rattle.std.specs.Prelude.{ℕ, suc, ◌≤◌, ◌<◌, ◌≡◌, Bool, true, false, cond, length, get_or, eqb, ltb}
use Rattle.std.proofs.Math.Path.{refl}
use Rattle.std.proofs.Common.{sym, ap, ap₂, ◌∙◌, true≢false, arith, eq-eqb, ltb-true, ltb-false}
use mathlib.Core.List.{List, [], ◌∷◌}
use Rattle.std.proofs.Math.Option.{Option, none, some}
use Rattle.frame.specs.Frame.{Outcome}
use Rattle.frame.specs.Reader.{also, outcomes, State, emptied, final, step}
use Rattle.feeds.specs.System.{Entry, System, Answer, World, feed, results, end_state}
use Rattle.feeds.specs.Marks.{answers_of, outcome_of, used_on, told_on}
use Rattle.feeds.specs.Serving.{lines_of, with_line, told_all, replies_told, ServedAll, served_by, serve_all}
use Rattle.feeds.proofs.ServingLaws.{served_in_order}
use Rattle.feeds.proofs.SystemLaws.{fed, fed_length_lem, own, told-outcomes, told-final}

-- Of outcomes with their lines, those of line l.
unfoldable pub of_line : ℕ → List (ℕ × Outcome) → List Outcome
of_line l [] = []
of_line l (x ∷ xs) = cond (eqb x.0 l) (x.1 ∷ of_line l xs) (of_line l xs)

-- What is told on a line are its outcomes of those told on all.
told_of : (l : ℕ) (es : List Entry) (rs : List Answer) → of_line l (told_all es rs) ≡ told_on l es rs
unfolding of_line told_all told_on with_line
told_of l [] rs = refl
told_of l (e ∷ es) [] = refl
told_of l (e ∷ es) (a ∷ rs) = go (outcome_of a) (eqb e.line l) refl (told_of l es rs)
  where
    go : (o : Option Outcome) (t : Bool) → eqb e.line l ≡ t → of_line l (told_all es rs) ≡ told_on l es rs
        → of_line l (also (with_line e.line o) (told_all es rs)) ≡ also (cond t o none) (told_on l es rs)
    go none true p ih = ih
    go none false p ih = ih
    go (some o) true p ih = rw p (ap (λ z. o ∷ z) ih)
    go (some o) false p ih = rw p ih

-- One outcome less of the same line on both sides.
told_tail : (x y : ℕ × Outcome) (xs ys : List (ℕ × Outcome)) → x.0 ≡ y.0 → (l : ℕ) → of_line l (x ∷ xs) ≡ of_line l (y ∷ ys) → of_line l xs ≡ of_line l ys
unfolding of_line
told_tail x y xs ys line l = go (eqb x.0 l) (eqb y.0 l) (ap (λ (n : ℕ). eqb n l) line)
  where
    go : (t u : Bool) → t ≡ u → cond t (x.1 ∷ of_line l xs) (of_line l xs) ≡ cond u (y.1 ∷ of_line l ys) (of_line l ys) → of_line l xs ≡ of_line l ys
    go true true p r = cc
    go true false p r = absurd (true≢false p)
    go false true p r = absurd (true≢false (sym p))
    go false false p r = r

-- Outcomes with their lines are known by the lines' order and each line's own.
same-told : (xs ys : List (ℕ × Outcome)) → lines_of xs ≡ lines_of ys → ((l : ℕ) → of_line l xs ≡ of_line l ys) → xs ≡ ys
unfolding of_line
same-told [] [] p q = refl
same-told [] (y ∷ ys) p q = let z : ◌≡◌ {A = ℕ} 0 1 = cc in absurd (omega arith)
same-told (x ∷ xs) [] p q = let z : ◌≡◌ {A = ℕ} 0 1 = cc in absurd (omega arith)
same-told (x ∷ xs) (y ∷ ys) p q =
    let line : x.0 ≡ y.0 = cc in
    let lines : lines_of xs ≡ lines_of ys = cc in
    let here : x.1 ∷ of_line x.0 xs ≡ y.1 ∷ of_line x.0 ys = rw (eq-eqb x.0 x.0 refl, eq-eqb y.0 x.0 (sym line)) at (q x.0) in
    let outcome : x.1 ≡ y.1 = cc in
    let rest = same-told xs ys lines (λ l. told_tail x y xs ys line l (q l)) in
    rw (line, outcome, rest)

-- Lists of states are the same where each place has the same.
same_states : (ss vs : List State) → length ss ≡ length vs → ((l : ℕ) → l < length ss → get_or ss l emptied ≡ get_or vs l emptied) → ss ≡ vs
same_states [] [] p q = refl
same_states [] (v ∷ vs) p q = absurd (omega arith)
same_states (s ∷ ss) [] p q = absurd (omega arith)
same_states (s ∷ ss) (v ∷ vs) p q = ap₂ (λ (x : State) (xs : List State). x ∷ xs) (q 0 (omega arith)) (same_states ss vs (omega arith) (λ l h. q (suc l) (omega arith)))

module _ (H : System) where
  -- A list of feeds keeps the number of lines.
  end_length : (es : List Entry) (w : World H) → length (end_state H w es).states ≡ length w.states
  unfolding end_state
  end_length [] w = refl
  end_length (e ∷ es) w = end_length es (feed H w e).0 ∙ fed_length_lem H (fed H w e)

  -- What is the same of two lists of feeds on all lines: outcomes with their lines, replies in order, and the end.
  pub record SameAll (w : World H) (es fs : List Entry) : Type 0 where
    pub told : told_all es (answers_of H w es) ≡ told_all fs (answers_of H w fs)
    pub replies : replies_told (results H w es) ≡ replies_told (results H w fs)
    pub end : end_state H w es ≡ end_state H w fs

  -- The law; on a line without a record of its own nothing is told.
  pub order_same : (w : World H) (es fs : List Entry)
      → ((l : ℕ) → l < length w.states → used_on l es (answers_of H w es) ≡ used_on l fs (answers_of H w fs))
      → ((l : ℕ) → length w.states ≤ l → told_on l es (answers_of H w es) ≡ told_on l fs (answers_of H w fs))
      → lines_of (told_all es (answers_of H w es)) ≡ lines_of (told_all fs (answers_of H w fs))
      → SameAll w es fs
  order_same w es fs used above order =
      let A : List Answer = answers_of H w es in
      let B : List Answer = answers_of H w fs in
      let on : (l : ℕ) (t : Bool) → ltb l (length w.states) ≡ t → told_on l es A ≡ told_on l fs B = on_line_lem in
      let told : told_all es A ≡ told_all fs B = same-told (told_all es A) (told_all fs B) order (λ l. told_of l es A ∙ on l (ltb l (length w.states)) refl ∙ sym (told_of l fs B)) in
      let left : served_by H w es ≡ served_by H w fs = served_in_order H es w ∙ ap (serve_all H w.hub w.table) told ∙ sym (served_in_order H fs w) in
      let states : (end_state H w es).states ≡ (end_state H w fs).states =
      same_states (end_state H w es).states (end_state H w fs).states (end_length es w ∙ sym (end_length fs w))
      (λ l h. let i : l < length w.states = omega (arith, end_length es w) in
      told-final H l es w i ∙ ap (final step (own H l w)) (used l i) ∙ sym (told-final H l fs w i)) in
      record {
        told = told;
        replies = ap (λ (r : ServedAll H). r.replies) left;
        end = ap₂ (λ (r : ServedAll H) (ss : List State). record { hub = r.hub; table = r.table; states = ss }) left states;
      }
    where
      on_line_lem : (l : ℕ) (t : Bool) → ltb l (length w.states) ≡ t → told_on l es (answers_of H w es) ≡ told_on l fs (answers_of H w fs)
      on_line_lem l true p =
          let i : l < length w.states = ltb-true l (length w.states) p in
          told-outcomes H l es w i ∙ ap (outcomes step (own H l w)) (used l i) ∙ sym (told-outcomes H l fs w i)
      on_line_lem l false p = above l (ltb-false l (length w.states) p)
