-- Any bytes can be used up on a line that may be fed, in any pieces: what demand 3 speaks of can come, whatever the bytes.
use Prim.Native.Nat.{ℕ, zero, suc, ◌≤◌, ◌<◌}
use Rattle.std.specs.Prelude.{◌≡◌, Bool, length, take, eqb}
use Rattle.std.proofs.Math.Path.{refl, sym, ap, ap₂}
use Rattle.std.proofs.Common.{◌∙◌, arith, take-append-drop}
use Rattle.std.proofs.Math.Bool.{true, false, cond}
use mathlib.Core.List.{List, [], ◌∷◌, ◌++◌, append_assoc, flatten}
use Rattle.std.proofs.Math.Option.{none, some}
use Rattle.std.proofs.Math.ListN.{drop, length-drop}
use borrow.Author.Tests.{eq-eqb, ne_eqb}
use Rattle.frame.specs.Frame.{Outcome}
use Rattle.frame.specs.Reader.{State}
use Rattle.feeds.specs.System.{Entry, System, Result, World, serve_if, settled, state_for, returned, feed, results, end_state}
use Rattle.feeds.specs.Marks.{answers_of, count_of, used_on}
use Rattle.feeds.specs.Serving.{Every, AllOn, entry_for, until_used, in_pieces}
use Rattle.feeds.proofs.CallLaws.{call-some}
use Rattle.feeds.proofs.SystemLaws.{Fed, barred, done, fed}

-- What holds of each of some entries and of each of others holds of all.
every_append : (P : Entry → Type 0) (a b : List Entry) → Every P a → Every P b → Every P (a ++ b)
every_append P [] b x y = y
every_append P (e ∷ a) b x y = (x.0, every_append P a b x.1 y)

module _ (H : System) where
  -- A feed with bytes to which no call refusal applies uses at least one.
  uses_some : (w : World H) (e : Entry) → H.refusal w.hub w.table (state_for H w e) e.line e.bytes e.room ≡ none → 0 < length e.bytes → 0 < count_of (feed H w e).1.answer
  unfolding feed returned
  uses_some w e = call-some H w.hub w.table (state_for H w e) e.line e.bytes e.room

  -- The bytes used by one list of feeds, then another.
  used_append : (l : ℕ) (a b : List Entry) (w : World H)
      → used_on l (a ++ b) (answers_of H w (a ++ b)) ≡ used_on l a (answers_of H w a) ++ used_on l b (answers_of H (end_state H w a) b)
  unfolding used_on results end_state
  used_append l [] b w = refl
  used_append l (e ∷ a) b w =
      let u : List ℕ = cond (eqb e.line l) (take (count_of (feed H w e).1.answer) e.bytes) [] in
      ap (λ z. u ++ z) (used_append l a b (feed H w e).0)
      ∙ sym (append_assoc u (used_on l a (answers_of H (feed H w e).0 a)) (used_on l b (answers_of H (end_state H (feed H w e).0 a) b)))

  module _ (l room : ℕ) (spare : State) (P : Entry → Type 0) (each : (bs : List ℕ) → P (entry_for H l room spare bs)) where
    -- What holds of each entry of line l with this room holds of all that feed some bytes,
    until_every : (n : ℕ) (w : World H) (bs : List ℕ) → Every P (until_used H l room spare n w bs)
    unfolding until_used
    until_every zero w bs = tt
    until_every (suc n) w bs =
        let e : Entry = entry_for H l room spare bs in
        let rest : List ℕ = drop (count_of (feed H w e).1.answer) bs in
        go (eqb (length bs) 0) (until_used H l room spare n (feed H w e).0 rest) (until_every n (feed H w e).0 rest)
      where
        go : (t : Bool) (es : List Entry) → Every P es → Every P (cond t [] (entry_for H l room spare bs ∷ es))
        go true es x = tt
        go false es x = (each bs, x)

    -- and of all that feed pieces.
    pub pieces_every : (ps : List (List ℕ)) (w : World H) → Every P (in_pieces H l room spare w ps)
    unfolding in_pieces
    pieces_every [] w = tt
    pieces_every (p ∷ ps) w =
        let a : List Entry = until_used H l room spare (length p) w p in
        every_append P a (in_pieces H l room spare (end_state H w a) ps) (until_every (length p) w p) (pieces_every ps (end_state H w a))

  -- Pieces fed to line l are fed on line l.
  pub pieces_on : (l room : ℕ) (spare : State) (ps : List (List ℕ)) (w : World H) → AllOn l (in_pieces H l room spare w ps)
  pieces_on l room spare = pieces_every l room spare (λ e. e.line ≡ l) (λ bs. refl)

  -- On line l a feed of this room is never refused while P holds of hub and table, and serving keeps P.
  module _ (l room : ℕ) (spare : State) (P : H.Hub → H.Table → Type 0)
      (keeps : (h : H.Hub) (t : H.Table) (o : Outcome) → P h t → P (H.serve h t l o).hub (H.serve h t l o).table)
      (free : (h : H.Hub) (t : H.Table) (s : State) (bs : List ℕ) → P h t → H.refusal h t s l bs room ≡ none) where
    -- A feed on line l keeps P.
    kept_step : {w : World H} {e : Entry} {x : World H × Result} → Fed H w e x → e.line ≡ l → P w.hub w.table → P x.0.hub x.0.table
    unfolding serve_if settled returned
    kept_step (barred n) p k = k
    kept_step (done u s none q) p k = k
    kept_step {w} {e} (done u s (some o) q) p k = rw p (keeps w.hub w.table o k)

    -- Any number of them do.
    kept_all : (es : List Entry) (w : World H) → AllOn l es → P w.hub w.table → P (end_state H w es).hub (end_state H w es).table
    unfolding end_state
    kept_all [] w x k = k
    kept_all (e ∷ es) w x k = kept_all es (feed H w e).0 x.1 (kept_step (fed H w e) x.0 k)

    -- Bytes fed until they are used up are used, all of them.
    until_used_lem : (n : ℕ) (w : World H) (bs : List ℕ) → length bs ≤ n → P w.hub w.table
        → used_on l (until_used H l room spare n w bs) (answers_of H w (until_used H l room spare n w bs)) ≡ bs
    unfolding until_used used_on results
    until_used_lem zero w [] h k = refl
    until_used_lem zero w (b ∷ bs) h k = absurd (omega arith)
    until_used_lem (suc n) w [] h k = refl
    until_used_lem (suc n) w (b ∷ bs) h k =
        let e : Entry = entry_for H l room spare (b ∷ bs) in
        let v : World H = (feed H w e).0 in
        let c : ℕ = count_of (feed H w e).1.answer in
        let some : 0 < c = uses_some w e (free w.hub w.table (state_for H w e) (b ∷ bs) k) (omega arith) in
        rw (
          ne_eqb (suc (length bs)) 0 (omega arith),
          eq-eqb l l refl,
          until_used_lem n v (drop c (b ∷ bs)) (omega (arith, length-drop c (b ∷ bs))) (kept_step (fed H w e) refl k),
        )
        (take-append-drop c (b ∷ bs))

    -- Any bytes can be used up on the line, in any pieces.
    pub pieces_used : (ps : List (List ℕ)) (w : World H) → P w.hub w.table
        → used_on l (in_pieces H l room spare w ps) (answers_of H w (in_pieces H l room spare w ps)) ≡ flatten ps
    unfolding in_pieces flatten used_on
    pieces_used [] w k = refl
    pieces_used (p ∷ ps) w k =
        let a : List Entry = until_used H l room spare (length p) w p in
        let v : World H = end_state H w a in
        used_append l a (in_pieces H l room spare v ps) w
        ∙ ap₂ (λ (x y : List ℕ). x ++ y) (until_used_lem (length p) w p (omega arith) k) (pieces_used ps v (kept_all a w (until_every l room spare (λ e. e.line ≡ l) (λ bs. refl) (length p) w p) k))
