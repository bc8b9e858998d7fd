-- Every list of feeds can be run, whatever the hub: the promise of feed can be kept whatever is lent.
use Rattle.std.specs.Prelude.{ℕ, ◌≡◌, Bool, length, drop, replicate}
use Rattle.std.proofs.Math.Path.{refl, ap}
use Rattle.std.proofs.Common.{sym, ◌∙◌}
use mathlib.Core.List.{List, [], ◌∷◌, ◌++◌, map, append-nil, flatten}
use Rattle.std.proofs.Math.Option.{Option, none, some, none-ne-some}
use Rattle.std.proofs.lemmas.List.{length-replicate}
use Rattle.line.specs.declared.Reading.{Reading}
use Rattle.frame.specs.Frame.{Outcome}
use Rattle.frame.specs.Line.{taken_reachable, record_of, taken_record}
use Rattle.frame.proofs.ReaderLaws.{read_reachable}
use Rattle.frame.specs.Reader.{State, emptied, emptied_reading, taken, read}
use Rattle.feeds.specs.System.{Entry, System, World, Called, settled, call}
use Rattle.feeds.specs.Service.{Lent, Got, Memory, entry_of, world_of, Promise, record_for, left_by, Run, stop, next, Feeds, entries_in, used_in}
use Rattle.feeds.specs.Marks.{answers_of, used_on, unmarked}
use Rattle.feeds.specs.Serving.{Every, in_pieces}
use Rattle.feeds.proofs.ServiceLaws.{map-unmarked, run_answers}
use Rattle.feeds.proofs.Reach.{pieces_every, pieces_used}
use Rattle.feeds.specs.Demand3.{Without}
use Rattle.feeds.proofs.CallLaws.{call_refused, call-read, answer_refused}

-- What is lent for an entry.
unfoldable pub lent_of : Entry → Lent
lent_of e = record { line = e.line; bytes = e.bytes; room = replicate e.room 0; spare = emptied_reading }

-- Its entry is the same.
pub lent-entries : (es : List Entry) → Every (λ e. e.spare ≡ emptied) es → map entry_of (map lent_of es) ≡ es
unfolding lent_of entry_of
lent-entries [] x = refl
lent-entries (e ∷ es) x = rw (length-replicate {A = ℕ} e.room 0, ← x.0) (ap (λ z. e ∷ z) (lent-entries es x.1))

module _ {H : System} where
  -- What is got back if a call comes to c and leaves the record q.
  got_by : Called H → Reading → List ℕ → Got H
  got_by c q room = record { hub = c.hub; table = c.table; reading = q; answer = c.result.answer; room = c.result.reply ++ drop (length c.result.reply) room }

  -- The promise can be kept, whatever is lent.
  pub promise_any : (h : H.Hub) (t : H.Table) (r : Reading) (l : ℕ) (bytes room : List ℕ) → (o : Got H) × Promise H h t r l bytes room o
  unfolding got_by settled
  promise_any h t r l bytes room = go (H.refusal h t (taken r) l bytes (length room)) refl
    where
      c : Called H
      c = call H h t (taken r) l bytes (length room)

      go : (x : Option ℕ) → H.refusal h t (taken r) l bytes (length room) ≡ x → (o : Got H) × Promise H h t r l bytes room o
      go (some n) p =
          let e = call_refused H h t (taken r) l bytes (length room) n p in
          (got_by c r room, record { hub = refl; table = refl; state = ap (λ (y : Called H). y.state) (sym e); answer = refl; room = refl; kept = λ k q. refl })
      go none p =
          let e = call-read H h t (taken r) l bytes (length room) p in
          let s : State = (read (taken r) bytes).after in (
            got_by c (record_of s) room,
            record {
              hub = refl;
              table = refl;
              state = taken_record s (read_reachable (taken r) bytes (taken_reachable r)) ∙ ap (λ (y : Called H). y.state) (sym e);
              answer = refl;
              room = refl;
              kept = λ k q. absurd (none-ne-some k (sym p ∙ answer_refused H h t (taken r) l bytes (length room) k q));
            },
          )

  -- Every list of feeds can be run.
  pub run_any : (m : Memory H) (gs : List Lent) → (os : List (Got H)) × (e : Memory H) × Run H m gs os e
  run_any m [] = ([], m, stop)
  run_any m (g ∷ gs) =
      let (o, x) = promise_any m.hub m.table (record_for H m g) g.line g.bytes g.room in
      let (os, e, y) = run_any (left_by H m g o) gs in
      (o ∷ os, e, next x y)

  -- A list without the marked feeds can be run, to compare with.
  pub without_run : (m : List Bool) (F : Feeds H) → (G : Feeds H) × Without m F G
  without_run m F =
      let (os, e, r) = run_any F.start (unmarked m F.lent) in
      (record { start = F.start; lent = unmarked m F.lent; got = os; end = e; run = r }, record { start = refl; entries = map-unmarked entry_of m F.lent })

  -- Any bytes can be used up on a line that is not refused while P holds of hub and table, where serving keeps P.
  pub used-any : (l room : ℕ) (P : H.Hub → H.Table → Type 0)
      → ((h : H.Hub) (t : H.Table) (o : Outcome) → P h t → P (H.serve h t l o).hub (H.serve h t l o).table)
      → ((h : H.Hub) (t : H.Table) (s : State) (bs : List ℕ) → P h t → H.refusal h t s l bs room ≡ none)
      → (m : Memory H) → P m.hub m.table → (bytes : List ℕ) → (F : Feeds H) × (F.start ≡ m) × (used_in l F ≡ bytes)
  unfolding world_of flatten
  used-any l room P keeps free m k bytes =
      let w : World H = world_of m in
      let es : List Entry = in_pieces H l room emptied w (bytes ∷ []) in
      let (os, e, r) = run_any m (map lent_of es) in
      let F : Feeds H = record { start = m; lent = map lent_of es; got = os; end = e; run = r } in
      let same : entries_in F ≡ es = lent-entries es (pieces_every H l room emptied (λ x. x.spare ≡ emptied) (λ bs. refl) (bytes ∷ []) w) in
      let used = pieces_used H l room emptied P keeps free (bytes ∷ []) w k ∙ append-nil bytes in
      (F, refl, ap (used_on l (entries_in F)) (run_answers F) ∙ ap (λ (x : List Entry). used_on l x (answers_of H w x)) same ∙ used)
