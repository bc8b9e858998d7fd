-- Laws of the listing.
use Rattle.std.specs.Prelude.{ℕ, zero, suc, ◌+◌, ◌-◌, ◌≤◌, ◌<◌, ◌≡◌, refl, List, [], ◌∷◌, ◌++◌, Bool, true, false, cond, ◌⊎◌, length, take, drop, get_or, leb, eqb}
use Rattle.std.proofs.Common.{sym, ap, ◌∙◌, append_assoc, append-nil, ⊎_elim, zero-add, arith, length-drop, length-append, take-suc, take-add, length-take-le}
use Rattle.std.proofs.Math.Seq.{take-length}
use Rattle.memory.specs.Wrote.{Wrote}
use Rattle.memory.specs.WroteLaws.{none as Wrote_none, then, kept, front_to, rest}
use Rattle.line.specs.declared.Cursor.{Cursor}
use Rattle.frame.specs.Line.{limit, last, Clear, Takes, taken_clear, AnswerAt}
use Rattle.frame.specs.declared.FrameOutcome.{FrameOutcome as Given}
use Rattle.frame.specs.declared.FrameOutcome.TheVariants as given
use Rattle.frame.specs.Frame.{Outcome, number, head}
use Rattle.frame.specs.Reader.{END, State, Scan, taken_as, also, outcomes, final, step, read}
use Rattle.frame.proofs.ReaderLaws.{outcomes_append, final_append, Tells, scan-tells, used-some}
use Rattle.frame.specs.Answers.{told, Within, seen, answer_of, Answers}
use Rattle.lister.specs.Lines.{refused_line, left_line, LINE}
use Rattle.text.specs.Appended.{Memory, appended, Leaves}
use Rattle.text.specs.declared.page.Page.{Page}
use Rattle.text.specs.AppendedLaws.{leaves_wrote}
use Rattle.lister.specs.declared.Listed.{Listed}
use Rattle.lister.specs.Listing.{outcome_line, lines, left_after}
use Rattle.lister.specs.Lists.{given_line, OutcomeLine, listed_of, Lists, LastLine}

-- ---- lines

pub lines_append : (a b : List Outcome) → lines (a ++ b) ≡ lines a ++ lines b
unfolding lines
lines_append [] b = refl
lines_append (o ∷ a) b = ap (λ (l : List ℕ). outcome_line o ++ l) (lines_append a b) ∙ sym (append_assoc (outcome_line o) (lines a) (lines b))

-- the line of what a call tells is the line of its outcome
given-lines : (g : Given) (bs : List ℕ) → Within g → length bs ≡ limit → lines (also (told g bs) []) ≡ given_line g
unfolding lines
given-lines given.Nothing bs x e = refl
given-lines (given.Frame c n) bs x e =
    let l : length (take n (drop head bs)) ≡ n = length-take-le n (drop head bs) (simp length-drop (omega arith)) in
    rw (append-nil, l)
given-lines (given.Refused r) bs x e = append-nil (refused_line (number r.cause) r.at)

-- ---- one call more

-- of the bytes w, n were used; a call on the rest uses some more, and tells what they add
pub record MoreUsed (s : State) (w : List ℕ) (n : ℕ) (bs : List ℕ) (t : AnswerAt Given) : Type 0 where
  pub some : 0 < t.used
  pub within : n + t.used ≤ length w
  pub state : taken_as bs t.cursor.count t.cursor.mode ≡ final step s (take (n + t.used) w)
  pub held : t.cursor.count ≤ limit
  pub clear : Clear t.cursor.mode t.cursor.count
  pub full : length bs ≡ limit
  pub lines : lines (outcomes step s (take (n + t.used) w)) ≡ lines (outcomes step s (take n w)) ++ given_line t.outcome

pub more_used : (s r : State) (w : List ℕ) (n : ℕ) (bs : List ℕ) (t : AnswerAt Given) → n < length w → r ≡ final step s (take n w)
    → Answers (read r (take (length w - n) (drop n w))) (answer_of bs t) → MoreUsed s w n bs t
more_used s r w n bs t h e a =
    let v : List ℕ = drop n w in
    let d : take (length w - n) v ≡ v = rest w n in
    let x : Tells step r v (seen (answer_of bs t)) = rw a.told (rw d (scan-tells step r v)) in
    let l : length v ≡ length w - n = length-drop n w in
    let p = used-some step r v (omega arith) in
    let u : t.used ≡ (read r v).used = ap (λ (z : Scan State Outcome). z.used) (rw d at a.told) in
    let c : take (n + t.used) w ≡ take n w ++ take t.used v = take-add n t.used w in
    record {
      some = omega arith;
      within = omega (arith, x.within);
      state = sym x.after ∙ ap (λ (z : State). final step z (take t.used v)) e ∙ sym (final_append step s (take n w) (take t.used v)) ∙ ap (final step s) (sym c);
      held = a.count_within;
      clear = a.clear;
      full = a.full;
      lines =
          ap (λ (z : List ℕ). lines (outcomes step s z)) c
          ∙ ap lines (outcomes_append step s (take n w) (take t.used v))
          ∙ lines_append (outcomes step s (take n w)) (outcomes step (final step s (take n w)) (take t.used v))
          ∙ ap (λ (z : List ℕ). lines (outcomes step s (take n w)) ++ z)
          (ap (λ (z : State). lines (outcomes step z (take t.used v))) (sym e) ∙ ap lines x.outcome ∙ given-lines t.outcome bs a.data_within a.full);
    }

-- ---- bytes since the last END

pub left_append : (k : ℕ) (a b : List ℕ) → left_after k (a ++ b) ≡ left_after (left_after k a) b
unfolding left_after
left_append k [] b = refl
left_append k (x ∷ a) b = left_append (cond (eqb x END) 0 (suc k)) a b

-- it is the length of the open last piece
pub left-last : (p w : List ℕ) → left_after (length p) w ≡ length (last p w)
unfolding left_after last
left-last p [] = refl
left-last p (b ∷ w) = go (eqb b END) (left-last [] w) (left-last (p ++ b ∷ []) w)
  where
    go : (t : Bool) → left_after 0 w ≡ length (last [] w) → left_after (length (p ++ b ∷ [])) w ≡ length (last (p ++ b ∷ []) w)
        → left_after (cond t 0 (suc (length p))) w ≡ length (cond t (last [] w) (last (p ++ b ∷ []) w))
    go true x y = x
    go false x y = ap (λ (n : ℕ). left_after n w) (omega (arith, length-append p (b ∷ []))) ∙ y

-- one byte more
pub left_more : (k : ℕ) (w : List ℕ) (j : ℕ) → j < length w → left_after k (take (suc j) w) ≡ cond (eqb (get_or w j 0) END) 0 (suc (left_after k (take j w)))
unfolding left_after
left_more k w j h = ap (left_after k) (take-suc w j 0 h) ∙ left_append k (take j w) (get_or w j 0 ∷ [])

-- at the loop's start nothing is behind the last byte
pub whole-left : (k : ℕ) (w : List ℕ) → left_after k w ≡ left_after k (take (length w) w) + (length w - length w)
whole-left k w = rw (take-length w) (omega arith)

-- ---- no line

-- no line changes nothing
pub leaves_nothing : (l : List ℕ) (at : ℕ) → Leaves (appended l at []) l at
unfolding appended
leaves_nothing l at = go (leb (at + 0) (length l))
  where
    go : (t : Bool) → Leaves (cond {A = Memory} t (record { bytes = l; place = at + 0 }) (record { bytes = l; place = at })) l at
    go true = record { bytes = refl; place = omega arith }
    go false = record { bytes = refl; place = refl }

-- the last line stands at the front, where there is room for it
pub last_line_front : {k n : ℕ} {before after : List ℕ} → length (left_line k) ≤ length before → LastLine k before after n → after ≡ left_line k ++ drop n before
last_line_front h x = front_to (leaves_wrote (omega arith) x.line) x.within

-- ---- on the way through the bytes

-- n bytes of w were used and k bytes of text were written
pub record Going (s : State) (w before after bs : List ℕ) (p : Cursor) (n k : ℕ) : Type 0 where
  pub within : n ≤ length w
  pub full : length bs ≡ limit
  pub state : taken_as bs p.count p.mode ≡ final step s (take n w)
  pub held : p.count ≤ limit
  pub clear : Clear p.mode p.count
  pub wrote : Wrote before 0 (lines (outcomes step s (take n w))) after k
  pub fits : k ≤ length before

-- the place q that a lent record is taken at has the state that the record is taken as
pub takes_state : (p q : Cursor) (bs : List ℕ) → Takes p q → taken_as bs q.count q.mode ≡ taken_as bs p.count p.mode
takes_state p q bs t = taken_clear bs q.count q.mode t.within t.clear ∙ t.state bs

pub going_none : {p q : Cursor} (w l bs : List ℕ) → length bs ≡ limit → Takes p q → Going (taken_as bs q.count q.mode) w l l bs q 0 0
unfolding final outcomes lines
going_none w l bs full t = record {
  within = omega arith;
  full = full;
  state = refl;
  held = t.within;
  clear = t.clear;
  wrote = Wrote_none l 0;
  fits = omega arith;
}

pub going_more : {s : State} {w before bs cs : List ℕ} {p : Cursor} {n : ℕ} {t : AnswerAt Given} {old new : Page} → Going s w before old.out.now bs p n old.at
    → MoreUsed s w n cs t → old.at + LINE ≤ length old.out.now → OutcomeLine t.outcome old new → Going s w before new.out.now cs t.cursor (n + t.used) new.at
going_more {t = t} {old = old} {new = new} g x room y =
    let h : old.at + length (given_line t.outcome) ≤ length old.out.now = omega (arith, y.short) in
    let z = leaves_wrote h y.line.leaves in
    record {
      within = x.within;
      full = x.full;
      state = x.state;
      held = x.held;
      clear = x.clear;
      wrote = rw x.lines (then g.wrote z);
      fits = omega (arith, kept g.wrote, z.place, h);
    }

pub going_lists : {s : State} {w before after bs : List ℕ} {p : Cursor} {n k : ℕ} (left : ℕ) → Going s w before after bs p n k
    → (n ≡ length w) ⊎ (length before < k + LINE) → Lists s left w before after (listed_of bs p left w n k)
going_lists left g x = record {
  within = g.within;
  written = g.wrote.place ∙ zero-add _;
  fits = g.fits;
  text = front_to g.wrote g.fits;
  reading = g.state;
  count_within = g.held;
  clear = g.clear;
  full = g.full;
  left = refl;
  stops = x;
}

-- with room for a line, a call with bytes uses at least one
pub lists_some : (s : State) (k : ℕ) (w before after : List ℕ) (r : Listed) → LINE ≤ length before → 0 < length w → Lists s k w before after r → 0 < r.used
unfolding outcomes lines
lists_some s k w before after r room h x = go r.used refl
  where
    go : (n : ℕ) → r.used ≡ n → 0 < r.used
    go (suc n) e = omega arith
    go zero e =
        let z : r.written ≡ 0 = x.written ∙ rw e in
        ⊎_elim (λ y. omega arith) (λ y. absurd (omega arith)) x.stops
