-- What a turn of the reader's loop does, against the definition.
use Prim.Native.Nat.{ℕ, zero, suc, ◌+◌, ◌-◌, ◌≤◌, ◌<◌, min}
use mathlib.Core.Path.{◌≡◌, refl, sym, ap, ◌∙◌}
use mathlib.Core.Bool.{Bool, true, false, cond, not}
use mathlib.Core.List.{List, [], ◌∷◌, ◌++◌}
use mathlib.Core.Option.{Option, none, some}
use native.Mathlib.Numerals.{add-one}
use native.Mathlib.Nat.{zero-add, add-zero, add-suc, suc-add, add_assoc}
use native.Mathlib.Omega.{arith}
use lib.ListN.{length, take, drop, set, get_or, length-set, length-take, length-drop, drop_of_length-le}
use lib.Seq.{take_all, length-take-le, take-take, take-suc-set, drop-cons}
use borrow.Author.Tests.{lt-ltb, ltb-false, ne_eqb, eqb-false}
use Rattle.std.specs.Prelude.{Some, None, unwrap_or, position, slice_get, eqb, ltb}
use Rattle.std.proofs.Common.{inl, inr}
use Rattle.std.proofs.lemmas.Option.{slice_get_within, slice_get_cases, get_or_from_slice_get}
use Rattle.std.specs.List.{position_or_len}
use Rattle.std.proofs.lemmas.Bool.{false≢true}
use Rattle.std.proofs.lemmas.List.{get_or-take, get_or-drop}
use Rattle.std.proofs.lemmas.List.Sums.{prefix_len-le-length, fails_before_first}
use Rattle.line.specs.Places.{FaultAt}
use Rattle.line.specs.declared.Mode.{Mode}
use Rattle.line.specs.declared.Mode.TheVariants.{Plain, Escaped, Skipping}
use Rattle.line.specs.declared.PacketOutcome.{PacketOutcome as Given}
use Rattle.line.specs.declared.PacketOutcome.TheVariants.{Nothing, Packet, Refused}
use Rattle.line.specs.declared.Fault.{Fault}
use Rattle.line.specs.declared.Cursor.{Cursor}
use Rattle.line.specs.declared.step.Action.{Action}
use Rattle.line.specs.declared.step.Action.TheVariants.{Store, Keep, Settle, Skip, Refuse, Give}
use Rattle.line.specs.Wire.{END, ESC}
use Rattle.line.specs.Scan.{Scan, onward, ahead, scan}
use Rattle.line.specs.Reader.{limit, State, plain, skipping, emptied, Outcome, packet, decoded, inner, step, read}
use Rattle.line.specs.Answers.{at, taken_as, told, Within, Clear, Answers, answer_of}
use Rattle.line.specs.AnswerLaws.{taken_clear, clear_reachable}
use Rattle.line.specs.Reachable.{Possible}
use Rattle.line.specs.ReachableLaws.{step-possible}
use Rattle.line.specs.Step.{is_special, Takes, Runs, Skips, told_at, fault_behind, acted, Fits, Acts, stepping}

-- ---- a call on the bytes from i on, for any step

module _ {State Out : Type 0} (step : State → ℕ → State × Option Out) where
  pub ahead-zero : (s : State) (w : List ℕ) → scan step s w ≡ ahead 0 (scan step s (drop 0 w))
  ahead-zero s w = rw zero-add

  pub ahead-ahead : (i k : ℕ) (r : Scan State Out) → ahead i (ahead k r) ≡ ahead (i + k) r
  ahead-ahead i k r = rw add_assoc

  -- k bytes before, and the rest from i on
  module _ (s : State) (w : List ℕ) (k i : ℕ) where
    pub moved : (t : State) → i < length w → step s (get_or w i 0) ≡ (t, none)
        → ahead k (scan step s (drop i w)) ≡ ahead (k + 1) (scan step t (drop (i + 1) w))
    unfolding scan onward
    moved t h e = rw (add-one k, add-one i, drop-cons w i 0, e, add-suc, suc-add)

    pub found : (t : State) (o : Out) → i < length w → step s (get_or w i 0) ≡ (t, some o)
        → ahead k (scan step s (drop i w)) ≡ record { used = k + 1; outcome = some o; after = t }
    unfolding scan onward
    found t o h e = rw (drop-cons w i 0, e)

    pub ended : length w ≤ i → ahead k (scan step s (drop i w)) ≡ record { used = k; outcome = none; after = s }
    unfolding scan
    ended h = rw (drop_of_length-le w h, add-zero)

-- the first place that passes a test, or the end: no element before it passes
first_or_end : (p : ℕ → Bool) (xs : List ℕ) (n k : ℕ) → n ≡ length xs → k ≡ unwrap_or (position p xs) n → (k ≤ n) × ((j : ℕ) → j < k → p (get_or xs j 0) ≡ false)
first_or_end p xs n k l e =
    let q : ℕ = position_or_len p xs in
    let h : q ≤ length xs = prefix_len-le-length (λ x. not (p x)) xs in
    let first : k ≡ q = e ∙ go q (ltb q (length xs)) refl h in
    (omega arith, λ j x. fails_before_first p xs j 0 (rw first at x))
  where
    go : (q : ℕ) (t : Bool) → ltb q (length xs) ≡ t → q ≤ length xs → unwrap_or (cond t (Some q) None) n ≡ q
    go q true e h = refl
    go q false e h = let x : length xs ≤ q = ltb-false q (length xs) e in omega arith

-- a byte that goes as it is
not_special : (b : ℕ) → is_special b ≡ false → (b ≡ END → ⊥) × (b ≡ ESC → ⊥)
not_special b e = (λ x. false≢true (sym e ∙ ap is_special x), λ x. false≢true (sym e ∙ ap is_special x))

-- ---- the actions

-- a byte that goes as it is
pub plain_step : (h : List ℕ) (b : ℕ) → (b ≡ END → ⊥) → (b ≡ ESC → ⊥) → length h < limit → step (plain h) b ≡ (plain (h ++ b ∷ []), none)
unfolding step inner decoded
plain_step h b x y l = rw (ne_eqb b END x, ne_eqb b ESC y, lt-ltb (length h) limit l)

-- a byte stored behind those held
pub stored : (bs : List ℕ) (n v : ℕ) → n < length bs → ◌≡◌ {A = State × Option Outcome} (plain (take n bs ++ v ∷ []), none) (plain (take (n + 1) (set bs n v)), none)
stored bs n v h = rw (add-one, take-suc-set bs n v)

pub kept_clear : (n : ℕ) (m : Mode) → Fits n (Keep m) → Clear m n
kept_clear n Plain x = tt
kept_clear n Escaped x = tt
kept_clear n (Skipping f) x = absurd x

pub given_within : (n : ℕ) (o : Given) → n ≤ limit → Fits n (Give o) → Within o
given_within n Nothing h x = tt
given_within n (Packet k) h x = omega arith
given_within n (Refused f) h x = tt

-- ---- a run of bytes that go as they are

pub runs_none : (m : Mode) (bs : List ℕ) (n : ℕ) (w : List ℕ) (i : ℕ) → length bs ≡ limit → n ≤ limit → i ≤ length w → Runs m bs n w i bs 0
runs_none m bs n w i full h l = record {
  read = rw (add-zero n, add-zero i, zero-add);
  held = rw add-zero h;
  within = rw add-zero l;
  full = full;
  clear = λ x. rw add-zero x;
}

pub runs_more : (bs : List ℕ) (n : ℕ) (w : List ℕ) (i : ℕ) (cs : List ℕ) (k : ℕ) → Runs Plain bs n w i cs k
    → i + k < length w → (get_or w (i + k) 0 ≡ END → ⊥) → (get_or w (i + k) 0 ≡ ESC → ⊥) → n + k < limit
    → Runs Plain bs n w i (set cs (n + k) (get_or w (i + k) 0)) (k + 1)
runs_more bs n w i cs k x l p q r =
    let f = x.full in
    let h : n + k < length cs = omega arith in
    let g : length (take (n + k) cs) ≡ n + k = length-take-le (n + k) cs (omega arith) in
    record {
      read =
          x.read
          ∙ moved step _ w k (i + k) _ l (plain_step (take (n + k) cs) (get_or w (i + k) 0) p q (omega arith) ∙ stored cs (n + k) (get_or w (i + k) 0) h)
          ∙ rw (add_assoc n k 1, add_assoc i k 1);
      held = omega arith;
      within = omega arith;
      full = simp length-set x.full;
      clear = λ y. tt;
    }

-- one more of at most m next bytes
pub runs_next : (bs : List ℕ) (n : ℕ) (w : List ℕ) (i m : ℕ) (cs : List ℕ) (k : ℕ) → m ≡ min (limit - n) (length w - i) → k < length (take (i + m - i) (drop i w)) → Runs Plain bs n w i cs k
    → is_special (get_or (take (i + m - i) (drop i w)) k 0) ≡ false → Runs Plain bs n w i (set cs (n + k) (get_or (take (i + m - i) (drop i w)) k 0)) (k + 1)
runs_next bs n w i m cs k e l x p =
    let long : k < min (i + m - i) (length w - i) = simp (length-take, length-drop) at l in
    let h : k < m = omega arith in
    let next : get_or (take (i + m - i) (drop i w)) k 0 ≡ get_or w (i + k) 0 = rw (get_or-take (i + m - i) (drop i w) k 0 (omega arith), get_or-drop i w k 0) in
    let b = not_special (get_or w (i + k) 0) (rw next at p) in
    rw next (runs_more bs n w i cs k x (omega arith) b.0 b.1 (omega arith))

-- ---- a run of skipped bytes

-- a byte that is no END
pub skip_step : (f : FaultAt) (b : ℕ) → (b ≡ END → ⊥) → step (skipping f) b ≡ (skipping f, none)
unfolding step inner
skip_step f b x = rw (ne_eqb b END x)

pub skips_none : (w : List ℕ) (i : ℕ) → i ≤ length w → Skips w i 0
skips_none w i l = record { read = λ f. rw (add-zero i, zero-add); within = rw add-zero l }

pub skips_more : (w : List ℕ) (i k : ℕ) → Skips w i k → i + k < length w → (get_or w (i + k) 0 ≡ END → ⊥) → Skips w i (k + 1)
skips_more w i k x l p = record {
  read = λ f. x.read f ∙ moved step _ w k (i + k) _ l (skip_step f (get_or w (i + k) 0) p) ∙ rw (add_assoc i k 1);
  within = omega arith;
}

-- k bytes none of which is an END
skips_all : (w : List ℕ) (i k : ℕ) → i + k ≤ length w → ((j : ℕ) → j < k → eqb (get_or w (i + j) 0) END ≡ false) → Skips w i k
skips_all w i zero l x = skips_none w i (omega arith)
skips_all w i (suc k) l x = rw (← add-one k) (skips_more w i k (skips_all w i k (omega arith) (λ j y. x j (omega arith))) (omega arith) (eqb-false (get_or w (i + k) 0) END (x k (omega arith))))

-- those before the next END
pub skips_front : (w : List ℕ) (i k : ℕ) → i ≤ length w
    → let rest = take (length w - i) (drop i w) in k ≡ unwrap_or (position (λ b. eqb b END) rest) (length rest) → Skips w i k
skips_front w i k l e =
    let all : take (length w - i) (drop i w) ≡ drop i w = take_all (length w - i) (drop i w) (simp length-drop (omega arith)) in
    let found = first_or_end (λ b. eqb b END) (drop i w) (length (drop i w)) k refl (rw all at e) in
    let within : k ≤ length w - i = rw length-drop at found.0 in
    skips_all w i k (omega arith) (λ j y. rw get_or-drop at (found.1 j y))

-- ---- an outcome

-- an outcome told of the bytes held is told of the whole array
pub gave : (bs : List ℕ) (n : ℕ) (o : Given) (s : State) (w : List ℕ) (i : ℕ) → Fits n (Give o) → i < length w
    → step s (get_or w i 0) ≡ acted (take n bs) (Give o)
    → ahead i (read s (drop i w)) ≡ record { used = i + 1; outcome = told o bs; after = emptied }
gave bs n Nothing s w i x h e = absurd x
gave bs n (Packet k) s w i x h e = found step s w i i emptied (packet (take k bs)) h (e ∙ rw (take-take k n bs))
gave bs n (Refused f) s w i x h e = found step s w i i emptied _ h e

-- ---- a turn

-- no byte at i: it is the end
past : (w : List ℕ) (i : ℕ) → slice_get w i ≡ None → length w ≤ i
past w i e = elim (slice_get_cases w i).1 [ inl p ↦ (let q : slice_get w i ≡ Some p.0 = p.2 in cc) | inr p ↦ p.0 ]

-- where the reader stands before the byte at i: what it tells of all the bytes, `whole`, is what it tells from here, counted on
pub record Stands (whole : Scan State Outcome) (bs : List ℕ) (n : ℕ) (m : Mode) (w : List ℕ) (i : ℕ) : Type 0 where
  pub read : whole ≡ ahead i (read (at (take n bs) m) (drop i w))
  pub within : i ≤ length w
  pub held : n ≤ limit
  pub clear : Clear m n

pub begins : (bs : List ℕ) (p r : Cursor) (w : List ℕ) → Takes p r → Stands (read (taken_as bs p.count p.mode) w) bs r.count r.mode w 0
begins bs p r w x = record {
  read = ap (λ (s : State). read s w) (sym (x.state bs)) ∙ ahead-zero step _ w;
  within = omega arith;
  held = x.within;
  clear = x.clear;
}

module _ {whole : Scan State Outcome} {bs : List ℕ} {n : ℕ} {m : Mode} {w : List ℕ} {i : ℕ} (x : Stands whole bs n m w i) where
  -- a run of bytes that go as they are
  pub ran : {cs : List ℕ} {k : ℕ} → Runs m bs n w i cs k → Stands whole cs (n + k) m w (i + k)
  ran {cs} {k} y = record {
    read = x.read ∙ ap (ahead i) y.read ∙ ahead-ahead step i k _;
    within = y.within;
    held = y.held;
    clear = y.clear x.clear;
  }

  -- the end of the bytes
  pub ends : slice_get w i ≡ None → Answers whole (answer_of bs (told_at i Nothing n m))
  ends e = record {
    told = rw (taken_clear bs n m x.held x.clear) (sym (x.read ∙ ended step _ w i i (past w i e)));
    packet_within = tt;
    count_within = x.held;
    clear = x.clear;
  }

  -- the next byte, by the action that it asks for
  module _ {b : ℕ} (full : length bs ≡ limit) (next : slice_get w i ≡ Some b) where
    more : i < length w
    more = slice_get_within w i b next

    stepped : {a : Action} → Acts n (stepping m b) a → step (at (take n bs) m) (get_or w i 0) ≡ acted (take n bs) a
    stepped y = rw (get_or_from_slice_get w i b 0 next) (sym (y.act (take n bs) (let h = x.held in length-take-le n bs (omega arith))))

    goes_on : {a : Action} → Acts n (stepping m b) a → (s : State) → acted (take n bs) a ≡ (s, none) → whole ≡ ahead (i + 1) (read s (drop (i + 1) w))
    goes_on y s e = x.read ∙ moved step _ w i i s more (stepped y ∙ e)

    settles : {a : Action} → Acts n (stepping m b) a → (f : FaultAt) → acted (take n bs) a ≡ (skipping f, none) → Possible f
    settles y f e = step-possible _ (get_or w i 0) f (clear_reachable bs n m x.held x.clear) (stepped y ∙ e)

    pub stores : (v : ℕ) → Acts n (stepping m b) (Store v) → Stands whole (set bs n v) (n + 1) Plain w (i + 1)
    stores v y = let h = y.fits in record {
      read = goes_on y _ (stored bs n v (omega arith));
      within = let h = more in omega arith;
      held = omega arith;
      clear = tt;
    }

    pub keeps : (k : Mode) → Acts n (stepping m b) (Keep k) → Stands whole bs n k w (i + 1)
    keeps k y = record {
      read = goes_on y _ refl;
      within = let h = more in omega arith;
      held = x.held;
      clear = kept_clear n k y.fits;
    }

    -- the rest of a settled piece is passed over
    passed : {a : Action} → Acts n (stepping m b) a → (f : FaultAt) → acted (take n bs) a ≡ (skipping f, none)
        → {k : ℕ} → Skips w (i + 1) k → Stands whole bs 0 (Skipping f) w (i + 1 + k)
    passed y f e {k} z = record {
      read = goes_on y _ e ∙ ap (ahead (i + 1)) (z.read f) ∙ ahead-ahead step (i + 1) k _;
      within = z.within;
      held = omega arith;
      clear = (refl, settles y f e);
    }

    pub settled : (k : Fault) → Acts n (stepping m b) (Settle k) → (f : FaultAt) → f ≡ fault_behind k (take n bs)
        → {j : ℕ} → Skips w (i + 1) j → Stands whole bs 0 (Skipping f) w (i + 1 + j)
    settled k y f e = passed y f (ap (λ (g : FaultAt). (skipping g, none)) (sym e))

    pub skipped : (f : FaultAt) → Acts n (stepping m b) (Skip f) → {j : ℕ} → Skips w (i + 1) j → Stands whole bs 0 (Skipping f) w (i + 1 + j)
    skipped f y = passed y f refl

    pub refuses : (k : Fault) → Acts n (stepping m b) (Refuse k) → (f : FaultAt) → f ≡ fault_behind k (take n bs)
        → Answers whole (answer_of bs (told_at (i + 1) (Refused f) 0 Plain))
    refuses k y f e = record {
      told = sym (x.read ∙ found step _ w i i emptied _ more (stepped y) ∙ rw e);
      packet_within = tt;
      count_within = omega arith;
      clear = tt;
    }

    pub gives : (o : Given) → Acts n (stepping m b) (Give o) → Answers whole (answer_of bs (told_at (i + 1) o 0 Plain))
    gives o y = record {
      told = sym (x.read ∙ gave bs n o _ w i y.fits more (stepped y));
      packet_within = given_within n o x.held y.fits;
      count_within = omega arith;
      clear = tt;
    }
