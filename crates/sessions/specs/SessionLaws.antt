-- Laws of the sessions.
use Prim.Native.Nat.{ℕ, zero, suc, ◌+◌, ◌*◌, ◌<◌, ◌≤◌}
use Rattle.std.specs.Prelude.{◌≡◌, Bool, cond, not, ◌&&◌, length, take, drop, get_or, set, leb, eqb}
use Rattle.std.proofs.Math.Path.{refl, ap}
use Rattle.std.proofs.Common.{sym, ◌∙◌, true≢false, add-one, arith, drop_of_length-le, drop-cons}
use mathlib.Core.List.{List, [], ◌∷◌}
use Rattle.std.proofs.Math.Bool.{true, false}
use Rattle.std.proofs.lemmas.Bool.{false≢true}
use Rattle.std.proofs.Math.Option.{Option, none, some}
use Rattle.std.proofs.Math.Seq.{take-suc}
use Rattle.std.proofs.Math.Dec.{ltb}
use borrow.Author.Tests.{leb-true, ltb-true, ltb-false, eqb-true}
use Rattle.nodes.specs.Cases.{either, either_by}
use Rattle.nodes.specs.Table.{in_use, is_removed, node_count}
use Rattle.sessions.specs.declared.Slot.{Slot}
use Rattle.sessions.specs.declared.ModeSend.{ModeSend}
use Rattle.sessions.specs.Search.{any, first, member, below}
use Rattle.sessions.specs.SearchLaws.{member-last}
use Rattle.sessions.specs.Sessions.{slot_count, slot_size, sessions_size, slot_from, slots_of, slot_at, with_slot, closed_slot, is_open, is_on, close_one, close_below, close_line, holds_removed, close_removed, is_free, is_numbered, holds, close, target_count, max_indices, named, accepted, rejected, session_in_use, no_free_slot, illegal_parameter, targets_legal, is_legal, with_bit, marked, session_slot, mode_send_status, opened, mode_send, Finished, finish, left_by, not_open, refused, on_line, told}
use Rattle.sessions.specs.ListLaws.{below_each}
use Rattle.sessions.specs.SlotLaws.{slot_at-from, with_slot-length, with_slot-other, closed_unused, slots_with}
use Rattle.sessions.specs.MarkLaws.{session-marks}

-- status 0 is given only where no node that is named is held
pub accepted_free : (ss : List Slot) (t : List ℕ) (r : ModeSend) → mode_send_status ss t r ≡ accepted → any (λ n. any (holds n) ss) (named r) ≡ false
unfolding mode_send_status
accepted_free ss t r e = go (is_legal t r) (any (is_numbered r.session) ss) (any is_free ss) (any (λ n. any (holds n) ss) (named r)) e
  where
    go : (a b c d : Bool) → cond (not a) illegal_parameter (cond b session_in_use (cond (not c) no_free_slot (cond d rejected accepted))) ≡ accepted → d ≡ false
    go true false true false e = refl
    go true false true true e = absurd (omega arith)
    go true false false d e = absurd (omega arith)
    go true true c d e = absurd (omega arith)
    go false b c d e = absurd (omega arith)

-- a mode send leaves the session table, or opens a session in the lowest free slot, of whose nodes none is held
pub mode_send-leaves : (P : List ℕ → Type 0) (b t : List ℕ) (l : ℕ) (r : ModeSend) → P b
    → (any (λ n. any (holds n) (slots_of b)) (named r) ≡ false → P (opened b l r)) → P (mode_send b t l r).slots
unfolding mode_send
mode_send-leaves P b t l r same taken =
    let s = mode_send_status (slots_of b) t r in
    either_by P (eqb s accepted) (opened b l r) b (λ e. taken (accepted_free (slots_of b) t r (eqb-true s accepted e))) (λ e. same)

-- the session table is as long after a mode send as before
pub mode_send-length : (b t : List ℕ) (l : ℕ) (r : ModeSend) → length (mode_send b t l r).slots ≡ length b
mode_send-length b t l r = mode_send-leaves (λ (c : List ℕ). length c ≡ length b) b t l r refl (λ e. with_slot-length b (first is_free (slots_of b)) (session_slot l r))

-- of the slots, in the paper's words: the lowest free one takes the session, and no other changes
pub opened_slots : (b : List ℕ) (l : ℕ) (r : ModeSend) → length b ≡ sessions_size → slots_of (opened b l r) ≡ set (slots_of b) (first is_free (slots_of b)) (session_slot l r)
opened_slots b l r size = slots_with b (first is_free (slots_of b)) (session_slot l r) (session-marks l r) size

-- the lowest with its number is closed by a finish, and no other changes
pub finish_slots : (b : List ℕ) (x : ℕ) → length b ≡ sessions_size
    → slots_of (left_by (finish b x) b) ≡ cond (any (is_numbered x) (slots_of b)) (set (slots_of b) (first (is_numbered x) (slots_of b)) closed_slot) (slots_of b)
unfolding finish
finish_slots b x size = go (any (is_numbered x) (slots_of b))
  where
    k : ℕ
    k = first (is_numbered x) (slots_of b)

    go : (t : Bool) → slots_of (left_by (cond t (some (record { line = (slot_at b k).line; slots = with_slot b k closed_slot })) none) b) ≡ cond t (set (slots_of b) k closed_slot) (slots_of b)
    go true = slots_with b k closed_slot refl size
    go false = refl

-- the session table is as long after a finish as before
pub finish-length : (b : List ℕ) (x : ℕ) → length (left_by (finish b x) b) ≡ length b
unfolding finish
finish-length b x =
    either (λ (o : Option Finished). length (left_by o b) ≡ length b) (any (is_numbered x) (slots_of b)) _ _ (with_slot-length b (first (is_numbered x) (slots_of b)) closed_slot) refl

-- after the sessions that pass a test are closed, none passes it, if a slot without an open one does not: in a table of any length
module _ (p : Slot → Bool) (free : (s : Slot) → is_open s ≡ false → p s ≡ false) (b : List ℕ) where
  closed_passes : (c : List ℕ) (k : ℕ) → p (slot_from (with_slot c k closed_slot) (k * slot_size)) ≡ false
  closed_passes c k = free (slot_from (with_slot c k closed_slot) (k * slot_size)) (rw (closed_unused c k))

  none_below : (k j : ℕ) → j < k → k ≤ slot_count → p (slot_from (close_below p k b) (j * slot_size)) ≡ false
  unfolding close_below close_one
  none_below zero j h e = absurd (omega arith)
  none_below (suc k) j h e = go (ltb j k) refl (close_below p k b) (λ x. none_below k j x (omega arith))
    where
      go : (t : Bool) → ltb j k ≡ t → (c : List ℕ) → (j < k → p (slot_from c (j * slot_size)) ≡ false)
          → p (slot_from (cond (p (slot_at c k)) (with_slot c k closed_slot) c) (j * slot_size)) ≡ false
      go true x c r =
          let l = ltb-true j k x in
          either (λ (m : List ℕ). p (slot_from m (j * slot_size)) ≡ false) (p (slot_at c k)) (with_slot c k closed_slot) c
          (ap p (with_slot-other c k closed_slot refl j (λ y. omega (arith, y, l))) ∙ r l) (r l)
      go false x c r =
          let l : j ≡ k = omega (arith, ltb-false j k x, h) in
          rw l
          (either_by (λ (m : List ℕ). p (slot_from m (k * slot_size)) ≡ false) (p (slot_at c k)) (with_slot c k closed_slot) c (λ y. closed_passes c k)
          (λ y. ap p (sym (slot_at-from c k (omega arith))) ∙ y))

  pub close-none : any p (slots_of (close p b)) ≡ false
  unfolding slots_of
  close-none = below_each p (λ j. slot_from (close p b) (j * slot_size)) slot_count (λ j h. none_below slot_count j h (omega arith))

-- so no session is on a line that was closed
pub close_line-none : (l : ℕ) (b : List ℕ) → any (is_on l) (slots_of (close_line l b)) ≡ false
close_line-none l b = close-none (is_on l) (λ s e. rw e) b

-- a slot without an open session holds no node
free_none : (s : Slot) → is_open s ≡ false → (f : ℕ → Bool) (l : List ℕ) → any (λ k. holds k s && f k) l ≡ false
unfolding any
free_none s e f [] = refl
free_none s e f (k ∷ l) = rw e (free_none s e f l)

pub removed_none : (t bits : List ℕ) (s : Slot) → is_open s ≡ false → holds_removed t bits s ≡ false
unfolding holds_removed
removed_none t bits s e = free_none s e (is_removed t bits) (below node_count)

-- and none holds a node that was removed
pub close_removed-none : (t bits b : List ℕ) → any (holds_removed t bits) (slots_of (close_removed t bits b)) ≡ false
close_removed-none t bits b = close-none (holds_removed t bits) (removed_none t bits) b

-- a legal request has at most 20 indices
pub legal_count : (t : List ℕ) (r : ModeSend) → is_legal t r ≡ true → r.count ≤ max_indices
unfolding is_legal
legal_count t r e = go (leb 1 r.count) (leb r.count max_indices) _ refl e
  where
    go : (a b x : Bool) → leb r.count max_indices ≡ b → (a && (b && x)) ≡ true → r.count ≤ max_indices
    go true true x h e = leb-true r.count max_indices h
    go true false x h e = absurd (false≢true e)
    go false b x h e = absurd (false≢true e)

-- which numbers were seen counts, and not in which order
seen_same : (t ns a b : List ℕ) → ((n : ℕ) → member n a ≡ member n b) → targets_legal t a ns ≡ targets_legal t b ns
unfolding targets_legal any
seen_same t [] a b e = refl
seen_same t (n ∷ ns) a b e = simp (e n, seen_same t ns (n ∷ a) (n ∷ b) (λ m. ap (cond (eqb m n) true) (e m)))

-- going through the indices: the one at a place is legal, or no target, or named twice, or there is none
module _ (t is : List ℕ) (i : ℕ) (h : i < length is) where
  pub targets_on : (ltb (get_or is i 0) target_count && in_use t (get_or is i 0)) ≡ true → member (get_or is i 0) (take i is) ≡ false
      → targets_legal t (take i is) (drop i is) ≡ targets_legal t (take (i + 1) is) (drop (i + 1) is)
  unfolding targets_legal
  targets_on e f =
      rw (drop-cons is i 0, targets_legal, f)
      (go (ltb (get_or is i 0) target_count) (in_use t (get_or is i 0)) _ e
      ∙ rw (add-one, take-suc is i 0) (seen_same t (drop (suc i) is) _ _ (λ m. member-last m (get_or is i 0) (take i is))))
    where
      go : (a b x : Bool) → (a && b) ≡ true → (a && (b && x)) ≡ x
      go true true x e = refl
      go true false x e = absurd (false≢true e)
      go false b x e = absurd (false≢true e)

  pub targets_off : (ltb (get_or is i 0) target_count && in_use t (get_or is i 0)) ≡ false → targets_legal t (take i is) (drop i is) ≡ false
  unfolding targets_legal
  targets_off e = rw (drop-cons is i 0, targets_legal) (go (ltb (get_or is i 0) target_count) (in_use t (get_or is i 0)) _ e)
    where
      go : (a b x : Bool) → (a && b) ≡ false → (a && (b && x)) ≡ false
      go true true x e = absurd (true≢false e)
      go true false x e = refl
      go false b x e = refl

  pub targets_twice : member (get_or is i 0) (take i is) ≡ true → targets_legal t (take i is) (drop i is) ≡ false
  unfolding targets_legal
  targets_twice e = rw (drop-cons is i 0, targets_legal, e) (go (ltb (get_or is i 0) target_count) (in_use t (get_or is i 0)))
    where
      go : (a b : Bool) → (a && (b && false)) ≡ false
      go true true = refl
      go true false = refl
      go false b = refl

pub targets_end : (t is : List ℕ) (i : ℕ) → length is ≤ i → targets_legal t (take i is) (drop i is) ≡ true
unfolding targets_legal
targets_end t is i h = rw (drop_of_length-le is h)

-- and marking them
pub marked_on : (ms is : List ℕ) (i : ℕ) → i < length is → marked ms (drop i is) ≡ marked (with_bit ms (get_or is i 0)) (drop (i + 1) is)
unfolding marked
marked_on ms is i h = rw (add-one, drop-cons is i 0, marked)

pub marked_end : (ms is : List ℕ) (i : ℕ) → length is ≤ i → marked ms (drop i is) ≡ ms
unfolding marked
marked_end ms is i h = rw (drop_of_length-le is h)

-- what finish gives where it tells a line, and where it tells that the number is not open
pub finish-told : (b : List ℕ) (x l : ℕ) → told (finish b x) ≡ on_line l → finish b x ≡ some (record { line = l; slots = left_by (finish b x) b })
finish-told b x l e = go (finish b x) e
  where
    go : (o : Option Finished) → told o ≡ on_line l → o ≡ some (record { line = l; slots = left_by o b })
    go none e = let z : ◌≡◌ {A = ℕ} 0 1 = cc in absurd (omega arith)
    go (some f) e = let line : f.line ≡ l = cc in rw (← line)

pub finish-none : (b : List ℕ) (x : ℕ) → told (finish b x) ≡ refused not_open → finish b x ≡ none
finish-none b x e = go (finish b x) e
  where
    go : (o : Option Finished) → told o ≡ refused not_open → o ≡ none
    go none e = refl
    go (some f) e = let z : ◌≡◌ {A = ℕ} 0 1 = cc in absurd (omega arith)
