-- No node is ever in two open sessions: what no call makes worse.
use Prim.Native.Nat.{ℕ, zero, suc, ◌+◌, ◌*◌, ◌/◌, ◌%◌, ◌^◌, ◌<◌, ◌≤◌}
use Rattle.std.specs.Prelude.{◌≡◌, List, [], ◌∷◌, ◌++◌, map, Bool, cond, ◌&&◌, length, take, drop, get_or, replicate, ltb}
use Rattle.std.proofs.Math.Path.{refl, ap}
use Rattle.std.proofs.Common.{◌∙◌, true≢false, add-zero, length-take, get_or-take, get_or-drop, get_or-append-add}
use Rattle.std.proofs.Math.Bool.{true, false}
use Rattle.std.proofs.lemmas.Bool.{false≢true}
use Rattle.std.proofs.Math.Option.{Option}
use native.Mathlib.Omega.{arith}
use Rattle.std.proofs.Math.Nat.{zero-div}
use Rattle.std.proofs.Math.ListN.{get_or-eq_default}
use Rattle.std.proofs.Math.Dec.{eqb}
use borrow.Author.Tests.{ltb-true, ltb-false, eqb-true, eqb-false}
use Rattle.nodes.specs.Cases.{either}
use Rattle.nodes.specs.Table.{bit}
use Rattle.sessions.specs.declared.Slot.{Slot}
use Rattle.sessions.specs.declared.ModeSend.{ModeSend}
use Rattle.sessions.specs.Search.{any, first, member, below}
use Rattle.sessions.specs.Sessions.{slot_count, slot_size, mark_bytes, marks_at, target_count, slot_from, slots_of, slot_bytes, with_slot, closed_slot, slot_at, is_open, is_free, is_numbered, holds, close_one, close_below, named, session_slot, opened, mode_send, Finished, finish}
unfoldable pub use Rattle.sessions.specs.Sessions.{holders, left_by}
use Rattle.sessions.specs.ListLaws.{map_last}
use Rattle.sessions.specs.SlotLaws.{with_slot-length, with_slot-other, with_slot_byte}
use Rattle.sessions.specs.SessionLaws.{mode_send-leaves}
use Rattle.sessions.specs.MarkLaws.{zeros_at, marks_exactly, session-marks}

-- one, if a test holds
abbrev count : Bool → ℕ
count b = cond b 1 0

-- one slot more behind the others
holders-last : (n : ℕ) (ss : List Slot) (s : Slot) → holders n (ss ++ s ∷ []) ≡ holders n ss + count (holds n s)
unfolding holders
holders-last n [] s = omega arith
holders-last n (x ∷ ss) s = omega (arith, holders-last n ss s)

-- slots that are the same but for one: that one adds at most its own
module _ (n k : ℕ) (f g : ℕ → Slot) (other : (j : ℕ) → (j ≡ k → ⊥) → f j ≡ g j) where
  same-below : (m : ℕ) → m ≤ k → map f (below m) ≡ map g (below m)
  unfolding below
  same-below zero h = refl
  same-below (suc m) h = rw (map_last f (below m) m, map_last g (below m) m, same-below m (omega arith), other m (λ e. omega (arith, e, h)))

  one-other : (m : ℕ) → holders n (map f (below m)) ≤ count (holds n (f k)) + holders n (map g (below m))
  unfolding below
  one-other zero = omega arith
  one-other (suc m) =
      rw (map_last f (below m) m, map_last g (below m) m, holders-last n (map f (below m)) (f m), holders-last n (map g (below m)) (g m))
      (go (eqb m k) refl (one-other m))
    where
      go : (b : Bool) → eqb m k ≡ b → holders n (map f (below m)) ≤ count (holds n (f k)) + holders n (map g (below m))
          → holders n (map f (below m)) + count (holds n (f m)) ≤ count (holds n (f k)) + (holders n (map g (below m)) + count (holds n (g m)))
      go true e r =
          let here : count (holds n (f m)) ≡ count (holds n (f k)) = ap (λ (j : ℕ). count (holds n (f j))) (eqb-true m k e) in
          let same : holders n (map f (below m)) ≡ holders n (map g (below m)) = ap (holders n) (same-below m (omega (arith, eqb-true m k e))) in
          omega (arith, here, same)
      go false e r =
          let here : count (holds n (f m)) ≡ count (holds n (g m)) = ap (λ (s : Slot). count (holds n s)) (other m (eqb-false m k e)) in
          omega (arith, here, r)

-- a slot that is put in a table of any length holds no node that it does not name: what lies behind the table's end is lost
module _ (n : ℕ) (b : List ℕ) (k : ℕ) (s : Slot) (marks : length s.nodes ≡ mark_bytes) where
  -- a byte of the slot is there, or lost
  byte_there : (P : ℕ → Type 0) (i : ℕ) → i < slot_size → P (get_or (slot_bytes s) i 0) → P 0 → P (get_or (with_slot b k s) (k * slot_size + i) 0)
  byte_there P i h there lost = go (ltb (k * slot_size + i) (length b)) refl
    where
      go : (t : Bool) → ltb (k * slot_size + i) (length b) ≡ t → P (get_or (with_slot b k s) (k * slot_size + i) 0)
      go true e = rw (with_slot_byte b k s marks i h (ltb-true (k * slot_size + i) (length b) e)) there
      go false e = rw (get_or-eq_default (with_slot b k s) 0 {n = k * slot_size + i} (rw (with_slot-length b k s) (ltb-false (k * slot_size + i) (length b) e))) lost

  -- so is a node's bit
  abbrev marked : List ℕ
  marked = take mark_bytes (drop (k * slot_size + marks_at) (with_slot b k s))

  bit_there : (P : Bool → Type 0) → P (bit s.nodes n) → P false → P (bit marked n)
  unfolding bit
  bit_there P there lost = go (ltb (n / 8) mark_bytes) refl
    where
      none : P (eqb (0 / 2 ^ (n % 8) % 2) 1)
      none = rw (zero-div (2 ^ (n % 8))) lost

      go : (t : Bool) → ltb (n / 8) mark_bytes ≡ t → P (eqb (get_or marked (n / 8) 0 / 2 ^ (n % 8) % 2) 1)
      go true e =
          let h = ltb-true (n / 8) mark_bytes e in
          let together : k * slot_size + marks_at + n / 8 ≡ k * slot_size + (marks_at + n / 8) = omega arith in
          let place : get_or marked (n / 8) 0 ≡ get_or (with_slot b k s) (k * slot_size + (marks_at + n / 8)) 0 =
          get_or-take mark_bytes (drop (k * slot_size + marks_at) (with_slot b k s)) (n / 8) 0 h ∙ get_or-drop (k * slot_size + marks_at) (with_slot b k s) (n / 8) 0 ∙ rw together in
          let head = s.used ∷ s.line ∷ s.number / 256 ∷ s.number % 256 ∷ [] in
          rw place (byte_there (λ (v : ℕ). P (eqb (v / 2 ^ (n % 8) % 2) 1)) (marks_at + n / 8) (omega arith) (rw (get_or-append-add head s.nodes (n / 8) 0) there) none)
      go false e =
          let short : length marked ≤ n / 8 = rw (length-take mark_bytes (drop (k * slot_size + marks_at) (with_slot b k s))) (omega (arith, ltb-false (n / 8) mark_bytes e)) in
          rw (get_or-eq_default marked 0 {n = n / 8} short) none

  put_holds : count (holds n (slot_from (with_slot b k s) (k * slot_size))) ≤ count (holds n s)
  put_holds =
      let used : count (eqb s.used 1 && bit marked n) ≤ count (holds n s) =
      bit_there (λ (t : Bool). count (eqb s.used 1 && t) ≤ count (holds n s)) (omega arith) (lost (eqb s.used 1)) in
      rw add-zero at (byte_there (λ (u : ℕ). count (eqb u 1 && bit marked n) ≤ count (holds n s)) 0 (omega arith) used (omega arith))
    where
      lost : (a : Bool) {m : ℕ} → count (a && false) ≤ m
      lost true = omega arith
      lost false = omega arith

  -- so it adds at most its own
  pub put_holders : holders n (slots_of (with_slot b k s)) ≤ count (holds n s) + holders n (slots_of b)
  unfolding slots_of
  put_holders =
      omega (
        arith,
        put_holds,
        one-other n k (λ j. slot_from (with_slot b k s) (j * slot_size)) (λ j. slot_from b (j * slot_size)) (with_slot-other b k s marks) slot_count,
      )

-- closing adds nothing
close_one-holders : (n : ℕ) (p : Slot → Bool) (k : ℕ) (b : List ℕ) → holders n (slots_of (close_one p k b)) ≤ holders n (slots_of b)
unfolding close_one
close_one-holders n p k b =
    either (λ (c : List ℕ). holders n (slots_of c) ≤ holders n (slots_of b)) (p (slot_at b k)) (with_slot b k closed_slot) b (omega (arith, put_holders n b k closed_slot refl)) (omega arith)

pub close-holders : (n : ℕ) (p : Slot → Bool) (k : ℕ) (b : List ℕ) → holders n (slots_of (close_below p k b)) ≤ holders n (slots_of b)
unfolding close_below
close-holders n p zero b = omega arith
close-holders n p (suc k) b = omega (arith, close_one-holders n p k (close_below p k b), close-holders n p k b)

-- closing all leaves none, in a table of any length
none-held : (n : ℕ) (f : ℕ → Slot) → ((j : ℕ) → is_open (f j) ≡ false) → (k : ℕ) → holders n (map f (below k)) ≡ 0
unfolding below holders
none-held n f closed zero = refl
none-held n f closed (suc k) =
    let here : count (holds n (f k)) ≡ 0 = rw (closed k) in
    rw (map_last f (below k) k, holders-last n (map f (below k)) (f k)) (omega (arith, here, none-held n f closed k))

pub close_all-holders : (n m : ℕ) → holders n (slots_of (replicate m 0)) ≡ 0
unfolding slots_of
close_all-holders n m = none-held n (λ j. slot_from (replicate m 0) (j * slot_size)) (λ j. rw (zeros_at m (j * slot_size))) slot_count

-- a node that no session holds has no holder
none-holds : (n : ℕ) (ss : List Slot) → any (holds n) ss ≡ false → holders n ss ≡ 0
unfolding holders any
none-holds n [] e = refl
none-holds n (s ∷ ss) e = go (holds n s) (none-holds n ss) e
  where
    go : (b : Bool) → (any (holds n) ss ≡ false → holders n ss ≡ 0) → cond b true (any (holds n) ss) ≡ false → count b + holders n ss ≡ 0
    go true r e = absurd (true≢false e)
    go false r e = omega (arith, r e)

-- a node that is not among the indices is not held by the new session
not-held : (n l : ℕ) (r : ModeSend) → member n (named r) ≡ false → holds n (session_slot l r) ≡ false
not-held n l r e = marks_exactly n l r ∙ rw e (none (ltb n target_count))
  where
    none : (b : Bool) → (b && false) ≡ false
    none true = refl
    none false = refl

-- a test that fails for a whole list fails for each of its members
fails_each : (p : ℕ → Bool) (ns : List ℕ) (n : ℕ) → any p ns ≡ false → member n ns ≡ true → p n ≡ false
unfolding any
fails_each p [] n e x = absurd (false≢true x)
fails_each p (m ∷ ns) n e x = go (p m) (eqb n m) refl refl (fails_each p ns n) e x
  where
    go : (a b : Bool) → p m ≡ a → eqb n m ≡ b → (any p ns ≡ false → member n ns ≡ true → p n ≡ false)
        → cond a true (any p ns) ≡ false → cond b true (member n ns) ≡ true → p n ≡ false
    go true b u v r e x = absurd (true≢false e)
    go false true u v r e x = ap p (eqb-true n m v) ∙ u
    go false false u v r e x = r e x

-- mode send gives a node a holder only if it had none
pub mode_send-holders : (n : ℕ) (b t : List ℕ) (l : ℕ) (r : ModeSend) → holders n (slots_of b) ≤ 1 → holders n (slots_of (mode_send b t l r).slots) ≤ 1
mode_send-holders n b t l r h = mode_send-leaves (λ (c : List ℕ). holders n (slots_of c) ≤ 1) b t l r h (taken (member n (named r)) refl)
  where
    at_most : (b : Bool) → count b ≤ 1
    at_most true = omega arith
    at_most false = omega arith

    taken : (x : Bool) → member n (named r) ≡ x → any (λ n. any (holds n) (slots_of b)) (named r) ≡ false → holders n (slots_of (opened b l r)) ≤ 1
    taken true x e =
        let z = none-holds n (slots_of b) (fails_each (λ n. any (holds n) (slots_of b)) (named r) n e x) in
        omega (arith, put_holders n b (first is_free (slots_of b)) (session_slot l r) (session-marks l r), at_most (holds n (session_slot l r)), z)
    taken false x e = omega (arith, put_holders n b (first is_free (slots_of b)) (session_slot l r) (session-marks l r), ap count (not-held n l r x))

-- a finish adds nothing
pub finish-holders : (n : ℕ) (b : List ℕ) (x : ℕ) → holders n (slots_of (left_by (finish b x) b)) ≤ holders n (slots_of b)
unfolding finish
finish-holders n b x =
    either (λ (o : Option Finished). holders n (slots_of (left_by o b)) ≤ holders n (slots_of b)) (any (is_numbered x) (slots_of b)) _ _
    (omega (arith, put_holders n b (first (is_numbered x) (slots_of b)) closed_slot refl)) (omega arith)
