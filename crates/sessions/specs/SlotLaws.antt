-- The session table slot by slot: a slot put in it is there, and no other changes.
use Prim.Native.Nat.{ℕ, zero, suc, ◌+◌, ◌*◌, ◌/◌, ◌%◌, ◌<◌, ◌≤◌}
use Rattle.std.specs.Prelude.{◌≡◌, Bool, take, drop, set, replicate, eqb}
use Rattle.std.proofs.Math.Path.{refl, sym}
use Rattle.std.proofs.Common.{ap, ◌∙◌, add-zero, arith, length-take, length-drop, length-set, get_or-take, get_or-drop, get_or-append-add, get_or-set_same, get_or-set_other, ext_get_or}
use mathlib.Core.List.{List, [], ◌∷◌, map}
use Rattle.std.proofs.Math.Bool.{true, false, cond}
use Rattle.std.proofs.Math.ListN.{length, get_or, get_or-eq_default, get_or-map}
use Rattle.std.proofs.lemmas.List.{length-map}
use Rattle.std.proofs.Math.Seq.{length-sets}
use Rattle.std.proofs.Math.Dec.{ltb}
use borrow.Author.Tests.{ltb-true, ltb-false, eqb-true, eqb-false}
use Rattle.nodes.specs.Cases.{either}
use Rattle.nodes.specs.StoreLaws.{sets-before, sets_behind, sets_within, part_before, part_behind}
use Rattle.sessions.specs.declared.Slot.{Slot}
use Rattle.sessions.specs.Search.{any, first, below}
use Rattle.sessions.specs.SearchLaws.{any-first, first_within}
use Rattle.sessions.specs.ListLaws.{get_d_there, below-count, below_at}
use Rattle.sessions.specs.Sessions.{slot_count, slot_size, sessions_size, mark_bytes, marks_at, slot_from, slots_of, slot_bytes, with_slot, closed_slot, slot_at, close_if, close_one, close_below, close, close_all}

-- ---- reading

pub slots_count : (b : List ℕ) → length (slots_of b) ≡ slot_count
unfolding slots_of
slots_count b = below-count (λ k. slot_from b (k * slot_size)) slot_count

pub slot_within : (b : List ℕ) (k : ℕ) → k < slot_count → k < length (slots_of b)
slot_within b k h = rw (slots_count b) h

pub slot_at-from : (b : List ℕ) (k : ℕ) → k < slot_count → slot_at b k ≡ slot_from b (k * slot_size)
unfolding slots_of
slot_at-from b k h = below_at (λ k. slot_from b (k * slot_size)) slot_count k closed_slot h

-- some slot passes a test exactly if the first that does is one of the eight
module _ (p : Slot → Bool) (b : List ℕ) where
  pub any-slot : any p (slots_of b) ≡ ltb (first p (slots_of b)) slot_count
  any-slot = any-first p (slots_of b) ∙ ap (ltb (first p (slots_of b))) (slots_count b)

  pub first_slot : first p (slots_of b) ≤ slot_count
  first_slot = omega (arith, first_within p (slots_of b), slots_count b)

-- ---- writing

pub with_slot-length : (b : List ℕ) (k : ℕ) (s : Slot) → length (with_slot b k s) ≡ length b
unfolding with_slot
with_slot-length b k s = length-sets b (k * slot_size) (slot_bytes s)

module _ (b : List ℕ) (k : ℕ) (s : Slot) (marks : length s.nodes ≡ mark_bytes) where
  -- where the bytes of slot k begin
  abbrev at : ℕ
  at = k * slot_size

  pub with_slot-other : (j : ℕ) → (j ≡ k → ⊥) → slot_from (with_slot b k s) (j * slot_size) ≡ slot_from b (j * slot_size)
  unfolding with_slot
  with_slot-other j other = go (ltb j k) refl
    where
      go : (t : Bool) → ltb j k ≡ t → slot_from (with_slot b k s) (j * slot_size) ≡ slot_from b (j * slot_size)
      go true e =
          let h = ltb-true j k e in
          let before : (i : ℕ) → i < at → get_or (with_slot b k s) i 0 ≡ get_or b i 0 = sets-before (slot_bytes s) b at in
          rw (
            before (j * slot_size) (omega arith),
            before (j * slot_size + 1) (omega arith),
            before (j * slot_size + 2) (omega arith),
            before (j * slot_size + 3) (omega arith),
            part_before (slot_bytes s) b at (j * slot_size + marks_at) mark_bytes (omega arith),
          )
      go false e =
          let h = ltb-false j k e in
          let far : at + length (slot_bytes s) ≤ j * slot_size = omega (arith, marks, other) in
          let behind : (i : ℕ) → at + length (slot_bytes s) ≤ i → get_or (with_slot b k s) i 0 ≡ get_or b i 0 = sets_behind (slot_bytes s) b at in
          rw (
            behind (j * slot_size) far,
            behind (j * slot_size + 1) (omega arith),
            behind (j * slot_size + 2) (omega arith),
            behind (j * slot_size + 3) (omega arith),
            part_behind (slot_bytes s) b at (j * slot_size + marks_at) mark_bytes (omega arith),
          )

  -- a byte of the slot
  pub with_slot_byte : (i : ℕ) → i < slot_size → at + i < length b → get_or (with_slot b k s) (at + i) 0 ≡ get_or (slot_bytes s) i 0
  unfolding with_slot
  with_slot_byte i h e = sets_within (slot_bytes s) b at i (omega (arith, marks)) e

  pub with_slot-same : at + slot_size ≤ length b → slot_from (with_slot b k s) at ≡ s
  with_slot-same h =
      let whole : s.number / 256 * 256 + s.number % 256 ≡ s.number = omega arith in
      rw (
        rw add-zero at (with_slot_byte 0 (omega arith) (omega arith)),
        with_slot_byte 1 (omega arith) (omega arith),
        with_slot_byte 2 (omega arith) (omega arith),
        with_slot_byte 3 (omega arith) (omega arith),
        whole,
        nodes,
      )
    where
      place : (i : ℕ) → i < mark_bytes → get_or (take mark_bytes (drop (at + marks_at) (with_slot b k s))) i 0 ≡ get_or s.nodes i 0
      place i e =
          let together : at + marks_at + i ≡ at + (marks_at + i) = omega arith in
          get_or-take mark_bytes (drop (at + marks_at) (with_slot b k s)) i 0 e ∙ get_or-drop (at + marks_at) (with_slot b k s) i 0
          ∙ rw together (with_slot_byte (marks_at + i) (omega arith) (omega arith))
          ∙ get_or-append-add (s.used ∷ s.line ∷ s.number / 256 ∷ s.number % 256 ∷ []) s.nodes i 0

      nodes : take mark_bytes (drop (at + marks_at) (with_slot b k s)) ≡ s.nodes
      nodes =
          let long : length (take mark_bytes (drop (at + marks_at) (with_slot b k s))) ≡ mark_bytes = simp (length-take, length-drop, with_slot-length) (omega arith) in
          ext_get_or 0 (take mark_bytes (drop (at + marks_at) (with_slot b k s))) s.nodes (long ∙ sym marks) (λ i e. place i (rw long at e))

-- a slot that was closed is not in use, in a table of any length
pub closed_unused : (b : List ℕ) (k : ℕ) → get_or (with_slot b k closed_slot) (k * slot_size) 0 ≡ 0
closed_unused b k = go (ltb (k * slot_size) (length b)) refl
  where
    go : (t : Bool) → ltb (k * slot_size) (length b) ≡ t → get_or (with_slot b k closed_slot) (k * slot_size) 0 ≡ 0
    go true e = rw add-zero at (with_slot_byte b k closed_slot refl 0 (omega arith) (omega (arith, ltb-true (k * slot_size) (length b) e)))
    go false e = get_or-eq_default (with_slot b k closed_slot) 0 {n = k * slot_size} (rw (with_slot-length b k closed_slot) (ltb-false (k * slot_size) (length b) e))

-- a slot put in a table of the right length is there, and no other changes
pub slots_with : (b : List ℕ) (k : ℕ) (s : Slot) → length s.nodes ≡ mark_bytes → length b ≡ sessions_size → slots_of (with_slot b k s) ≡ set (slots_of b) k s
slots_with b k s marks size =
    ext_get_or closed_slot (slots_of (with_slot b k s)) (set (slots_of b) k s) (slots_count (with_slot b k s) ∙ sym (length-set (slots_of b) k s ∙ slots_count b))
    (λ j h. go j (rw (slots_count (with_slot b k s)) at h) (eqb j k) refl)
  where
    go : (j : ℕ) → j < slot_count → (t : Bool) → eqb j k ≡ t → slot_at (with_slot b k s) j ≡ get_or (set (slots_of b) k s) j closed_slot
    go j h true e =
        let same = eqb-true j k e in
        let put : slot_from (with_slot b k s) (k * slot_size) ≡ s = with_slot-same b k s marks (omega (arith, same, h, size)) in
        let there : get_or (set (slots_of b) k s) k closed_slot ≡ s = get_or-set_same (slots_of b) k s closed_slot (rw (slots_count b) (omega (arith, same, h))) in
        rw same (slot_at-from (with_slot b k s) k (omega (arith, same, h)) ∙ put ∙ sym there)
    go j h false e =
        let other = eqb-false j k e in
        slot_at-from (with_slot b k s) j h ∙ with_slot-other b k s marks j other
        ∙ sym (get_or-set_other (slots_of b) k j s closed_slot other ∙ slot_at-from b j h)

-- ---- closing

pub close_below-length : (p : Slot → Bool) (k : ℕ) (b : List ℕ) → length (close_below p k b) ≡ length b
unfolding close_below close_one
close_below-length p zero b = refl
close_below-length p (suc k) b =
    let c = close_below p k b in
    either (λ (m : List ℕ). length m ≡ length b) (p (slot_at c k)) (with_slot c k closed_slot) c (with_slot-length c k closed_slot ∙ close_below-length p k b) (close_below-length p k b)

-- the slots from k on are as they were, and those below it are closed where they pass the test
module _ (p : Slot → Bool) (b : List ℕ) (size : length b ≡ sessions_size) where
  pub close_above : (k j : ℕ) → k ≤ j → j < slot_count → slot_at (close_below p k b) j ≡ slot_at b j
  unfolding close_below close_one
  close_above zero j h e = refl
  close_above (suc k) j h e =
      let c = close_below p k b in
      either (λ (m : List ℕ). slot_at m j ≡ slot_at b j) (p (slot_at c k)) (with_slot c k closed_slot) c
      (slot_at-from (with_slot c k closed_slot) j e ∙ with_slot-other c k closed_slot refl j (λ x. omega (arith, x, h)) ∙ sym (slot_at-from c j e) ∙ close_above k j (omega arith) e)
      (close_above k j (omega arith) e)

  pub close-below : (k j : ℕ) → j < k → k ≤ slot_count → slot_at (close_below p k b) j ≡ close_if p (slot_at b j)
  unfolding close_below close_one
  close-below zero j h e = absurd (omega arith)
  close-below (suc k) j h e = go (ltb j k) refl (close_below p k b) (close_above k k (omega arith) (omega arith)) (close_below-length p k b ∙ size) (λ x. close-below k j x (omega arith))
    where
      at_place : (c : List ℕ) → length c ≡ sessions_size → (t : Bool) → slot_at (cond t (with_slot c k closed_slot) c) k ≡ cond t closed_slot (slot_at c k)
      at_place c n true = slot_at-from (with_slot c k closed_slot) k (omega arith) ∙ with_slot-same c k closed_slot refl (omega (arith, n, e))
      at_place c n false = refl

      go : (t : Bool) → ltb j k ≡ t → (c : List ℕ) → slot_at c k ≡ slot_at b k → length c ≡ sessions_size → (j < k → slot_at c j ≡ close_if p (slot_at b j))
          → slot_at (cond (p (slot_at c k)) (with_slot c k closed_slot) c) j ≡ close_if p (slot_at b j)
      go true x c same n r =
          let l = ltb-true j k x in
          either (λ (m : List ℕ). slot_at m j ≡ close_if p (slot_at b j)) (p (slot_at c k)) (with_slot c k closed_slot) c
          (slot_at-from (with_slot c k closed_slot) j (omega arith) ∙ with_slot-other c k closed_slot refl j (λ y. omega (arith, y, l)) ∙ sym (slot_at-from c j (omega arith)) ∙ r l)
          (r l)
      go false x c same n r =
          let l : j ≡ k = omega (arith, ltb-false j k x, h) in
          rw (l, ← same) (at_place c n (p (slot_at c k)))

  -- every session that passes the test closes, and no other
  pub close_slots : slots_of (close p b) ≡ map (close_if p) (slots_of b)
  close_slots =
      ext_get_or closed_slot (slots_of (close p b)) (map (close_if p) (slots_of b)) (slots_count (close p b) ∙ sym (length-map (slots_of b) (close_if p) ∙ slots_count b))
      (λ j h. at j (rw (slots_count (close p b)) at h))
    where
      at : (j : ℕ) → j < slot_count → slot_at (close p b) j ≡ get_or (map (close_if p) (slots_of b)) j closed_slot
      at j h =
          let in_map : j < length (map (close_if p) (slots_of b)) = rw (length-map (slots_of b) (close_if p), slots_count b) h in
          close-below slot_count j h (omega arith)
          ∙ sym (get_d_there (map (close_if p) (slots_of b)) j closed_slot (close_if p closed_slot) in_map ∙ get_or-map (close_if p) (slots_of b) j closed_slot)

-- no slot is in use where all are closed
pub close_all_slots : (b : List ℕ) → length b ≡ sessions_size → slots_of (close_all b) ≡ replicate slot_count closed_slot
unfolding slots_of below
close_all_slots b size = rw size refl
