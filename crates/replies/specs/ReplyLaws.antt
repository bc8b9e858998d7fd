-- Laws of replies: how long they are, what writing one leaves, and how the frame layer's writers come to it.
use Rattle.std.specs.Prelude.{ℕ, ◌+◌, ◌≤◌, ◌<◌, ◌≡◌, refl, List, [], ◌∷◌, ◌++◌, Bool, true, false, cond, ◌&&◌, Some, None, Err, is_some, take, drop, ltb, eqb}
use Rattle.std.proofs.Common.{sym, ap, ◌∙◌, append-nil, append_assoc, length-append, drop_at}
use Rattle.std.proofs.Math.Nat.{zero-add}
use native.Mathlib.Omega.{arith}
use Rattle.std.proofs.Math.ListN.{length, length-drop}
use Rattle.std.proofs.Math.Seq.{length-take-le}
use borrow.Author.Tests.{lt-ltb, le-ltb, ltb-true, ltb-false, eq-eqb, eqb-true}
use Rattle.frame.specs.Frame.{wire, max_data}
use Rattle.frame.specs.declared.WriteRefusal.{WriteRefusal}
use Rattle.frame.specs.declared.WriteRefusal.TheVariants.{ShortRoom, LongData}
use Rattle.frame.specs.Writer.{short_room, long_data, Writing, up_to, refused, no_fit, told, Wire, write, write_at, measured, Writes}
use Rattle.frame.specs.WireLaws.{numbered}
use Rattle.nodes.specs.Table.{accepted, invalid_node, table_size, information_of, information, information_size, in_use, is_told, informed}
use Rattle.nodes.specs.TableLaws.{information-length, used-below}
use Rattle.replies.specs.Messages.{Message, information_confirmed, node_information, data_of, wire_of, bytes_of, about_node}
use Rattle.replies.specs.Replies.{write_all, is_written}

-- ---- bytes of replies

-- a reply of one message is that message
pub bytes_of_one : (m : Message) → bytes_of (m ∷ []) ≡ wire_of m
unfolding bytes_of
bytes_of_one m = append-nil (wire_of m)

pub bytes_of_two : (m n : Message) → bytes_of (m ∷ n ∷ []) ≡ wire_of m ++ wire_of n
unfolding bytes_of
bytes_of_two m n = simp append-nil

-- replies one behind another
pub bytes_of_append : (a b : List Message) → bytes_of (a ++ b) ≡ bytes_of a ++ bytes_of b
unfolding bytes_of
bytes_of_append [] b = refl
bytes_of_append (m ∷ a) b = rw (bytes_of_append a b, append_assoc)

-- one message more in front
pub bytes_of_length : (m : Message) (ms : List Message) → length (bytes_of (m ∷ ms)) ≡ length (wire_of m) + length (bytes_of ms)
unfolding bytes_of
bytes_of_length m ms = length-append (wire_of m) (bytes_of ms)

-- frame 0201 alone, or 0210 behind it
pub about_node-none : (t : List ℕ) (n : ℕ) → is_told t n ≡ false → bytes_of (about_node t n) ≡ wire 0x0201 (invalid_node ∷ n ∷ [])
unfolding about_node
about_node-none t n e = rw e (bytes_of_one _)

pub about_node-told : (t : List ℕ) (n : ℕ) → is_told t n ≡ true → bytes_of (about_node t n) ≡ wire 0x0201 (accepted ∷ n ∷ []) ++ wire 0x0210 (information t n)
unfolding about_node information
about_node-told t n e = rw e (bytes_of_two _ _)

-- with a table of the right length, by the node's use alone
pub about_node_rule : (t : List ℕ) (n : ℕ) → length t ≡ table_size
    → about_node t n ≡ cond (in_use t n) (information_confirmed accepted n ∷ node_information (information_of t n) ∷ []) (information_confirmed invalid_node n ∷ [])
unfolding about_node
about_node_rule t n e = rw (eq-eqb (length t) table_size e)

-- ---- lengths

-- what is told of a node is all its information
pub told-length : (t : List ℕ) (n : ℕ) → is_told t n ≡ true → length (information t n) ≡ information_size
told-length t n e = go (eqb (length t) table_size) (in_use t n) refl refl e
  where
    go : (a b : Bool) → eqb (length t) table_size ≡ a → in_use t n ≡ b → a && b ≡ true → length (information t n) ≡ information_size
    go true true p q e = information-length t n (eqb-true _ _ p) (used-below t n q)
    go true false p q e = let z : ◌≡◌ {A = ℕ} 0 1 = cc in absurd (omega arith)
    go false b p q e = let z : ◌≡◌ {A = ℕ} 0 1 = cc in absurd (omega arith)

-- whether it is, and its information, are what the node table tells
pub known_told : (t : List ℕ) (n : ℕ) → is_some (informed t n) ≡ is_told t n
unfolding informed
known_told t n = go (is_told t n)
  where
    go : (b : Bool) → is_some (cond b (Some (information t n)) None) ≡ b
    go true = refl
    go false = refl

pub told-bytes : (t : List ℕ) (n : ℕ) → is_told t n ≡ true → informed t n ≡ Some (information t n)
unfolding informed
told-bytes t n e = rw e

-- the data of every message fit a frame
abbrev pub Fit : List Message → Type 0
Fit [] = Unit {0}
Fit (m ∷ ms) = (length (data_of m) ≤ max_data) × Fit ms

pub about_node_fit : (t : List ℕ) (n : ℕ) → Fit (about_node t n)
unfolding about_node information
about_node_fit t n = go (is_told t n) refl
  where
    go : (b : Bool) → is_told t n ≡ b
        → Fit (cond b (information_confirmed accepted n ∷ node_information (information_of t n) ∷ []) (information_confirmed invalid_node n ∷ []))
    go true e = (omega arith, (omega (arith, told-length t n e), tt))
    go false e = (omega arith, tt)

-- ---- writing

-- refusal 9 exactly if the bytes are longer than the room
pub write_all_short : (room bytes : List ℕ) → length room < length bytes → write_all room bytes ≡ record { answer = refused short_room; room = room }
unfolding write_all
write_all_short room bytes h = rw (lt-ltb _ _ h)

pub write_all_fits : (room bytes : List ℕ) → length bytes ≤ length room → write_all room bytes ≡ record { answer = up_to (length bytes); room = bytes ++ drop (length bytes) room }
unfolding write_all
write_all_fits room bytes h = rw (le-ltb _ _ h)

-- nothing is never refused
pub nothing_fits : (room : List ℕ) → write_all room (bytes_of []) ≡ record { answer = up_to 0; room = room }
unfolding bytes_of
nothing_fits room = write_all_fits room [] (omega arith)

-- what is written, by the test
abbrev by : List ℕ → List ℕ → Bool → Wire
by room bytes short =
    cond short (record { answer = refused short_room; room = room })
    (record { answer = up_to (length bytes); room = bytes ++ drop (length bytes) room })

-- a reply that is told is written whole, and the room behind it stays
pub write_all_done : (room bytes : List ℕ) (n : ℕ) → (write_all room bytes).answer ≡ up_to n
    → (n ≡ length bytes) × (length bytes ≤ length room) × ((write_all room bytes).room ≡ bytes ++ drop n room)
unfolding write_all
write_all_done room bytes n = go (ltb (length room) (length bytes)) refl
  where
    go : (b : Bool) → ltb (length room) (length bytes) ≡ b → (by room bytes b).answer ≡ up_to n
        → (n ≡ length bytes) × (length bytes ≤ length room) × ((by room bytes b).room ≡ bytes ++ drop n room)
    go true q e = let z : ◌≡◌ {A = ℕ} 0 1 = cc in absurd (omega arith)
    go false q e =
        let k : length bytes ≡ n = cc in
        (sym k, ltb-false _ _ q, ap (λ (i : ℕ). bytes ++ drop i room) k)

-- a refusal is 9, of a reply longer than the room, which stays as it was lent
pub write_all_refused : (room bytes : List ℕ) (n : ℕ) → (write_all room bytes).answer ≡ refused n
    → (n ≡ 9) × (length room < length bytes) × ((write_all room bytes).room ≡ room)
unfolding write_all
write_all_refused room bytes n = go (ltb (length room) (length bytes)) refl
  where
    go : (b : Bool) → ltb (length room) (length bytes) ≡ b → (by room bytes b).answer ≡ refused n
        → (n ≡ 9) × (length room < length bytes) × ((by room bytes b).room ≡ room)
    go true q e = let k : short_room ≡ n = cc in (sym k, ltb-true _ _ q, refl)
    go false q e = let z : ◌≡◌ {A = ℕ} 0 1 = cc in absurd (omega arith)

-- so is each refusal of the code
pub write_all_err : (room bytes : List ℕ) (e : WriteRefusal) → (write_all room bytes).answer ≡ told (Err e)
    → (length room < length bytes) × ((write_all room bytes).room ≡ room)
write_all_err room bytes ShortRoom p = let x = write_all_refused room bytes short_room p in (x.1, x.2)
write_all_err room bytes LongData p = let x = write_all_refused room bytes long_data p in absurd (omega (arith, x.0))

-- the room keeps its length
pub write_all_length : (room bytes : List ℕ) → length (write_all room bytes).room ≡ length room
unfolding write_all
write_all_length room bytes = go (ltb (length room) (length bytes)) refl
  where
    go : (b : Bool) → ltb (length room) (length bytes) ≡ b → length (by room bytes b).room ≡ length room
    go true q = refl
    go false q = let h : length bytes ≤ length room = ltb-false _ _ q in rw (length-append, length-drop) (omega arith)

-- ---- frames of no more than 250 data bytes

module _ (c : ℕ) (d : List ℕ) (fits : length d ≤ max_data) where
  -- one at the front
  pub write_all_lem : (room : List ℕ) → write room c d ≡ write_all room (wire c d)
  unfolding write write_all
  write_all_lem room = rw (le-ltb _ _ fits)

  pub one_written : (room : List ℕ) (r : Writing) (left : List ℕ) → Writes (write room c d) r left → Writes (write_all room (wire c d)) r left
  one_written room r left w = rw (write_all_lem room) at w

  -- its length is measured
  measured_fits : measured c d ≡ up_to (length (wire c d))
  unfolding measured
  measured_fits = rw (le-ltb _ _ fits)

  pub measured-length : (n : ℕ) → up_to n ≡ measured c d → n ≡ length (wire c d)
  measured-length n e = cc measured_fits

  pub measured_refused : (n : ℕ) → refused n ≡ measured c d → ⊥
  measured_refused n e = let z : ◌≡◌ {A = ℕ} 0 1 = cc measured_fits in omega arith

-- two frames, the second written first

module _ (room : List ℕ) (c : ℕ) (d : List ℕ) (next : ℕ) (behind : List ℕ) (fits : length d ≤ max_data) (fits_behind : length behind ≤ max_data) where
  abbrev x : List ℕ
  x = wire c d

  abbrev y : List ℕ
  y = wire next behind

  -- the second, behind the place of the first
  abbrev second : Wire
  second = write_at room (length x) next behind

  abbrev laid : List ℕ
  laid = take (length x) room ++ y ++ drop (length x + length y) room

  abbrev placed : Bool → Wire
  placed short = cond short (record { answer = no_fit; room = room }) (record { answer = up_to (length x + length y); room = laid })

  second-placed : second ≡ placed (ltb (length room) (length x + length y))
  unfolding write_at
  second-placed = rw (le-ltb _ _ fits_behind)

  laid-behind : length x ≤ length room → drop (length x) laid ≡ y ++ drop (length x + length y) room
  laid-behind h = rw append_assoc (drop_at (take (length x) room) _ (length x) (length-take-le (length x) room h))

  -- the first, in front of it
  first-placed : length x + length y ≤ length room → (write_at laid 0 c d).room ≡ (x ++ y) ++ drop (length x + length y) room
  unfolding write_at
  first-placed h =
      let k : length x ≤ length room = omega arith in
      let l : length laid ≡ length room = simp (length-append, length-drop, length-take-le (length x) room k) (omega arith) in
      rw (le-ltb _ _ fits, zero-add, le-ltb (length laid) (length x) (omega arith), laid-behind k) (sym (append_assoc x y _))

  front-fits : length x + length y ≤ length room → is_written (write_at laid 0 c d).answer ≡ true
  unfolding write_at
  front-fits h =
      let k : length x ≤ length room = omega arith in
      let l : length laid ≡ length room = simp (length-append, length-drop, length-take-le (length x) room k) (omega arith) in
      rw (le-ltb _ _ fits, zero-add, le-ltb (length laid) (length x) (omega arith)) refl

  -- where the second does not fit, the reply is refused, and nothing is written
  both_short : is_written second.answer ≡ false → write_all room (x ++ y) ≡ record { answer = numbered second.answer; room = second.room }
  both_short = go (ltb (length room) (length x + length y)) refl second-placed
    where
      go : (b : Bool) → ltb (length room) (length x + length y) ≡ b → second ≡ placed b → is_written second.answer ≡ false
          → write_all room (x ++ y) ≡ record { answer = numbered second.answer; room = second.room }
      go true q s e = rw s (write_all_short room (x ++ y) (rw length-append (ltb-true _ _ q)))
      go false q s e = let z : true ≡ false = rw s at e in let w : ◌≡◌ {A = ℕ} 0 1 = cc in absurd (omega arith)

  -- where it does, the first one completes it
  both-done : is_written second.answer ≡ true → write_all room (x ++ y) ≡ record { answer = numbered second.answer; room = (write_at second.room 0 c d).room }
  both-done = go (ltb (length room) (length x + length y)) refl second-placed
    where
      go : (b : Bool) → ltb (length room) (length x + length y) ≡ b → second ≡ placed b → is_written second.answer ≡ true
          → write_all room (x ++ y) ≡ record { answer = numbered second.answer; room = (write_at second.room 0 c d).room }
      go true q s e = let z : false ≡ true = rw s at e in let w : ◌≡◌ {A = ℕ} 0 1 = cc in absurd (omega arith)
      go false q s e =
          let h : length x + length y ≤ length room = ltb-false _ _ q in
          rw (s, first-placed h, ← length-append x y) (write_all_fits room (x ++ y) (rw length-append h))

  -- and the first one fits in front of it
  first-fits : is_written second.answer ≡ true → is_written (write_at second.room 0 c d).answer ≡ true
  first-fits = go (ltb (length room) (length x + length y)) refl second-placed
    where
      go : (b : Bool) → ltb (length room) (length x + length y) ≡ b → second ≡ placed b → is_written second.answer ≡ true → is_written (write_at second.room 0 c d).answer ≡ true
      go true q s e = let z : false ≡ true = rw s at e in let w : ◌≡◌ {A = ℕ} 0 1 = cc in absurd (omega arith)
      go false q s e = rw s (front-fits (ltb-false _ _ q))

  -- in the answers' words: the second's is the reply's
  module _ (n : ℕ) (long : up_to n ≡ measured c d) (r a : Writing) (told : a ≡ numbered r) where
    pub both_refused : (left : List ℕ) → Writes (write_at room n next behind) r left → is_written r ≡ false → Writes (write_all room (x ++ y)) a left
    both_refused left w e =
        let v = rw (measured-length c d fits n long) at w in
        rw (both_short (rw v.answer at e)) (record { answer = told ∙ ap numbered v.answer; room = v.room })

    pub both-written : (mid left : List ℕ) (first : Writing) → Writes (write_at room n next behind) r mid → is_written r ≡ true → Writes (write_at mid 0 c d) first left
        → Writes (write_all room (x ++ y)) a left
    both-written mid left first w e again =
        let v = rw (measured-length c d fits n long) at w in
        rw (both-done (rw v.answer at e)) (record { answer = told ∙ ap numbered v.answer; room = rw v.room at again.room })

    -- and the first one is not refused
    pub first-written : (mid left : List ℕ) (first : Writing) → Writes (write_at room n next behind) r mid → is_written r ≡ true → Writes (write_at mid 0 c d) first left
        → is_written first ≡ true
    first-written mid left first w e again =
        let v = rw (measured-length c d fits n long) at w in
        rw again.answer (rw v.room (first-fits (rw v.answer at e)))
