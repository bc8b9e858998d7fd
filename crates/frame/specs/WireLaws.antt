-- Laws of the wire form.
use Rattle.std.specs.Prelude.{ℕ, ◌+◌, ◌*◌, ◌/◌, ◌%◌, ◌<◌, ◌≤◌, ◌^◌, ◌≡◌, refl, List, [], ◌∷◌, ◌++◌, Result, Ok, Err, Bool, true, false, cond, length, take, drop, ltb}
use Rattle.std.proofs.Common.{sym, ap, ◌∙◌, append_assoc, zero-add, arith, length-append, ltb-false}
use Rattle.line.specs.Wire.{END, escape}
use Rattle.line.specs.WireLaws.{escape_append, escape_short}
use Rattle.frame.specs.Xor.{◌⊕◌, xor_all}
use Rattle.frame.specs.XorLaws.{⊕-assoc, ⊕-zero, zero-⊕, xor_all_append}
use Rattle.frame.specs.Frame.{max_data, head_of, body, framed, wire}
use Rattle.frame.specs.declared.WriteRefusal.{WriteRefusal}
use Rattle.frame.specs.declared.WriteRefusal.TheVariants.{ShortRoom, LongData}
use Rattle.frame.specs.Writer.{told, told_at, room_for_any, short_room, long_data, Writing, up_to, refused, no_fit, Wire, write, write_at, measured, check}

-- ---- the parts

escape-zero : escape (0 ∷ []) ≡ 0 ∷ []
unfolding escape
escape-zero = refl

-- the bytes of a head, in the order in which they are written: the protocol byte goes as it is
pub head_parts : (c n : ℕ) → escape (head_of c n) ≡ (0 ∷ []) ++ escape ((n + 3) ∷ []) ++ escape (c / 256 ∷ []) ++ escape (c % 256 ∷ [])
head_parts c n =
    escape_append (0 ∷ (n + 3) ∷ c / 256 ∷ []) (c % 256 ∷ [])
    ∙ rw (escape_append (0 ∷ (n + 3) ∷ []) (c / 256 ∷ []), escape_append (0 ∷ []) ((n + 3) ∷ []), escape-zero)

pub head-length : (c n : ℕ)
    → length (escape (head_of c n)) ≡ 1 + length (escape ((n + 3) ∷ [])) + length (escape (c / 256 ∷ [])) + length (escape (c % 256 ∷ []))
head-length c n = ap length (head_parts c n) ∙ simp length-append (omega arith)

-- the check byte without the protocol byte, which changes nothing
pub check-bytes : (c : ℕ) (d : List ℕ) → check c d ≡ (((length d + 3) ⊕ (c / 256)) ⊕ (c % 256)) ⊕ xor_all d
unfolding xor_all
check-bytes c d = ap (λ (x : ℕ). x ⊕ xor_all d) (rw (zero-⊕, ⊕-zero, ⊕-assoc))

framed_parts : (c : ℕ) (d : List ℕ) → framed c d ≡ head_of c (length d) ++ d ++ check c d ∷ []
unfolding framed body
framed_parts c d = rw xor_all_append

-- the parts of a wire form, in the order in which they are written
pub wire_parts : (c : ℕ) (d : List ℕ)
    → wire c d ≡ (END ∷ []) ++ escape (head_of c (length d)) ++ escape d ++ escape (check c d ∷ []) ++ END ∷ []
unfolding wire
wire_parts c d = simp (framed_parts, escape_append, append_assoc)

pub wire-length : (c : ℕ) (d : List ℕ)
    → length (wire c d) ≡ length (escape (head_of c (length d))) + length (escape d) + length (escape (check c d ∷ [])) + 2
wire-length c d = ap length (wire_parts c d) ∙ simp length-append (omega arith)

-- each byte of a frame takes two at the most
pub wire_short : (c : ℕ) (d : List ℕ) → length (wire c d) ≤ 2 * length d + 12
wire_short c d =
    omega (arith, wire-length c d, escape_short (head_of c (length d)), escape_short d, escape_short (check c d ∷ []))

-- 512 bytes are room for every frame
pub wire_fits : (c : ℕ) (d : List ℕ) → length d ≤ max_data → length (wire c d) ≤ room_for_any
wire_fits c d h = omega (arith, wire_short c d)

-- ---- what a call writes

-- by the two tests
abbrev by : List ℕ → ℕ → List ℕ → Bool → Bool → Wire
by room c d long short =
    cond long (record { answer = refused long_data; room = room })
    (cond short (record { answer = refused short_room; room = room }) (record { answer = up_to (length (wire c d)); room = wire c d ++ drop (length (wire c d)) room }))

-- writing is refused by document 01's numbers: 10 for data above 250, then 9 for room shorter than the wire form
pub write-refusal : (room : List ℕ) (c : ℕ) (d : List ℕ)
    → (write room c d).answer ≡ cond (ltb 250 (length d)) (refused 10) (cond (ltb (length room) (length (wire c d))) (refused 9) (up_to (length (wire c d))))
unfolding write
write-refusal room c d = go (ltb max_data (length d)) (ltb (length room) (length (wire c d)))
  where
    go : (a b : Bool)
        → (by room c d a b).answer
        ≡ cond a (refused 10) (cond b (refused 9) (up_to (length (wire c d))))
    go true b = refl
    go false true = refl
    go false false = refl

-- a refused write leaves the room as it was lent
pub write_untouched : (room : List ℕ) (c : ℕ) (d : List ℕ) (n : ℕ) → (write room c d).answer ≡ refused n → (write room c d).room ≡ room
unfolding write
write_untouched room c d n = go (ltb max_data (length d)) (ltb (length room) (length (wire c d)))
  where
    go : (a b : Bool)
        → (by room c d a b).answer ≡ refused n
        → (by room c d a b).room ≡ room
    go true b e = refl
    go false true e = refl
    go false false e = let z : ◌≡◌ {A = ℕ} 0 1 = cc in absurd (omega arith)

-- any other writes the wire form of no more than 250 data bytes, and the bytes behind it stay
pub write_done : (room : List ℕ) (c : ℕ) (d : List ℕ) (n : ℕ) → (write room c d).answer ≡ up_to n
    → (length d ≤ max_data) × (n ≡ length (wire c d)) × ((write room c d).room ≡ wire c d ++ drop n room)
unfolding write
write_done room c d n = go (ltb max_data (length d)) (ltb (length room) (length (wire c d))) refl
  where
    go : (a b : Bool) → ltb max_data (length d) ≡ a
        → (by room c d a b).answer ≡ up_to n
        → (length d ≤ max_data) × (n ≡ length (wire c d)) × ((by room c d a b).room ≡ wire c d ++ drop n room)
    go true b q e = let z : ◌≡◌ {A = ℕ} 0 1 = cc in absurd (omega arith)
    go false true q e = let z : ◌≡◌ {A = ℕ} 0 1 = cc in absurd (omega arith)
    go false false q e =
        let k : length (wire c d) ≡ n = cc in
        (ltb-false max_data (length d) q, sym k, ap (λ (i : ℕ). wire c d ++ drop i room) k)

-- a frame that was measured is refused 9 exactly where its length is more than the room's
pub write-measured : (room : List ℕ) (c : ℕ) (d : List ℕ) (n : ℕ) → measured c d ≡ up_to n
    → (write room c d).answer ≡ cond (ltb (length room) n) (refused 9) (up_to n)
unfolding measured
write-measured room c d n e = write-refusal room c d ∙ go (ltb 250 (length d)) e
  where
    go : (a : Bool) → cond a (refused long_data) (up_to (length (wire c d))) ≡ up_to n
        → cond a (refused 10) (cond (ltb (length room) (length (wire c d))) (refused 9) (up_to (length (wire c d)))) ≡ cond (ltb (length room) n) (refused 9) (up_to n)
    go true e = let z : ◌≡◌ {A = ℕ} 0 1 = cc in absurd (omega arith)
    go false e = let k : length (wire c d) ≡ n = cc in rw k

-- what a call that writes nothing answers: a refusal, or that the frame does not fit
abbrev pub Unwritten : Writing → Type 0
Unwritten (up_to n) = ⊥
Unwritten (refused n) = Unit {0}
Unwritten no_fit = Unit {0}

-- at an offset too, the room is then as it was lent
pub place_untouched : (room : List ℕ) (i c : ℕ) (d : List ℕ) → Unwritten (write_at room i c d).answer → (write_at room i c d).room ≡ room
unfolding write_at
place_untouched room i c d = go (ltb max_data (length d)) (ltb (length room) (i + length (wire c d)))
  where
    at : Bool → Bool → Wire
    at long short =
        cond long (record { answer = refused long_data; room = room })
        (cond short (record { answer = no_fit; room = room }) (record { answer = up_to (i + length (wire c d)); room = take i room ++ wire c d ++ drop (i + length (wire c d)) room }))

    go : (a b : Bool) → Unwritten (at a b).answer → (at a b).room ≡ room
    go true b u = refl
    go false true u = refl
    go false false u = absurd u

-- a frame that does not fit, by the number that it has at the front
abbrev pub numbered : Writing → Writing
numbered (up_to n) = up_to n
numbered (refused n) = refused n
numbered no_fit = refused short_room

-- writing is writing from the place 0 on, with that number
pub write-placed : (room : List ℕ) (c : ℕ) (d : List ℕ) → write room c d ≡ record { answer = numbered (write_at room 0 c d).answer; room = (write_at room 0 c d).room }
unfolding write write_at
write-placed room c d = rw zero-add (go (ltb max_data (length d)) (ltb (length room) (length (wire c d))))
  where
    at : Bool → Bool → Wire
    at long short =
        cond long (record { answer = refused long_data; room = room })
        (cond short (record { answer = no_fit; room = room }) (record { answer = up_to (length (wire c d)); room = wire c d ++ drop (length (wire c d)) room }))

    go : (a b : Bool) → by room c d a b ≡ record { answer = numbered (at a b).answer; room = (at a b).room }
    go true b = refl
    go false true = refl
    go false false = refl

-- the code's answers tell the same, but for that number
pub told-numbered : (r : Result ℕ WriteRefusal) → told r ≡ numbered (told_at r)
told-numbered (Ok n) = refl
told-numbered (Err ShortRoom) = refl
told-numbered (Err LongData) = refl

-- a command's high byte is below 256
pub high_byte : (c : ℕ) → c < 2 ^ 16 → c / 256 % 256 ≡ c / 256
high_byte c h = omega arith
