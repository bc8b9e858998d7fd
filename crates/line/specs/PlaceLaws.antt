-- Laws of places: decoded bytes on the wire.
use Rattle.std.specs.Prelude.{ℕ, suc, ◌+◌, ◌-◌, ◌*◌, ◌≤◌, ◌<◌, ◌≡◌, refl, List, [], ◌∷◌, ◌++◌, Bool, true, false, cond, length, take, drop, get_or, eqb}
use Rattle.std.proofs.Common.{sym, ap, ◌∙◌, add-zero, arith, length-append, take-append-drop, get_or-append-add, length-take-le, eqb-true}
use Rattle.std.proofs.Math.Nat.{sub-zero}
use Rattle.std.proofs.Math.Seq.{take-length, split_at, take-append_seam}
use Rattle.line.specs.Wire.{END, ESC, ESC-END, ESC-ESC, escape}
use Rattle.line.specs.WireLaws.{escape_append, escape_short, escape_more, escape_within}
use Rattle.line.specs.Places.{DecodedPlace, decoded_at, wire_length, on_wire, byte_at, behind}

pub wire_length_append : (a b : List ℕ) → wire_length (a ++ b) ≡ wire_length a + wire_length b
unfolding wire_length
wire_length_append a b = ap length (escape_append a b) ∙ length-append (escape a) (escape b)

-- one byte: C0 and DB take two, all others one
pub wire_length-one : (b : ℕ) → wire_length (b ∷ []) ≡ cond (eqb b END) 2 (cond (eqb b ESC) 2 1)
unfolding wire_length escape
wire_length-one b = go (eqb b END) (eqb b ESC)
  where
    go : (t u : Bool) → length (cond t (ESC ∷ ESC-END ∷ []) (cond u (ESC ∷ ESC-ESC ∷ []) (b ∷ []))) ≡ cond t 2 (cond u 2 1)
    go true u = refl
    go false true = refl
    go false false = refl

-- each byte takes one or two
pub wire_length_least : (h : List ℕ) → length h ≤ wire_length h
unfolding wire_length escape
wire_length_least [] = omega arith
wire_length_least (b ∷ h) = go (eqb b END) (eqb b ESC) (wire_length_least h)
  where
    go : (t u : Bool) → length h ≤ length (escape h)
        → length (b ∷ h) ≤ length (cond t (ESC ∷ ESC-END ∷ escape h) (cond u (ESC ∷ ESC-ESC ∷ escape h) (b ∷ escape h)))
    go true u x = omega arith
    go false true x = omega arith
    go false false x = omega arith

pub wire_length_most : (h : List ℕ) → wire_length h ≤ 2 * length h
unfolding wire_length
wire_length_most h = escape_short h

-- one byte more
pub wire_length_more : (h : List ℕ) (i : ℕ) → i < length h → wire_length (take (i + 1) h) ≡ wire_length (take i h) + wire_length (get_or h i 0 ∷ [])
unfolding wire_length
wire_length_more h i x = ap length (escape_more h i x) ∙ length-append (escape (take i h)) (escape (get_or h i 0 ∷ []))

-- so many bytes from the front and what escaping adds to them, as `escapes` is promised of that part: where they end on the wire
pub wire_length_front : (bs : List ℕ) (n e : ℕ) → n ≤ length bs → length (take (n - 0) (drop 0 bs)) + e ≡ wire_length (take (n - 0) (drop 0 bs)) → n + e ≡ wire_length (take n bs)
wire_length_front bs n e h x =
    let z : n - 0 ≡ n = sub-zero n in
    ap (λ (k : ℕ). k + e) (sym (length-take-le n bs h) ∙ ap (λ (k : ℕ). length (take k bs)) (sym z)) ∙ x ∙ ap (λ (k : ℕ). wire_length (take k bs)) z

-- behind the last byte stands the END
pub byte_at_end : (h : List ℕ) → byte_at h (decoded_at (length h)) ≡ behind h
unfolding byte_at on_wire behind
byte_at_end h = rw (take-length h)

-- a decoded byte stands before the END
pub on_wire_within : (h : List ℕ) (i : ℕ) → i < length h → (on_wire h (decoded_at i)).0 < wire_length h
unfolding on_wire wire_length
on_wire_within h i x = omega (arith, escape_within h i x, wire_length_least (get_or h i 0 ∷ []))

-- no place of the packet lies behind its END
pub on_wire_most : (h : List ℕ) (d : DecodedPlace) → (on_wire h d).0 ≤ wire_length h
unfolding on_wire
on_wire_most h d =
    let e : wire_length (take d.0 h ++ drop d.0 h) ≡ wire_length h = ap wire_length (take-append-drop d.0 h) in
    omega (arith, wire_length_append (take d.0 h) (drop d.0 h))

-- the wire bytes before it are those of the bytes before it
pub on_wire-before : (h : List ℕ) (d : ℕ) → take (on_wire h (decoded_at d)).0 (escape h) ≡ escape (take d h)
unfolding on_wire wire_length
on_wire-before h d =
    ap (λ (l : List ℕ). take (length (escape (take d h))) l) (ap escape (sym (take-append-drop d h)) ∙ escape_append (take d h) (drop d h))
    ∙ take-append_seam (escape (take d h)) (escape (drop d h))

-- the wire byte there is the decoded byte, or its ESC
escape-first : (b : ℕ) (r : List ℕ) → get_or (escape (b ∷ r)) 0 0 ≡ cond (eqb b END) ESC b
unfolding escape
escape-first b r = go (eqb b END) (eqb b ESC) refl
  where
    go : (t u : Bool) → eqb b ESC ≡ u
        → get_or (cond t (ESC ∷ ESC-END ∷ escape r) (cond u (ESC ∷ ESC-ESC ∷ escape r) (b ∷ escape r))) 0 0 ≡ cond t ESC b
    go true u e = refl
    go false true e = sym (eqb-true b ESC e)
    go false false e = refl

pub on_wire_byte : (h : List ℕ) (i : ℕ) → i < length h
    → get_or (escape h) (on_wire h (decoded_at i)).0 0 ≡ cond (eqb (get_or h i 0) END) ESC (get_or h i 0)
unfolding on_wire wire_length
on_wire_byte h i x =
    let a = escape (take i h) in
    let r = get_or h i 0 ∷ drop (suc i) h in
    ap (λ (l : List ℕ). get_or l (length a) 0) (ap escape (split_at h i 0 x) ∙ escape_append (take i h) r)
    ∙ ap (λ (n : ℕ). get_or (a ++ escape r) n 0) (sym (add-zero (length a)))
    ∙ get_or-append-add a (escape r) 0 0
    ∙ escape-first (get_or h i 0) (drop (suc i) h)
