-- Laws of the checks on a packet: what they accept, and what a frame is made of.
use Rattle.std.specs.Prelude.{ℕ, zero, suc, ◌+◌, ◌-◌, ◌/◌, ◌%◌, ◌≤◌, ◌<◌, ◌≡◌, refl, List, [], ◌∷◌, ◌++◌, Bool, true, false, length, take, get_or, leb, eqb}
use Rattle.std.proofs.Common.{sym, ap, ap₂, ◌∙◌, arith, div-add-mod', length-append, length-take, length-drop, take-suc, take_all, take_at, eqb-true, leb-true, le-leb, eq-eqb}
use Rattle.std.proofs.Math.Arith.{digits_div, digits_mod}
use Rattle.line.specs.Reader.{limit}
use Rattle.line.specs.Pieces.{Bytes}
use Rattle.frame.specs.Accepted.{Accepted}
use Rattle.frame.specs.Xor.{xor_all}
use Rattle.frame.specs.XorLaws.{⊕-self, ⊕-cancel, xor_all_snoc}
use Rattle.frame.specs.Frame.{Refusal, Numbered, low, longer, Outcome, frame, refused, max_data, around, body, framed, too_long, too_short, wrong_protocol, claimed, below_length, beyond_length, wrong_check, command_of, data_of, pass, judge}

-- ---- what is accepted

-- a refusal is no frame
not_refused : {n : Refusal} {c : ℕ} {d : List ℕ} → refused n ≡ frame c d → ⊥
not_refused e = let z : ◌≡◌ {A = ℕ} 0 1 = cc in omega arith

-- a frame is given behind a check only where it was passed
passed : (t : Bool) (n : Refusal) {c : ℕ} {d : List ℕ} {o : Outcome} → pass t n o ≡ frame c d → (t ≡ true) × (o ≡ frame c d)
passed true n e = (refl, e)
passed false n e = absurd (not_refused e)

-- a list of m + 1 numbers is its first m and the last
snoc : (h : List ℕ) (m : ℕ) → suc m ≡ length h → h ≡ take m h ++ get_or h m 0 ∷ []
snoc h m l = sym (take_all (suc m) h (omega arith)) ∙ take-suc h m 0 (omega arith)

-- with the check byte behind it, a list's exclusive or is 0
check-zero : (a : List ℕ) (v : ℕ) → v ≡ xor_all a → xor_all (a ++ v ∷ []) ≡ 0
check-zero a v e = xor_all_snoc a v ∙ rw e (⊕-self (xor_all a))

-- and with no other byte
zero-check : (a : List ℕ) (v : ℕ) → xor_all (a ++ v ∷ []) ≡ 0 → v ≡ xor_all a
zero-check a v e = ⊕-cancel (xor_all a) (sym (xor_all_snoc a v) ∙ e ∙ sym (⊕-self (xor_all a)))

-- all checks were passed, and the frame is the one of the command and data in their places
passes : {h : List ℕ} {c : ℕ} {d : List ℕ} → judge h ≡ frame c d → Accepted h × (frame (command_of h) (data_of h) ≡ frame c d)
unfolding judge
passes {h} e =
    let m : ℕ = length h - 1 in
    let a = passed (leb (length h) limit) (too_long h) e in
    let b = passed (leb around (length h)) (too_short h) a.1 in
    let p = passed (eqb (get_or h 0 0) 0) (wrong_protocol h) b.1 in
    let q = passed (leb (claimed h) (length h)) (below_length h) p.1 in
    let l = passed (leb (length h) (claimed h)) (beyond_length h) q.1 in
    let r = passed (eqb (get_or h m 0) (xor_all (take m h))) (wrong_check h) l.1 in
    let n : around ≤ length h = leb-true around (length h) b.0 in (
      record {
        at_most = leb-true (length h) limit a.0;
        at_least = n;
        protocol = eqb-true (get_or h 0 0) 0 p.0;
        count = omega (arith, leb-true (claimed h) (length h) q.0, leb-true (length h) (claimed h) l.0);
        check = ap xor_all (snoc h m (omega arith)) ∙ check-zero (take m h) (get_or h m 0) (eqb-true (get_or h m 0) (xor_all (take m h)) r.0);
      },
      r.1,
    )

-- a packet that is read as a frame passes every check
pub judge-accepted : {h : List ℕ} {c : ℕ} {d : List ℕ} → judge h ≡ frame c d → Accepted h
judge-accepted e = (passes e).0

-- its command and data stand in their places
pub judge-frame : (h : List ℕ) {c : ℕ} {d : List ℕ} → judge h ≡ frame c d → (c ≡ command_of h) × (d ≡ data_of h)
judge-frame h e = let z = (passes {h = h} e).1 in ((cc), (cc))

-- a packet that passes every check is read as the frame of its command and data
pub accepted-judge : (h : List ℕ) → Accepted h → judge h ≡ frame (command_of h) (data_of h)
unfolding judge
accepted-judge h a =
    let m : ℕ = length h - 1 in
    let e : get_or h m 0 ≡ xor_all (take m h) = zero-check (take m h) (get_or h m 0) (ap xor_all (sym (snoc h m (omega arith))) ∙ a.check) in
    let s = le-leb (length h) limit a.at_most in
    let t = le-leb around (length h) a.at_least in
    let p = eq-eqb (get_or h 0 0) 0 a.protocol in
    let q = le-leb (claimed h) (length h) (omega (arith, a.count)) in
    let l = le-leb (length h) (claimed h) (omega (arith, a.count)) in
    let r = eq-eqb (get_or h m 0) (xor_all (take m h)) e in
    rw (s, t, p, q, l, r)

-- a frame that is read has no more than 250 bytes of data
pub accepted_data : (h : List ℕ) {c : ℕ} {d : List ℕ} → judge h ≡ frame c d → length d ≤ max_data
accepted_data h e = rw (judge-frame h e).1 (simp (length-take, length-drop) (omega (arith, judge-accepted {h = h} e)))

-- ---- what is refused

-- a refusal has a packet refusal's number
abbrev NumberedOutcome : Outcome → Type 0
NumberedOutcome (frame c d) = Unit {0}
NumberedOutcome (refused n) = Numbered n.number

-- so it is behind a check
pass-numbered : (t : Bool) (n : Refusal) (o : Outcome) → Numbered n.number → NumberedOutcome o → NumberedOutcome (pass t n o)
pass-numbered true n o p q = q
pass-numbered false n o p q = p

-- each check's refusal has its number
judge-numbered : (h : List ℕ) → NumberedOutcome (judge h)
unfolding judge too_long too_short wrong_protocol below_length beyond_length wrong_check
judge-numbered h =
    pass-numbered (leb (length h) limit) _ _ (low (omega arith) (omega arith))
    (pass-numbered (leb around (length h)) _ _ (low (omega arith) (omega arith))
    (pass-numbered (eqb (get_or h 0 0) 0) _ _ (low (omega arith) (omega arith))
    (pass-numbered (leb (claimed h) (length h)) _ _ (low (omega arith) (omega arith))
    (pass-numbered (leb (length h) (claimed h)) _ _ longer
    (pass-numbered (eqb (get_or h (length h - 1) 0) (xor_all (take (length h - 1) h))) _ _ (low (omega arith) (omega arith)) tt)))))

pub refused_number : (h : List ℕ) (n : Refusal) → judge h ≡ refused n → Numbered n.number
refused_number h n e = rw e at (judge-numbered h)

-- which is not 0
pub numbered-some : (n : ℕ) → Numbered n → n ≡ 0 → ⊥
numbered-some n (low x y) e = omega arith
numbered-some n longer e = omega arith

-- ---- what a sender makes

-- a frame has five bytes around its data
pub framed-length : (c : ℕ) (d : List ℕ) → length (framed c d) ≡ length d + around
unfolding framed body
framed-length c d = omega (arith, length-append d (xor_all (body c d) ∷ []))

-- the checks accept it, and read its command and data
pub framed-accepted : (c : ℕ) (d : List ℕ) → length d ≤ max_data → judge (framed c d) ≡ frame c d
unfolding framed body
framed-accepted c d h =
    let n : length (framed c d) ≡ length d + around = framed-length c d in
    let a : Accepted (framed c d) = record {
      at_most = omega arith;
      at_least = omega arith;
      protocol = refl;
      count = omega arith;
      check = check-zero (body c d) (xor_all (body c d)) refl;
    } in
    accepted-judge (framed c d) a
    ∙ ap₂ frame (div-add-mod' c 256) (take_at d (xor_all (body c d) ∷ []) (length (framed c d) - around) (omega arith))

-- ---- only one frame has a given command and data

-- a packet's head, data and check byte
data Parts : List ℕ → Type 0 where
  parts : (a l x y : ℕ) (d : List ℕ) (v : ℕ) → Parts (a ∷ l ∷ x ∷ y ∷ (d ++ v ∷ []))

-- five bytes or more have them
parts_of : (h : List ℕ) → around ≤ length h → Parts h
parts_of [] n = absurd (omega arith)
parts_of (a ∷ []) n = absurd (omega arith)
parts_of (a ∷ l ∷ []) n = absurd (omega arith)
parts_of (a ∷ l ∷ x ∷ []) n = absurd (omega arith)
parts_of (a ∷ l ∷ x ∷ y ∷ r) n =
    rw (snoc r (length r - 1) (omega arith)) (parts a l x y (take (length r - 1) r) (get_or r (length r - 1) 0))

-- the parts that the checks accept are those of the frame
framed_parts : {h : List ℕ} → Parts h → Accepted h → get_or h 3 0 < 256 → framed (command_of h) (data_of h) ≡ h
unfolding framed body
framed_parts (parts a l x y d v) g b =
    let h : List ℕ = a ∷ l ∷ x ∷ y ∷ (d ++ v ∷ []) in
    let n : length (d ++ v ∷ []) ≡ length d + 1 = length-append d (v ∷ []) in
    let t : data_of h ≡ d = take_at d (v ∷ []) (length h - around) (omega arith) in
    let p : 0 ≡ a = sym g.protocol in
    let q : length d + 3 ≡ l = omega (arith, g.count) in
    let hi : command_of h / 256 ≡ x = digits_div x b in
    let lo : command_of h % 256 ≡ y = digits_mod x b in
    let k : v ≡ xor_all (a ∷ l ∷ x ∷ y ∷ d) = zero-check (a ∷ l ∷ x ∷ y ∷ d) v g.check in
    let s : body (command_of h) (data_of h) ≡ a ∷ l ∷ x ∷ y ∷ d = cc in
    cc

-- each number of a list of bytes is a byte
bytes-at : (l : List ℕ) (i : ℕ) → Bytes l → get_or l i 0 < 256
bytes-at [] i x = omega arith
bytes-at (b ∷ l) zero x = x.0
bytes-at (b ∷ l) (suc i) x = bytes-at l i x.1

-- a packet that is accepted is the frame made of its command and data, where the command's low byte is one
pub framed_back : (h : List ℕ) {c : ℕ} {d : List ℕ} → judge h ≡ frame c d → get_or h 3 0 < 256 → framed c d ≡ h
framed_back h e b =
    let a = judge-accepted {h = h} e in
    let j = judge-frame h e in
    ap₂ framed j.0 j.1 ∙ framed_parts (parts_of h a.at_least) a b

-- so is one of bytes
pub framed_again : (h : List ℕ) {c : ℕ} {d : List ℕ} → judge h ≡ frame c d → Bytes h → framed c d ≡ h
framed_again h e b = framed_back h e (bytes-at h 3 b)
