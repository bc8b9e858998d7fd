-- Laws of a packet's places: each lies in its packet, and in the piece that gave it.
use Rattle.std.specs.Prelude.{ℕ, ◌-◌, ◌≤◌, ◌≡◌, refl, List, Bool, true, false, length, take, get_or, leb, eqb}
use Rattle.std.proofs.Common.{sym, ap, subst, arith, length-take-le, leb-true, leb-false}
use Rattle.line.specs.PlaceLaws.{on_wire_most}
use Rattle.line.specs.Reader as line
use Rattle.line.specs.Reader.{limit, plain}
use Rattle.line.specs.Pieces.{decode, NoEnd}
use Rattle.line.proofs.PieceLaws.{byte_in_piece}
use Rattle.line.specs.PieceLaws.{end_in_piece}
use Rattle.frame.specs.Xor.{xor_all}
use Rattle.line.specs.declared.WirePlace.{WirePlace}
use Rattle.line.specs.declared.Places.{Places}
use Rattle.frame.specs.Frame.{wire_at, decoded_at, wire_length, on_wire, byte_at, behind, escape, Refusal, Outcome, frame, refused, around, claimed, too_long, too_short, wrong_protocol, below_length, beyond_length, wrong_check, pass, judge}
use Rattle.frame.specs.Places.{Within, byte, end, InPiece, byte_there, end_there}

abbrev Told : List ℕ → Outcome → Type 0
Told h (frame c d) = Unit {0}
Told h (refused n) = Within h n.at

pass-told : (h : List ℕ) (t : Bool) (n : Refusal) (o : Outcome) → (t ≡ false → Within h n.at) → (t ≡ true → Told h o) → Told h (pass t n o)
pass-told h true n o x y = y refl
pass-told h false n o x y = x refl

judge-told : (h : List ℕ) → Told h (judge h)
unfolding judge too_long too_short wrong_protocol below_length beyond_length wrong_check
judge-told h =
    pass-told h (leb (length h) limit) (too_long h) _ (λ e. byte limit (leb-false (length h) limit e))
    (λ a. pass-told h (leb around (length h)) (too_short h) _ (λ e. end)
    (λ b. pass-told h (eqb (get_or h 0 0) 0) (wrong_protocol h) _ (λ e. byte 0 (omega (arith, leb-true around (length h) b)))
    (λ c. pass-told h (leb (claimed h) (length h)) (below_length h) _ (λ e. end)
    (λ d. pass-told h (leb (length h) (claimed h)) (beyond_length h) _ (λ e. byte (claimed h) (leb-false (length h) (claimed h) e))
    (λ f. pass-told h (eqb (get_or h (length h - 1) 0) (xor_all (take (length h - 1) h))) (wrong_check h) _
    (λ e. byte (length h - 1) (omega (arith, leb-true around (length h) b)))
    (λ g. tt))))))

-- a refusal tells the places of a byte of the packet, or of its END
pub judge_within : (h : List ℕ) (n : Refusal) → judge h ≡ refused n → Within h n.at
judge_within h n e = rw e at (judge-told h)

-- a byte's wire place lies before the END's, and the decoded place before the count
pub within_packet : (h : List ℕ) (q : Places) → Within h q → (q.wire.0 ≤ wire_length h) × (q.decoded.0 ≤ length h)
unfolding byte_at behind
within_packet h q (byte d x) = (on_wire_most h (decoded_at d), omega arith)
within_packet h q end = (omega arith, omega arith)

-- read from the wire, it is a place in the piece that gave the packet
pub within_piece : (p h : List ℕ) (q : Places) → NoEnd p → decode p ≡ plain h → Within h q → InPiece p h q
unfolding byte_at behind
within_piece p h q n e (byte d x) = let y = byte_in_piece p h d n e x in byte_there (on_wire h (decoded_at d)).0 d x y.0 y.1
within_piece p h q n e end =
    let x : ◌≡◌ {A = Places} (record { wire = wire_at (length p); decoded = decoded_at (length h) }) (behind h) =
    ap {B = Places} (λ (w : WirePlace). record { wire = w; decoded = decoded_at (length h) }) (sym (end_in_piece p h n e)) in
    subst (InPiece p h) x end_there

-- the protocol byte stands first
pub wrong_protocol-first : (h : List ℕ) → (wrong_protocol h).at ≡ record { wire = wire_at 0; decoded = decoded_at 0 }
unfolding wrong_protocol byte_at on_wire wire_length escape
wrong_protocol-first h = refl

-- more than 255 bytes break where the line reader would have settled them
pub too_long_line : (h : List ℕ) → limit ≤ length h → (too_long h).at ≡ (line.too_long (take limit h)).at
unfolding too_long line.too_long byte_at on_wire behind
too_long_line h x = rw (length-take-le limit h x)

-- so a refusal that a packet meets is told at a place of its piece
pub refused_in_piece : (p h : List ℕ) (n : Refusal) → NoEnd p → decode p ≡ plain h → judge h ≡ refused n → InPiece p h n.at
refused_in_piece p h n x e j = within_piece p h n.at x e (judge_within h n j)
