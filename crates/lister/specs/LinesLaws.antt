-- How long the lines of the listing and of the directory are.
use Rattle.std.specs.Prelude.{ℕ, ◌+◌, ◌^◌, ◌≤◌, ◌<◌, ◌≡◌, [], ◌∷◌, true, ◌&&◌, length, leb}
use Rattle.std.proofs.Common.{◌∙◌, arith, length-append, leb-true, lt-ltb}
use Rattle.std.proofs.Math.Bool.{and-eq-true_iff}
use Rattle.line.specs.declared.Places.{Places}
use Rattle.text.specs.Text.{ascii, digit, decimal}
use Rattle.text.specs.Places.{places_word}
use Rattle.text.specs.DecimalLaws.{decimal_few, decimal-below, decimal_short}
use Rattle.text.specs.PlacesLaws.{places_word_short}
use Rattle.lister.specs.Lines.{frame_line, refused_line, is_short, left_line, entry_line, LINE}

pub length-frame_line : (command len : ℕ) → length (frame_line command len) ≡ 17 + length (decimal len)
unfolding frame_line ascii
length-frame_line command len = simp length-append (omega arith)

pub length-refused_line : (number : ℕ) (places : Places) → length (refused_line number places) ≡ 9 + length (decimal number) + length (places_word places)
unfolding refused_line ascii
length-refused_line number places = simp length-append (omega arith)

pub length-left_line : (left : ℕ) → length (left_line left) ≡ 6 + length (decimal left)
unfolding left_line ascii
length-left_line left = simp length-append (omega arith)

pub length-entry_line : (command least greatest : ℕ) → length (entry_line command least greatest) ≡ 7 + length (decimal least) + length (decimal greatest)
unfolding entry_line ascii
length-entry_line command least greatest = simp length-append (omega arith)

pub frame_line_short : (command len : ℕ) → len < 2 ^ 64 → length (frame_line command len) ≤ LINE
frame_line_short command len h = omega (arith, length-frame_line command len, decimal_short len h)

pub refused_line_short : (number : ℕ) (places : Places) → number < 256 → places.wire.0 < 2 ^ 64 → places.decoded.0 < 2 ^ 64
    → length (refused_line number places) ≤ LINE
refused_line_short number places n w d =
    omega (arith, length-refused_line number places, decimal-below 3 number (omega arith) (omega arith), places_word_short places w d)

pub left_line_short : (left : ℕ) → left < 2 ^ 64 → length (left_line left) ≤ LINE
left_line_short left h = omega (arith, length-left_line left, decimal_short left h)

pub entry_line_short : (command least greatest : ℕ) → least < 256 → greatest < 256 → length (entry_line command least greatest) ≤ LINE
entry_line_short command least greatest l g =
    omega (
      arith,
      length-entry_line command least greatest,
      decimal-below 3 least (omega arith) (omega arith),
      decimal-below 3 greatest (omega arith) (omega arith),
    )

-- ---- numbers of one digit

-- they are below ten
pub short_below : (number : ℕ) (places : Places) → is_short number places ≡ true → (number ≤ 9) × (places.wire.0 ≤ 9) × (places.decoded.0 ≤ 9)
short_below number places e =
    let w = places.wire.0 in
    let d = places.decoded.0 in
    let x = (and-eq-true_iff (leb number 9) (leb w 9 && leb d 9)).0 e in
    let y = (and-eq-true_iff (leb w 9) (leb d 9)).0 x.1 in
    (leb-true number 9 x.0, leb-true w 9 y.0, leb-true d 9 y.1)

decimal_digit : (n : ℕ) → n ≤ 9 → decimal n ≡ (48 + n) ∷ []
unfolding digit
decimal_digit n h = let x : n < 10 = omega arith in decimal_few n x ∙ rw (lt-ltb n 10 x)

-- the line of a refusal with such numbers
pub refused_line-digits : (number : ℕ) (places : Places) → is_short number places ≡ true
    → refused_line number places
    ≡ 114 ∷ 101 ∷ 102 ∷ 117 ∷ 115 ∷ 101 ∷ 100 ∷ 32 ∷ (48 + number) ∷ 32 ∷ 97 ∷ 116 ∷ 32 ∷ (48 + places.wire.0) ∷ 32 ∷ (48 + places.decoded.0) ∷ 10 ∷ []
unfolding refused_line places_word ascii
refused_line-digits number places e =
    let (n, w, d) = short_below number places e in
    rw (decimal_digit number n, decimal_digit places.wire.0 w, decimal_digit places.decoded.0 d)
