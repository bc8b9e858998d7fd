use Rattle.std.proofs.Common.{ℕ, ◌+◌, ◌≤◌, ◌<◌, ◌≡◌, sym, ◌∙◌, refl, List, ◌++◌, Bool, true, false, length, leb, arith, length-append, leb-true, leb-false}
use Rattle.memory.specs.WroteLaws.{kept}
use Rattle.text.specs.Text.{decimal}
use Rattle.text.specs.AppendedLaws.{leaves-whole, leaves_wrote, leaves_none, fitting-first, fitting_then}
use Rattle.text.specs.DecimalLaws.{decimal-some}
use Rattle.text.specs.Bytes.{bytes_word, word_length}
use Rattle.text.specs.BytesLaws.{length-bytes_word}
use Rattle.text.proofs.page.Page.bytes_line.Goals as goal

-- what the test says
test_left : (n m : ℕ) (t : Bool) → t ≡ leb n m → t ≡ true → n ≤ m
test_left n m t e h = leb-true n m (sym e ∙ h)

test_taken : (n m : ℕ) (t : Bool) → t ≡ leb n m → t ≡ false → m < n
test_taken n m t e h = leb-false n m (sym e ∙ h)

-- how long the line is
length_line : (before : List ℕ) (number : ℕ) (behind bytes end : List ℕ) → length (before ++ decimal number ++ behind ++ bytes_word bytes ++ end) ≡ length before + length (decimal number) + length behind + word_length (length bytes) + length end
length_line before number behind bytes end = simp (length-append, length-bytes_word)

pub returns-then-not-fits : goal.returns-then-not-fits
returns-then-not-fits c =
    let a = c.args in
    let h = test_taken _ _ _ c.fits.ensures c.if-not-fits.true in
    record {
      same = refl;
      leaves = leaves_none _ _ (a.before.now ++ decimal a.number ++ a.behind.now ++ bytes_word a.bytes.now ++ a.end.now)
          (omega (arith, h, length_line a.before.now a.number a.behind.now a.bytes.now a.end.now, c.left-left.ensures, c.width.ensures, decimal-some a.number));
    }

pub put_bytes-requires : goal.put_bytes-requires
put_bytes-requires c =
    let a = c.args in
    let h = test_left _ _ _ c.fits.ensures c.if-not-fits.false in
    let head : List ℕ = a.before.now ++ decimal a.number ++ a.behind.now in
    let length_head : length head ≡ length a.before.now + length (decimal a.number) + length a.behind.now = simp length-append in
    let word = length-bytes_word a.bytes.now in
    let fit : a.self.now.at + length head + word_length (length a.bytes.now) ≤ length a.self.now.out.now = omega (arith, h, length_head, c.left-left.ensures, c.width.ensures, decimal-some a.number) in
    let w = leaves_wrote {text = head} (omega arith) c.append_numbered.ensures.leaves in
    omega (arith, fit, word, w.place, kept w)

pub returns : goal.returns
returns c =
    let a = c.args in
    let h = test_left _ _ _ c.fits.ensures c.if-not-fits.false in
    let fit : a.self.now.at + length (a.before.now ++ decimal a.number ++ a.behind.now ++ bytes_word a.bytes.now ++ a.end.now) ≤ length a.self.now.out.now =
    omega (arith, h, length_line a.before.now a.number a.behind.now a.bytes.now a.end.now, c.left-left.ensures, c.width.ensures, decimal-some a.number) in
    let word = fitting_then (bytes_word a.bytes.now) (fitting-first c.append_numbered.ensures.leaves) c.put_bytes.ensures.leaves in
    let whole = fitting_then a.end.now word c.append.ensures.leaves in
    record { same = c.append.ensures.same ∙ (c.put_bytes.ensures.same ∙ c.append_numbered.ensures.same); leaves = leaves-whole (whole fit) fit }
