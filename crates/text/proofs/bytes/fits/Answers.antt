use Prim.Native.Nat.{ℕ, ◌+◌, ◌-◌, ◌*◌, ◌/◌, ◌≤◌}
use mathlib.Core.Path.{◌≡◌, refl, sym}
use mathlib.Core.Bool.{Bool, true, false}
use native.Mathlib.Omega.{arith}
use lib.Dec.{leb}
use borrow.Author.Tests.{lt-leb, le-leb, leb-true, leb-false}
use Rattle.text.specs.Bytes.{word_length}
use Rattle.text.specs.BytesLaws.{word_length-some}
use Rattle.text.proofs.bytes.fits.Goals as goal

-- two tests that hold together
leb_same : (a b x y : ℕ) → (a ≤ b → x ≤ y) → (x ≤ y → a ≤ b) → leb a b ≡ leb x y
leb_same a b x y f g = go (leb a b) refl
  where
    go : (t : Bool) → leb a b ≡ t → t ≡ leb x y
    go true e = sym (le-leb x y (f (leb-true a b e)))
    go false e = other (leb x y) refl
      where
        other : (s : Bool) → leb x y ≡ s → false ≡ leb x y
        other true d = absurd (omega (arith, leb-false a b e, g (leb-true x y d)))
        other false d = sym d

pub returns-then-room-number : goal.returns-then-room-number
returns-then-room-number c = let a = c.args in sym (lt-leb (a.number + word_length a.bytes + a.end) a.room (omega arith))

pub returns-then-behind-end : goal.returns-then-behind-end
returns-then-behind-end c = let a = c.args in sym (lt-leb (a.number + word_length a.bytes + a.end) a.room (omega arith))

pub returns-then-bytes-eq0 : goal.returns-then-bytes-eq0
unfolding word_length
returns-then-bytes-eq0 c =
    let a = c.args in
    rw c.if-bytes-eq0.true (leb_same 1 (a.room - a.number - a.end) (a.number + 1 + a.end) a.room (λ h. omega arith) (λ h. omega arith))

pub returns : goal.returns
returns c =
    let a = c.args in
    rw (word_length-some a.bytes (omega arith))
    (leb_same a.bytes ((a.room - a.number - a.end) / 2) (a.number + 2 * a.bytes + a.end) a.room (λ h. omega arith) (λ h. omega arith))
