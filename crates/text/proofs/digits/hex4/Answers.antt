use Prim.Native.Nat.{ℕ, suc, ◌+◌}
use mathlib.Core.List.{List, [], ◌∷◌}
use mathlib.Core.Path.{◌≡◌, refl}
use native.Mathlib.Omega.{arith}
use lib.ListN.{set, length-set}
use Rattle.memory.specs.Wrote.{Wrote}
use Rattle.text.proofs.digits.hex4.Goals as goal

-- four stores one behind the other
four : (l : List ℕ) (i a b x y : ℕ) → Wrote l i (a ∷ b ∷ x ∷ y ∷ []) (set (set (set (set l i a) (i + 1) b) (i + 2) x) (i + 3) y) (i + 4)
four l i a b x y =
    let p : i + 1 ≡ suc i = omega arith in
    let q : i + 2 ≡ suc (suc i) = omega arith in
    let r : i + 3 ≡ suc (suc (suc i)) = omega arith in
    record { content = rw (p, q, r); place = refl }

pub bounds-out-at-2 : goal.bounds-out-at-2
bounds-out-at-2 c = simp length-set (omega arith)

pub bounds-out-at-3 : goal.bounds-out-at-3
bounds-out-at-3 c = simp length-set (omega arith)

pub bounds-out-at-4 : goal.bounds-out-at-4
bounds-out-at-4 c = simp length-set (omega arith)

pub returns : goal.returns
returns c = rw (c.digit.ensures, c.digit-2.ensures, c.digit-3.ensures, c.digit-4.ensures, c.from-n.ensures) (four _ _ _ _ _ _)
