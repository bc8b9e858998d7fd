use Rattle.std.proofs.Common.{ℕ, suc, ◌+◌, ◌*◌, ◌≤◌, ◌<◌, ◌≡◌, List, [], ◌∷◌, length, take, refl, arith, set, length-set, take_all, length-take-le}
use Rattle.memory.specs.Wrote.{Wrote}
use Rattle.memory.specs.WroteLaws.{none, then, kept}
use Rattle.text.specs.Bytes.{hex_pairs}
use Rattle.text.specs.BytesLaws.{hex_pairs_more, length-hex_pairs}
use Rattle.text.proofs.bytes.hex_pairs.Goals as goal

-- two stores one behind the other
two : (l : List ℕ) (i a b : ℕ) → Wrote l i (a ∷ b ∷ []) (set (set l i a) (i + 1) b) (i + 2)
two l i a b = let p : i + 1 ≡ suc i = omega arith in record { content = rw p; place = refl }

-- there is room for the digits of one byte more
room : {l m : List ℕ} {at place : ℕ} (bytes : List ℕ) (i : ℕ) → at + 2 * length bytes ≤ length l → i < length bytes
    → Wrote l at (hex_pairs (take i bytes)) m place → place + 2 ≤ length m
room bytes i fit more w =
    let long = length-hex_pairs (take i bytes) in
    let part = length-take-le i bytes (omega arith) in
    omega (arith, kept w, w.place)

pub loop-byte-init : goal.loop-byte-init
unfolding hex_pairs
loop-byte-init c = none _ _

pub bounds-out-place : goal.bounds-out-place
bounds-out-place c = omega (arith, room c.args.bytes.now c.loop-byte.byte-index c.requires c.loop-byte-test.true c.loop-byte.invariant)

pub overflow_add-out : goal.overflow_add-out
overflow_add-out c = omega (arith, room c.args.bytes.now c.loop-byte.byte-index c.requires c.loop-byte-test.true c.loop-byte.invariant)

pub bounds-out-place-in-loop-byte : goal.bounds-out-place-in-loop-byte
bounds-out-place-in-loop-byte c = simp length-set (omega (arith, room c.args.bytes.now c.loop-byte.byte-index c.requires c.loop-byte-test.true c.loop-byte.invariant))

pub overflow_add-place : goal.overflow_add-place
overflow_add-place c = omega (arith, room c.args.bytes.now c.loop-byte.byte-index c.requires c.loop-byte-test.true c.loop-byte.invariant)

pub loop-byte-preserved : goal.loop-byte-preserved
loop-byte-preserved c =
    rw (hex_pairs_more _ c.loop-byte.byte-index c.loop-byte-test.true, c.hex2.ensures) (then c.loop-byte.invariant (two _ _ _ _))

pub returns : goal.returns
returns c = rw (take_all _ _ c.loop-byte-test.false) at c.loop-byte.invariant
