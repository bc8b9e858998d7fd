use Prim.Native.Nat.{ℕ, ◌≤◌, ◌*◌, ◌/◌, ◌%◌, ◌^◌}
use mathlib.Core.Path.{◌≡◌, sym, ◌∙◌}
use mathlib.Core.List.{List}
use native.Mathlib.Nat.{one-mul}
use native.Mathlib.Omega.{arith}
use lib.ListN.{length, get_or, length-set}
use lib.Seq.{set_out}
use lib.Pow.{shl_exact}
use Rattle.sessions.specs.Sessions.{with_bit}
use Rattle.sessions.specs.SessionLaws.{marked_on, marked_end}
use Rattle.sessions.proofs.opening.marked.Goals as goal
use Rattle.sessions.proofs.opening.marked.Goals.{then-k-lt-MARKS, else-k-lt-MARKS}

-- no bit is shifted out of its byte
shifted : (n : ℕ) → 1 * 2 ^ (n % 8) % 256 ≡ 2 ^ (n % 8)
shifted n = shl_exact 1 (n % 8) 8 (omega arith) (omega arith) ∙ one-mul (2 ^ (n % 8))

-- a node from 200 on has no byte to be marked in
with_bit_out : (ms : List ℕ) (n : ℕ) → length ms ≤ n / 8 → with_bit ms n ≡ ms
unfolding with_bit
with_bit_out ms n h = set_out ms (n / 8) _ h

pub loop-target-preserved : goal.loop-target-preserved
unfolding with_bit
loop-target-preserved c =
    let whole = c.loop-target.invariant.0 in
    let on = c.loop-target.invariant.1 ∙ marked_on c.loop-target.marks c.args.indices.now c.loop-target.target-index c.loop-target-test.true in
    elim c.if-k-lt-MARKS.branch [
      | then-k-lt-MARKS w ↦ (rw (w.marks-is, length-set) whole, on ∙ rw (w.marks-is, c.from-node.ensures, shifted (get_or c.args.indices.now c.loop-target.target-index 0)))
      | else-k-lt-MARKS w ↦
          let node : c.from-node.result ≡ get_or c.args.indices.now c.loop-target.target-index 0 = c.from-node.ensures in
          let out = with_bit_out c.loop-target.marks (get_or c.args.indices.now c.loop-target.target-index 0) (omega (arith, whole, node, w.if-k-lt-MARKS.false)) in
          (rw w.marks-is whole, on ∙ rw (out, w.marks-is))
    ]

pub returns : goal.returns
returns c = sym (c.loop-target.invariant.1 ∙ marked_end _ _ _ c.loop-target-test.false)
