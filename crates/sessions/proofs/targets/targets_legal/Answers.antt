use Prim.Native.Nat.{ℕ, ◌+◌, ◌<◌}
use mathlib.Core.Bool.{Bool, true, false, cond, ◌&&◌, false≢true}
use mathlib.Core.List.{List, []}
use mathlib.Core.Path.{◌≡◌, refl, sym, ◌∙◌}
use native.Mathlib.Numerals.{add-one}
use native.Mathlib.Omega.{arith}
use lib.ListN.{length, take, get_or, set, replicate, length-set, get_or-replicate}
use lib.Seq.{take-suc, get_or-set_same, get_or-set_other}
use lib.Dec.{ltb, eqb}
use borrow.Author.Tests.{ltb-true, eqb-true, eqb-false}
use Rattle.sessions.specs.Search.{any, member}
use Rattle.sessions.specs.SearchLaws.{member-last}
use Rattle.sessions.specs.Sessions.{target_count}
use Rattle.sessions.specs.SessionLaws.{targets_on, targets_off, targets_twice, targets_end}
use Rattle.sessions.proofs.targets.targets_legal.Invariants.{Seen}
use Rattle.sessions.proofs.targets.targets_legal.Goals as goal
use Rattle.sessions.proofs.targets.targets_legal.Goals.{then-not-is_target-via-then-not-is_target, then-not-is_target-via-else-not-is_target+then-seen-node}

-- an index that is a target is below 200
near_target : (n : ℕ) (a b : Bool) → ltb n target_count ≡ a → (a && b) ≡ true → n < target_count
near_target n true b e f = ltb-true n target_count e
near_target n false b e f = absurd (false≢true f)

none_seen : Seen (replicate target_count false) []
unfolding any
none_seen = record { whole = refl; those = λ n h. get_or-replicate target_count n false false h }

seen_more : (seen : List Bool) (is : List ℕ) (i : ℕ) → i < length is → get_or is i 0 < target_count
    → Seen seen (take i is) → Seen (set seen (get_or is i 0) true) (take (i + 1) is)
unfolding any
seen_more seen is i h k s =
    record {
      whole = length-set seen (get_or is i 0) true ∙ s.whole;
      those = λ n l. go n l (eqb n (get_or is i 0)) refl ∙ member-last n (get_or is i 0) (take i is) ∙ rw (add-one, take-suc is i 0 h);
    }
  where
    go : (n : ℕ) → n < target_count → (b : Bool) → eqb n (get_or is i 0) ≡ b
        → get_or (set seen (get_or is i 0) true) n false ≡ cond (eqb n (get_or is i 0)) true (member n (take i is))
    go n l true e =
        rw e (rw (eqb-true n (get_or is i 0) e) (get_or-set_same seen (get_or is i 0) true false (omega (arith, s.whole, k))))
    go n l false e = rw e (get_or-set_other seen (get_or is i 0) n true false (eqb-false n (get_or is i 0) e) ∙ s.those n l)

pub loop-target-init : goal.loop-target-init
loop-target-init c = (none_seen, refl)

pub returns-then-not-is_target : goal.returns-then-not-is_target
returns-then-not-is_target c =
    let node : c.from-node.result ≡ get_or c.args.indices.now c.loop-target.target-index 0 = c.from-node.ensures in
    elim c.then-not-is_target.branch [
      | then-not-is_target-via-then-not-is_target w ↦
          let no_target = rw node at (sym c.is_target.ensures ∙ w.if-not-is_target.true) in
          sym (c.loop-target.invariant.1 ∙ targets_off _ _ _ c.loop-target-test.true no_target)
      | then-not-is_target-via-else-not-is_target+then-seen-node w ↦
          let target = rw node at (sym c.is_target.ensures ∙ w.if-not-is_target.false) in
          let near = near_target _ _ _ refl target in
          sym (c.loop-target.invariant.1 ∙ targets_twice _ _ _ c.loop-target-test.true (sym (c.loop-target.invariant.0.those _ near) ∙ rw node at w.if-seen-node.true))
    ]

pub loop-target-preserved : goal.loop-target-preserved
loop-target-preserved c =
    let node : c.from-node.result ≡ get_or c.args.indices.now c.loop-target.target-index 0 = c.from-node.ensures in
    let target = rw node at (sym c.is_target.ensures ∙ c.if-not-is_target.false) in
    let near = near_target _ _ _ refl target in
    let l = c.loop-target-test.true in (
      rw node (seen_more _ _ _ l near c.loop-target.invariant.0),
      c.loop-target.invariant.1 ∙ targets_on _ _ _ l target (sym (c.loop-target.invariant.0.those _ near) ∙ rw node at c.if-seen-node.false),
    )

pub returns : goal.returns
returns c = sym (c.loop-target.invariant.1 ∙ targets_end _ _ _ c.loop-target-test.false)
