use mathlib.Core.Bool.{Bool, true, false, ◌&&◌}
use mathlib.Core.List.{[]}
use mathlib.Core.Path.{◌≡◌, refl, sym, ◌∙◌}
use lib.Dec.{leb}
use borrow.Author.Tests.{le-leb, lt-leb}
use Rattle.sessions.specs.Sessions.{max_indices, max_priority, named, targets_legal, is_legal, may_command}
use Rattle.sessions.proofs.targets.is_legal.Goals as goal
use Rattle.sessions.proofs.targets.is_legal.Goals.{then-count-lt1-via-then-count-lt1, then-count-lt1-via-else-count-lt1+then-count-gt-INDICES, then-count-lt1-via-else-count-lt1+else-count-gt-INDICES+then-not-targets_legal}

not_legal : (a : Bool) → false ≡ (a && false)
not_legal true = refl
not_legal false = refl

pub returns-then-count-lt1 : goal.returns-then-count-lt1
unfolding is_legal
returns-then-count-lt1 c =
    elim c.then-count-lt1.branch [
      | then-count-lt1-via-then-count-lt1 w ↦ let none_named : leb 1 c.args.request.count ≡ false = lt-leb _ _ (rw c.from-count.ensures at w.if-count-lt1.true) in simp none_named
      | then-count-lt1-via-else-count-lt1+then-count-gt-INDICES w ↦
          let some_named : leb 1 c.args.request.count ≡ true = le-leb _ _ (rw c.from-count.ensures at w.if-count-lt1.false) in
          let many_named : leb c.args.request.count max_indices ≡ false = lt-leb _ _ (rw c.from-count.ensures at w.if-count-gt-INDICES.true) in
          simp (some_named, many_named)
      | then-count-lt1-via-else-count-lt1+else-count-gt-INDICES+then-not-targets_legal w ↦
          let some_named : leb 1 c.args.request.count ≡ true = le-leb _ _ (rw c.from-count.ensures at w.if-count-lt1.false) in
          let few_named : leb c.args.request.count max_indices ≡ true = le-leb _ _ (rw c.from-count.ensures at w.if-count-gt-INDICES.false) in
          let illegal : targets_legal c.args.table.now [] (named c.args.request) ≡ false = rw c.from-count.ensures at (sym w.targets_legal.ensures ∙ w.if-not-targets_legal.true) in
          simp (some_named, few_named, illegal)
    ]

pub returns-then-request-le-MAX_LOCK : goal.returns-then-request-le-MAX_LOCK
unfolding is_legal may_command
returns-then-request-le-MAX_LOCK c =
    let some_named : leb 1 c.args.request.count ≡ true = le-leb _ _ (rw c.from-count.ensures at c.if-count-lt1.false) in
    let few_named : leb c.args.request.count max_indices ≡ true = le-leb _ _ (rw c.from-count.ensures at c.if-count-gt-INDICES.false) in
    let legal : targets_legal c.args.table.now [] (named c.args.request) ≡ true = rw c.from-count.ensures at (sym c.targets_legal.ensures ∙ c.if-not-targets_legal.false) in
    c.may_command.ensures ∙ simp (some_named, few_named, legal, le-leb _ _ c.if-request-le-MAX_LOCK.true)

pub returns-else-request-le-MAX_LOCK : goal.returns-else-request-le-MAX_LOCK
unfolding is_legal
returns-else-request-le-MAX_LOCK c =
    let some_named : leb 1 c.args.request.count ≡ true = le-leb _ _ (rw c.from-count.ensures at c.if-count-lt1.false) in
    let few_named : leb c.args.request.count max_indices ≡ true = le-leb _ _ (rw c.from-count.ensures at c.if-count-gt-INDICES.false) in
    let legal : targets_legal c.args.table.now [] (named c.args.request) ≡ true = rw c.from-count.ensures at (sym c.targets_legal.ensures ∙ c.if-not-targets_legal.false) in
    simp (some_named, few_named, legal, lt-leb _ _ c.if-request-le-MAX_LOCK.false) (not_legal (leb c.args.request.priority max_priority))
