use Rattle.std.proofs.Common.{◌≡◌, ℕ, List, true, cond, ◌&&◌, length}
use Rattle.std.specs.Iterator.Adapters.{zip_first, zip_second}
use Rattle.std.specs.Slice.Iter.{iter_rest}
use Rattle.passwords.specs.Passwords.{is_same}
use Rattle.passwords.proofs.is_same.Given as goal

-- As many bytes are left of both; where no zero was among those before, they decide too.
abbrev pub invariant-loop-x : goal.invariant-loop-x
invariant-loop-x l =
    let a : List ℕ = iter_rest (zip_first l.x-iterator) in
    let b : List ℕ = iter_rest (zip_second l.x-iterator) in
    (length a ≡ length b) × (is_same l.fn.a l.fn.b ≡ l.same && cond l.inside (is_same a b) true)
