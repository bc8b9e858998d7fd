-- What a word was read as, with the words that are left.
use Rattle.std.proofs.Common.{ℕ, ◌<◌, ◌≡◌, sym, ap, ◌∙◌, List, Option, Some, None, Result, Ok, Err}
use Rattle.std.specs.Result.{OkIff, result_ok}
use Rattle.script.specs.Script.{first, rest, bytes}
use Rattle.script.specs.Code.{Taken, Stored, BytesAt}

pub taken : (is r : Option ℕ) (ws left : List (List ℕ)) → rest ws ≡ left → r ≡ is → Taken is ws left r
taken is (Some n) ws left f p = (sym p, f)
taken is None ws left f p = sym p

pub bytes_taken : (ws left : List (List ℕ)) (w out : List ℕ) (r : Option ℕ) → first ws ≡ w → rest ws ≡ left → Stored (bytes w) out r → BytesAt ws out left r
bytes_taken ws left w out (Some n) e f s = (ap bytes e ∙ s.0, s.1, f)
bytes_taken ws left w out None e f s = ap bytes e ∙ s

-- a number below the bound of a narrower type is kept by it
pub narrowed : {E : Type 0} (bound n : ℕ) (r : Result ℕ E) → OkIff r (n < bound) n → n < bound → result_ok r ≡ Some n
narrowed bound n (Ok m) h less = ap (λ (k : ℕ). Some k) h.1
narrowed bound n (Err e) h less = absurd (h less)
