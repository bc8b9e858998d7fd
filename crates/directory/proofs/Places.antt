-- What the library's `get` lends, copied, is what stands at the place.
use Rattle.std.proofs.Common.{ℕ, ◌≡◌, refl, sym, List, Option, Some, None, slice_get, Bor}
use Rattle.std.proofs.lemmas.Option.{slice_get_past, slice_get_read}
use Rattle.std.specs.Option.{option_copied}
use Rattle.std.specs.Slice.{IsItemAt}

pub copied-at : {X : Type 0} (xs : List X) (i : ℕ) (r : Option (Bor X)) → IsItemAt xs i r → option_copied r ≡ slice_get xs i
copied-at xs i None h = sym (slice_get_past xs i h.3)
copied-at xs i (Some x) h = sym (slice_get_read xs _ i x.now refl h.3.0 h.1)
