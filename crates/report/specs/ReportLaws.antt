-- Searching for a byte that is not the filler: one place on, found, and not found.
use Rattle.std.specs.Prelude.{ℕ, ◌+◌, ◌≤◌, ◌<◌, ◌≡◌, refl, List, Bool, true, false, cond, not, ◌||◌, length, drop, get_or, eqb}
use Rattle.std.proofs.Common.{add-one, drop_of_length-le, drop-cons, eq-eqb, ne_eqb}
use Rattle.report.specs.Report.{has_other}

pub other_on : (filler : ℕ) (l : List ℕ) (i : ℕ) → i < length l → get_or l i 0 ≡ filler → has_other filler (drop i l) ≡ has_other filler (drop (i + 1) l)
unfolding has_other
other_on filler l i h e = rw (drop-cons l i 0 h, eq-eqb (get_or l i 0) filler e, add-one)

pub other_found : (filler : ℕ) (l : List ℕ) (i : ℕ) → i < length l → (get_or l i 0 ≡ filler → ⊥) → has_other filler (drop i l) ≡ true
unfolding has_other
other_found filler l i h e = rw (drop-cons l i 0 h, ne_eqb (get_or l i 0) filler e)

pub other_end : (filler : ℕ) (l : List ℕ) (i : ℕ) → length l ≤ i → has_other filler (drop i l) ≡ false
unfolding has_other
other_end filler l i h = rw (drop_of_length-le l h)

by_test : (b x : Bool) → cond b x true ≡ (not b || x)
by_test true x = refl
by_test false x = refl

-- one place on, whether it is found there or not, or was before
pub other_step : (found : Bool) (filler : ℕ) (l : List ℕ) (i : ℕ) → i < length l → (found || has_other filler (drop i l)) ≡ ((found || not (eqb (get_or l i 0) filler)) || has_other filler (drop (i + 1) l))
unfolding has_other
other_step true filler l i h = refl
other_step false filler l i h = rw (drop-cons l i 0 h, add-one) (by_test (eqb (get_or l i 0) filler) _)

pub found_end : (found : Bool) (filler : ℕ) (l : List ℕ) (i : ℕ) → length l ≤ i → (found || has_other filler (drop i l)) ≡ found
found_end true filler l i h = refl
found_end false filler l i h = other_end filler l i h
