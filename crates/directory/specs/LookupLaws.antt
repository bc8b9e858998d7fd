-- Laws of the lookup, over any list of entries.
use Rattle.std.specs.Prelude.{ℕ, zero, suc, ◌<◌, ◌≤◌, ◌≡◌, refl, List, [], ◌∷◌, map, Bool, true, false, cond, length, drop, get_or, ltb, eqb, Some, None, slice_get}
use Rattle.std.proofs.Common.{ap, le_of_suc-le-suc, not-suc-le-zero, arith, drop_of_length-le, ltb-true, ltb-false, eqb-true, eq-eqb, ne_eqb}
use Rattle.std.proofs.lemmas.Option.{none-some, same_Some}
use Rattle.directory.specs.declared.Entry.{Entry}
use Rattle.directory.specs.Directory.{entry}
use Rattle.directory.specs.Lookup.{find}
use Rattle.directory.specs.Rule.{Ascending}

-- ---- places

pub slice_get_some : (es : List Entry) (k : ℕ) → k < length es → (e : Entry) × (slice_get es k ≡ Some e)
slice_get_some [] k h = absurd (not-suc-le-zero h)
slice_get_some (x ∷ es) zero h = (x, refl)
slice_get_some (x ∷ es) (suc k) h = slice_get_some es k (le_of_suc-le-suc h)

pub slice_get_none : (es : List Entry) (k : ℕ) → length es ≤ k → slice_get es k ≡ None
slice_get_none [] k h = refl
slice_get_none (x ∷ es) zero h = absurd (not-suc-le-zero h)
slice_get_none (x ∷ es) (suc k) h = slice_get_none es k (le_of_suc-le-suc h)

-- an entry is what stands at its place among the numbers, the least and the greatest lengths
pub entry_there : (es : List Entry) (k : ℕ) → k < length es
    → slice_get es k ≡ Some (entry (get_or (map (λ (e : Entry). e.number) es) k 0) (get_or (map (λ (e : Entry). e.least) es) k 0) (get_or (map (λ (e : Entry). e.greatest) es) k 0))
entry_there [] k h = absurd (not-suc-le-zero h)
entry_there (x ∷ es) zero h = refl
entry_there (x ∷ es) (suc k) h = entry_there es k (le_of_suc-le-suc h)

-- what stands from a place on
drop_slice_get : (es : List Entry) (k : ℕ) (e : Entry) → slice_get es k ≡ Some e → drop k es ≡ e ∷ drop (suc k) es
drop_slice_get [] k e h = absurd (none-some e h)
drop_slice_get (x ∷ es) zero e h = ap (λ (y : Entry). y ∷ es) (same_Some x e h)
drop_slice_get (x ∷ es) (suc k) e h = drop_slice_get es k e h

-- ---- entry by entry

pub find_on : (n : ℕ) (es : List Entry) (k : ℕ) (e : Entry) → slice_get es k ≡ Some e → eqb e.number n ≡ false
    → find n (drop k es) ≡ find n (drop (suc k) es)
unfolding find
find_on n es k e h t = rw (drop_slice_get es k e h, t)

pub find_found : (n : ℕ) (es : List Entry) (k : ℕ) (e : Entry) → slice_get es k ≡ Some e → eqb e.number n ≡ true → find n (drop k es) ≡ Some e
unfolding find
find_found n es k e h t = rw (drop_slice_get es k e h, t)

pub find_end : (n : ℕ) (es : List Entry) (k : ℕ) → length es ≤ k → find n (drop k es) ≡ None
unfolding find
find_end n es k h = rw (drop_of_length-le es h)

-- ---- what is found stands in the list, under the number looked for

pub find_there : (n : ℕ) (es : List Entry) (e : Entry) → find n es ≡ Some e → (k : ℕ) × ((slice_get es k ≡ Some e) × (e.number ≡ n))
unfolding find
find_there n [] e h = absurd (none-some e h)
find_there n (x ∷ es) e h = go (eqb x.number n) refl (find_there n es e) h
  where
    go : (t : Bool) → eqb x.number n ≡ t → (find n es ≡ Some e → (k : ℕ) × ((slice_get es k ≡ Some e) × (e.number ≡ n)))
        → cond t (Some x) (find n es) ≡ Some e → (k : ℕ) × ((slice_get (x ∷ es) k ≡ Some e) × (e.number ≡ n))
    go true p rest h = (zero, (h, rw (← same_Some x e h) (eqb-true x.number n p)))
    go false p rest h = let r = rest h in (suc r.0, r.1)

-- ---- in an ascending list each entry is found by its number

tail_ascending : (x : Entry) (es : List Entry) → Ascending (x ∷ es) → Ascending es
tail_ascending x es a j k d e g h l = a (suc j) (suc k) d e g h (omega arith)

pub ascending_found : (es : List Entry) → Ascending es → (k : ℕ) (e : Entry) → slice_get es k ≡ Some e → find e.number es ≡ Some e
unfolding find
ascending_found [] a k e h = absurd (none-some e h)
ascending_found (x ∷ es) a zero e h = rw (eq-eqb x.number e.number (ap (λ (y : Entry). y.number) (same_Some x e h))) h
ascending_found (x ∷ es) a (suc k) e h =
    let less = a zero (suc k) x e refl h (omega arith) in
    rw (ne_eqb x.number e.number (λ same. omega arith)) (ascending_found es (tail_ascending x es a) k e h)

-- ---- and no number stands at two places

pub ascending_once : (es : List Entry) → Ascending es → (j k : ℕ) (d e : Entry) → slice_get es j ≡ Some d → slice_get es k ≡ Some e
    → d.number ≡ e.number → j ≡ k
ascending_once es a j k d e g h same = go (ltb j k) (ltb k j) refl refl
  where
    go : (t u : Bool) → ltb j k ≡ t → ltb k j ≡ u → j ≡ k
    go true u p q = let less = a j k d e g h (ltb-true j k p) in absurd (omega arith)
    go false true p q = let less = a k j e d h g (ltb-true k j q) in absurd (omega arith)
    go false false p q = omega (arith, ltb-false j k p, ltb-false k j q)
