-- Lines appended: none, one, and some behind others.
use Rattle.std.specs.Prelude.{ℕ, ◌+◌, ◌<◌, ◌≡◌, refl, List, [], ◌∷◌, ◌++◌, map, length, get_or}
use Rattle.std.proofs.Common.{add-one, ◌∙◌, arith}
use Rattle.std.proofs.lemmas.List.{length-map}
use Rattle.std.proofs.Math.ListN.{get_or-map}
use Rattle.sessions.specs.ListLaws.{get_d_there}
use Rattle.text.specs.Appended.{appended, Leaves}
use Rattle.text.specs.declared.page.Page.{Page}
use Rattle.text.specs.Page.{Writes}
use Rattle.transcript.specs.Lines.{appended_all, lines_below, WritesAll}

pub all_none : (l : List ℕ) (at : ℕ) → Leaves (appended_all l at []) l at
unfolding appended_all
all_none l at = record { bytes = refl; place = refl }

pub all_one : (l : List ℕ) (at : ℕ) (x : List ℕ) {m : List ℕ} {a : ℕ} → Leaves (appended l at x) m a → Leaves (appended_all l at (x ∷ [])) m a
unfolding appended_all
all_one l at x h = record { bytes = h.bytes; place = h.place }

appended_all_append : (l : List ℕ) (at : ℕ) (xs ys : List (List ℕ))
    → appended_all l at (xs ++ ys) ≡ appended_all (appended_all l at xs).bytes (appended_all l at xs).place ys
unfolding appended_all
appended_all_append l at [] ys = refl
appended_all_append l at (x ∷ xs) ys = appended_all_append (appended l at x).bytes (appended l at x).place xs ys

pub all_then : (l : List ℕ) (at : ℕ) (xs ys : List (List ℕ)) {m n : List ℕ} {a e : ℕ} → Leaves (appended_all l at xs) m a → Leaves (appended_all m a ys) n e
    → Leaves (appended_all l at (xs ++ ys)) n e
all_then l at xs ys x y = rw (appended_all_append l at xs ys, ← x.bytes, ← x.place) y

-- the lines of one number more
pub below_more : (l : List ℕ) (at : ℕ) (f : ℕ → List (List ℕ)) (k : ℕ) {m n : List ℕ} {a e : ℕ} → Leaves (appended_all l at (lines_below f k)) m a
    → Leaves (appended_all m a (f k)) n e → Leaves (appended_all l at (lines_below f (k + 1))) n e
unfolding lines_below
below_more l at f k x y = rw add-one (all_then l at (lines_below f k) (f k) x y)

-- the lines of one element more, whatever stands for one that is not there
pub below_element : {A : Type 0} (l : List ℕ) (at : ℕ) (f : ℕ → A → List (List ℕ)) (xs : List A) (d e : A) (k : ℕ) {m n : List ℕ} {a b : ℕ} → k < length xs
    → Leaves (appended_all l at (lines_below (λ i. f i (get_or xs i e)) k)) m a → Leaves (appended_all m a (f k (get_or xs k d))) n b
    → Leaves (appended_all l at (lines_below (λ i. f i (get_or xs i e)) (k + 1))) n b
below_element l at f xs d e k h x y = below_more l at (λ i. f i (get_or xs i e)) k x (rw (get_d_there xs k d e h) at y)

-- the same where a list is seen through a map
pub below_mapped : {A B : Type 0} (g : A → B) (l : List ℕ) (at : ℕ) (f : ℕ → B → List (List ℕ)) (xs : List A) (d : A) (e : B) (k : ℕ) {m n : List ℕ} {a b : ℕ} → k < length xs
    → Leaves (appended_all l at (lines_below (λ i. f i (get_or (map g xs) i e)) k)) m a → Leaves (appended_all m a (f k (g (get_or xs k d)))) n b
    → Leaves (appended_all l at (lines_below (λ i. f i (get_or (map g xs) i e)) (k + 1))) n b
below_mapped g l at f xs d e k h x y = below_element l at f (map g xs) (g d) e k (omega (arith, length-map xs g)) x (rw (get_or-map g xs k d) y)

-- ---- on a page

pub writes_none : (p : Page) → WritesAll [] p p
writes_none p = record { same = refl; leaves = all_none _ _ }

pub writes_one : {x : List ℕ} {p q : Page} → Writes x p q → WritesAll (x ∷ []) p q
writes_one h = record { same = h.same; leaves = all_one _ _ _ h.leaves }

pub writes_then : {xs ys : List (List ℕ)} {p q r : Page} → WritesAll xs p q → WritesAll ys q r → WritesAll (xs ++ ys) p r
writes_then x y = record { same = y.same ∙ x.same; leaves = all_then _ _ _ _ x.leaves y.leaves }

pub writes_more : (f : ℕ → List (List ℕ)) (k : ℕ) {p q r : Page} → WritesAll (lines_below f k) p q → WritesAll (f k) q r → WritesAll (lines_below f (k + 1)) p r
writes_more f k x y = record { same = y.same ∙ x.same; leaves = below_more _ _ f k x.leaves y.leaves }

pub writes_mapped : {A B : Type 0} (g : A → B) (f : ℕ → B → List (List ℕ)) (xs : List A) (d : A) (e : B) (k : ℕ) {p q r : Page} → k < length xs
    → WritesAll (lines_below (λ i. f i (get_or (map g xs) i e)) k) p q → WritesAll (f k (g (get_or xs k d))) q r
    → WritesAll (lines_below (λ i. f i (get_or (map g xs) i e)) (k + 1)) p r
writes_mapped g f xs d e k h x y = record { same = y.same ∙ x.same; leaves = below_mapped g _ _ f xs d e k h x.leaves y.leaves }
