-- Cutting loses nothing, and finds the words that a line was made of.
use Rattle.std.specs.Prelude.{ℕ, ◌≡◌, refl, List, [], ◌∷◌, ◌++◌, Bool, true, false, cond, not, ◌&&◌, eqb}
use Rattle.std.proofs.Common.{ap, ◌∙◌, arith, eqb-true}
use Rattle.script.specs.Script.{space, before, words}
use Rattle.script.specs.Joined.{joined, spaceless, Spaceless}

joined-before : (b : ℕ) (ws : List (List ℕ)) → joined (before b ws) ≡ b ∷ joined ws
unfolding joined
joined-before b [] = refl
joined-before b (w ∷ []) = refl
joined-before b (w ∷ v ∷ ws) = refl

-- an empty word before others is a space
empty-first : (w : List ℕ) (ws : List (List ℕ)) → joined ([] ∷ w ∷ ws) ≡ space ∷ joined (w ∷ ws)
unfolding joined
empty-first w ws = refl

empty-before : (b : ℕ) (ws : List (List ℕ)) → joined ([] ∷ before b ws) ≡ space ∷ joined (before b ws)
empty-before b [] = empty-first (b ∷ []) []
empty-before b (w ∷ ws) = empty-first (b ∷ w) ws

joined-empty : (l : List ℕ) → joined ([] ∷ words l) ≡ space ∷ joined (words l)
unfolding words
joined-empty [] = empty-first [] []
joined-empty (b ∷ bs) = go (eqb b space)
  where
    go : (t : Bool) → joined ([] ∷ cond t ([] ∷ words bs) (before b (words bs))) ≡ space ∷ joined (cond t ([] ∷ words bs) (before b (words bs)))
    go true = empty-first [] (words bs)
    go false = empty-before b (words bs)

pub joined_words : (l : List ℕ) → joined (words l) ≡ l
unfolding words joined
joined_words [] = refl
joined_words (b ∷ bs) = go (eqb b space) refl (joined_words bs)
  where
    go : (t : Bool) → eqb b space ≡ t → joined (words bs) ≡ bs → joined (cond t ([] ∷ words bs) (before b (words bs))) ≡ b ∷ bs
    go true e ih = joined-empty bs ∙ rw (ih, eqb-true b space e)
    go false e ih = joined-before b (words bs) ∙ rw ih

-- ---- a line made of words

-- a word alone, and one before a space
words-one : (w : List ℕ) → spaceless w ≡ true → words w ≡ w ∷ []
unfolding words spaceless
words-one [] h = refl
words-one (b ∷ bs) h = go (eqb b space) h (words-one bs)
  where
    go : (t : Bool) → (not t && spaceless bs) ≡ true → (spaceless bs ≡ true → words bs ≡ bs ∷ []) → cond t ([] ∷ words bs) (before b (words bs)) ≡ (b ∷ bs) ∷ []
    go true h ih = let z : ◌≡◌ {A = ℕ} 0 1 = cc in absurd (omega arith)
    go false h ih = ap (before b) (ih h)

words_more : (w l : List ℕ) → spaceless w ≡ true → words (w ++ space ∷ l) ≡ w ∷ words l
unfolding words spaceless
words_more [] l h = refl
words_more (b ∷ bs) l h = go (eqb b space) h (words_more bs l)
  where
    go : (t : Bool) → (not t && spaceless bs) ≡ true → (spaceless bs ≡ true → words (bs ++ space ∷ l) ≡ bs ∷ words l)
        → cond t ([] ∷ words (bs ++ space ∷ l)) (before b (words (bs ++ space ∷ l))) ≡ (b ∷ bs) ∷ words l
    go true h ih = let z : ◌≡◌ {A = ℕ} 0 1 = cc in absurd (omega arith)
    go false h ih = ap (before b) (ih h)

pub words-joined : (w : List ℕ) (ws : List (List ℕ)) → Spaceless (w ∷ ws) → words (joined (w ∷ ws)) ≡ w ∷ ws
unfolding joined
words-joined w [] h = words-one w h.0
words-joined w (v ∷ ws) h = words_more w (joined (v ∷ ws)) h.0 ∙ ap (λ (l : List (List ℕ)). w ∷ l) (words-joined v ws h.1)
