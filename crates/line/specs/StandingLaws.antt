-- The wire bytes of an open piece follow from the bytes held, so that neither they nor their number need be kept.
use Rattle.std.specs.Prelude.{ℕ, ◌≡◌, List, [], ◌∷◌, ◌++◌, Bool, cond, length, ltb}
use Rattle.std.proofs.Math.Path.{refl, sym}
use Rattle.std.proofs.Common.{ap, ◌∙◌, append-nil, append_assoc, arith, length-append}
use Rattle.std.proofs.Math.Bool.{true, false}
use Rattle.std.proofs.Math.Option.{some}
use Rattle.std.proofs.Math.Seq.{append_snoc}
use Rattle.std.proofs.Math.Dec.{eqb}
use borrow.Author.Tests.{eqb-true, eqb-false}
use Rattle.line.specs.Wire.{END, ESC, ESC-END, ESC-ESC, escape}
use Rattle.line.specs.WireLaws.{escape_append, escape-plain}
use Rattle.line.specs.Reader.{limit, wrong_escape, State, plain, escaped, skipping, emptied, decoded, inner, inside}
use Rattle.line.specs.ReaderLaws.{cond-holds}
use Rattle.line.specs.Pieces.{NoEnd}
use Rattle.line.specs.Reachable.{written}
use Rattle.line.specs.Standing.{standing}
use Rattle.line.specs.Places.{Places, wire_at, wire_length, behind, behind_esc}

-- ---- the bytes of an open piece

-- p is what was read of a piece, in a state that holds bytes: their escaped form, and the ESC that stands behind them
abbrev Reads : List ℕ → State → Type 0
Reads p (plain h) = p ≡ escape h
Reads p (escaped h) = p ≡ escape h ++ ESC ∷ []
Reads p (skipping f) = Unit {0}

module _ (p h : List ℕ) (b : ℕ) where
  decoded_reads : (v : ℕ) (q : List ℕ) → q ≡ escape h ++ escape (v ∷ []) → Reads q (decoded h v)
  unfolding decoded
  decoded_reads v q e = cond-holds (Reads q) (ltb (length h) limit) _ _ (e ∙ sym (escape_append h (v ∷ []))) tt

  plain_reads : p ≡ escape h → (b ≡ END → ⊥) → Reads (p ++ b ∷ []) (inner (plain h) b)
  unfolding inner
  plain_reads e n = go (eqb b ESC) refl
    where
      go : (t : Bool) → eqb b ESC ≡ t → Reads (p ++ b ∷ []) (cond t (escaped h) (decoded h b))
      go true x = rw (e, eqb-true b ESC x)
      go false x = decoded_reads b (p ++ b ∷ []) (rw (e, escape-plain b n (eqb-false b ESC x)))

  escaped_reads : p ≡ escape h ++ ESC ∷ [] → Reads (p ++ b ∷ []) (inner (escaped h) b)
  unfolding inner escape
  escaped_reads e = go (eqb b ESC-END) (eqb b ESC-ESC) refl refl
    where
      go : (t u : Bool) → eqb b ESC-END ≡ t → eqb b ESC-ESC ≡ u
          → Reads (p ++ b ∷ []) (cond t (decoded h END) (cond u (decoded h ESC) (skipping (wrong_escape h))))
      go true u x y = decoded_reads END (p ++ b ∷ []) (rw (e, eqb-true b ESC-END x, append_assoc))
      go false true x y = decoded_reads ESC (p ++ b ∷ []) (rw (e, eqb-true b ESC-ESC y, append_assoc))
      go false false x y = tt

inner_reads : (p : List ℕ) (s : State) (b : ℕ) → Reads p s → (b ≡ END → ⊥) → Reads (p ++ b ∷ []) (inner s b)
unfolding inner
inner_reads p (plain h) b x n = plain_reads p h b x n
inner_reads p (escaped h) b x n = escaped_reads p h b x
inner_reads p (skipping f) b x n = tt

inside_reads : (p : List ℕ) (s : State) (q : List ℕ) → Reads p s → NoEnd q → Reads (p ++ q) (inside s q)
unfolding inside
inside_reads p s [] x n = rw append-nil x
inside_reads p s (b ∷ q) x n = rw append_snoc at (inside_reads (p ++ b ∷ []) (inner s b) q (inner_reads p s b x n.0) n.1)

-- ---- where a reading state stands

reads_standing : (p : List ℕ) (s : State) (q : Places) → Reads p s → standing s ≡ some q → q.wire ≡ wire_at (length p)
unfolding behind behind_esc wire_length
reads_standing p (plain h) q x e = let z : behind h ≡ q = cc in sym (ap (λ (y : Places). y.wire) z) ∙ ap wire_at (sym (ap length x))
reads_standing p (escaped h) q x e =
    let z : behind_esc h ≡ q = cc in
    sym (ap (λ (y : Places). y.wire) z) ∙ ap wire_at (sym (ap length x ∙ length-append (escape h) (ESC ∷ [])))
reads_standing p (skipping f) q x e = let z : ◌≡◌ {A = ℕ} 0 1 = cc in absurd (omega arith)

-- the wire bytes read of an open piece need not be counted: their number follows from the bytes held
pub standing-wire : (p : List ℕ) (q : Places) → NoEnd p → standing (inside emptied p) ≡ some q → q.wire ≡ wire_at (length p)
unfolding escape
standing-wire p q n e = reads_standing p (inside emptied p) q (inside_reads [] emptied p refl n) e

-- nor kept: they are the one escaped form of the bytes held, and an ESC where one stands behind it
reads_written : (p : List ℕ) (s : State) (q : Places) → Reads p s → standing s ≡ some q → p ≡ written s
unfolding written
reads_written p (plain h) q x e = x
reads_written p (escaped h) q x e = x
reads_written p (skipping f) q x e = let z : ◌≡◌ {A = ℕ} 0 1 = cc in absurd (omega arith)

pub standing-written : (p : List ℕ) (q : Places) → NoEnd p → standing (inside emptied p) ≡ some q → p ≡ written (inside emptied p)
unfolding escape
standing-written p q n e = reads_written p (inside emptied p) q (inside_reads [] emptied p refl n) e

-- so what is read as whole bytes is their one escaped form
pub plain_escaped : (p h : List ℕ) → NoEnd p → inside emptied p ≡ plain h → p ≡ escape h
unfolding written
plain_escaped p h n e = standing-written p (behind h) n (ap standing e) ∙ ap written e
