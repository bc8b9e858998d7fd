-- How many bytes escaping doubles: not all of them, or all, and then their exclusive or is known.
use Rattle.std.specs.Prelude.{ℕ, zero, suc, ◌+◌, ◌*◌, ◌<◌, ◌≡◌, refl, List, [], ◌∷◌, Bool, true, false, not, length, eqb}
use Rattle.std.proofs.Common.{sym, ap, ◌∙◌, subst, arith, length-append, eqb-true}
use Rattle.std.proofs.lemmas.Bool.{eqb-false}
use Rattle.line.specs.Wire.{END, ESC, escape}
use Rattle.line.specs.WireLaws.{escape_append, escape_short, escape-plain}
use Rattle.frame.specs.Xor.{◌⊕◌, xor_all}

-- ---- one byte

-- END and ESC are sent as two bytes, all others as one
pub data Kind : ℕ → Type 0 where
  end : Kind END
  esc : Kind ESC
  usual : {b : ℕ} → length (escape (b ∷ [])) ≡ 1 → Kind b

pub kind : (b : ℕ) → Kind b
kind b = go (eqb b END) (eqb b ESC) refl refl
  where
    go : (t u : Bool) → eqb b END ≡ t → eqb b ESC ≡ u → Kind b
    go true u x y = subst Kind (sym (eqb-true b END x)) end
    go false true x y = subst Kind (sym (eqb-true b ESC y)) esc
    go false false x y = usual (ap length (escape-plain b (eqb-false b END x) (eqb-false b ESC y)))

-- the bytes behind it are sent behind it
pub escape_next : (b : ℕ) (w : List ℕ) → length (escape (b ∷ w)) ≡ length (escape (b ∷ [])) + length (escape w)
escape_next b w = ap length (escape_append (b ∷ []) w) ∙ length-append (escape (b ∷ [])) (escape w)

-- ---- ENDs and ESCs only

unfoldable pub is_odd : ℕ → Bool
is_odd zero = false
is_odd (suc n) = not (is_odd n)

-- equal ones cancel: an even number of them leaves nothing or one of each, an odd number leaves one
pub data Remains : Bool → ℕ → Type 0 where
  nothing : Remains false 0
  each : Remains false 0x1B
  one_end : Remains true END
  one_esc : Remains true ESC

remains_end : {t : Bool} {x : ℕ} → Remains t x → Remains (not t) (END ⊕ x)
unfolding ◌⊕◌
remains_end nothing = one_end
remains_end each = one_esc
remains_end one_end = nothing
remains_end one_esc = each

remains_esc : {t : Bool} {x : ℕ} → Remains t x → Remains (not t) (ESC ⊕ x)
unfolding ◌⊕◌
remains_esc nothing = one_esc
remains_esc each = one_end
remains_esc one_end = each
remains_esc one_esc = nothing

-- ---- a list

pub data Doubled (w : List ℕ) : Type 0 where
  fewer : length (escape w) < 2 * length w → Doubled w
  all : Remains (is_odd (length w)) (xor_all w) → Doubled w

pub doubled : (w : List ℕ) → Doubled w
unfolding is_odd xor_all
doubled [] = all nothing
doubled (b ∷ w) = go b (kind b) (doubled w)
  where
    go : (c : ℕ) → Kind c → Doubled w → Doubled (c ∷ w)
    go c k (fewer h) = fewer (omega (arith, escape_next c w, escape_short (c ∷ [])))
    go c end (all m) = all (remains_end m)
    go c esc (all m) = all (remains_esc m)
    go c (usual e) (all m) = fewer (omega (arith, escape_next c w, escape_short w))
