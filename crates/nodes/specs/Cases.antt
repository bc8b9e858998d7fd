-- What holds of each case of a choice holds of what is chosen.
use Rattle.std.specs.Prelude.{◌≡◌, refl, Bool, true, false, cond}

module _ {A : Type 0} (P : A → Type 0) (b : Bool) (x y : A) where
  pub either_by : (b ≡ true → P x) → (b ≡ false → P y) → P (cond b x y)
  either_by p q = go b p q
    where
      go : (c : Bool) → (c ≡ true → P x) → (c ≡ false → P y) → P (cond c x y)
      go true p q = p refl
      go false p q = q refl

  pub either : P x → P y → P (cond b x y)
  either p q = either_by (λ e. p) (λ e. q)
