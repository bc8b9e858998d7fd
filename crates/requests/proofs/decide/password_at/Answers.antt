use mathlib.Core.Path.{◌∙◌, ap}
use Prim.Native.Nat.{ℕ}
use native.Mathlib.Nat.{add-sub_cancel_left}
use lib.ListN.{take, drop}
use Rattle.rules.specs.Hub.{password_size}
use Rattle.requests.proofs.decide.password_at.Goals as goal

pub returns : goal.returns
returns c =
    let a = c.args in
    c.copy_from_slice.ensures.after ∙ ap (λ (k : ℕ). take k (drop a.start a.payload.now)) (add-sub_cancel_left a.start password_size)
