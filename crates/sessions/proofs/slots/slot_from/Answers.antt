use Rattle.sessions.specs.Sessions.{slot_size, mark_bytes, marks_at}
use Prim.Native.Nat.{◌+◌, ◌-◌}
use native.Mathlib.Omega.{arith}
use mathlib.Core.Path.{◌≡◌}
use Rattle.sessions.proofs.slots.slot_from.Goals as goal

pub returns : goal.returns
returns c =
    let i = c.args.at in
    let wide : i + slot_size - (i + marks_at) ≡ mark_bytes = omega arith in
    simp (c.from_be_bytes.ensures, c.copy_from_slice.ensures.after, wide)
