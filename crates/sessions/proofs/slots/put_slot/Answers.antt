use Rattle.sessions.specs.Sessions.{slot_size, with_slot}
use Rattle.memory.specs.WroteLaws.{sets_append}
use native.Mathlib.Omega.{arith}
use mathlib.Core.List.{[], ◌∷◌}
use Prim.Native.Nat.{◌*◌, ◌/◌, ◌%◌}
use mathlib.Core.Path.{◌≡◌, ◌∙◌}
use Rattle.sessions.proofs.slots.put_slot.Goals as goal

pub returns : goal.returns
unfolding with_slot
returns c =
    let s = c.args.slot in
    let head = s.used ∷ s.line ∷ s.number / 256 ∷ s.number % 256 ∷ [] in
    let high : s.number / 256 % 256 ≡ s.number / 256 = omega arith in
    c.copy-2.ensures ∙ rw (c.copy.ensures, c.to_be_bytes.ensures, high) (sets_append head s.nodes c.args.slots.now (c.args.k * slot_size))
