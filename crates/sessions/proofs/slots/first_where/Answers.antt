use Prim.Native.Nat.{ℕ}
use Rattle.std.specs.List.{find, range_with_len}
use Rattle.std.specs.Option.{option_map}
use Rattle.std.proofs.lemmas.Iterator.{YieldsList-from_range}
use Rattle.std.proofs.lemmas.Iterator.Adapters.{option_map_id, position_from-zero}
use Rattle.std.proofs.lemmas.Iterator.Search.{find_from_yields_List}
use Rattle.sessions.specs.Sessions.{closed_slot, slots_of, slot_at}
use Rattle.sessions.specs.SlotLaws.{slots_count}
use Rattle.sessions.proofs.SearchWords.{find_from}
use borrow.Author.Rules.{rules}
use native.Mathlib.Nat.{zero-add}
use mathlib.Core.Path.{◌≡◌, refl, sym, ap, ◌∙◌}
use Rattle.sessions.proofs.slots.first_where.Goals as goal

pub returns : goal.returns
returns g c p h =
    let b = c.args.slots.now in
    let found : option_map (λ x. x) c.find.result ≡ find (λ k. p (slot_at b k)) (range_with_len 0 8) =
    find_from_yields_List (λ k. p (slot_at b k)) _ _ c.find.result c.find.ensures.ran (YieldsList-from_range 0 8 8 refl refl) (λ x r q e. search rules) in
    sym (option_map_id c.find.result) ∙ found
    ∙ rw (slots_count b) at (find_from p (λ k. p (slot_at b k)) closed_slot (slots_of b) 0 (λ k i. ap (λ (j : ℕ). p (slot_at b j)) (zero-add k)))
    ∙ sym (position_from-zero p (slots_of b))
