use Prim.Native.Nat.{ℕ}
use mathlib.Core.Bool.{◌&&◌}
use mathlib.Core.Path.{refl, sym, ap, ◌∙◌}
use Rattle.std.specs.List.{list_any}
use Rattle.std.proofs.lemmas.Iterator.{YieldsList-from_range}
use Rattle.std.proofs.lemmas.Iterator.Search.{any_from_yields_List}
use borrow.Author.Rules.{rules}
use Rattle.nodes.specs.Table.{node_count, is_removed}
use Rattle.sessions.specs.Search.{below}
use Rattle.sessions.specs.SessionLaws.{removed_none}
use Rattle.sessions.specs.Sessions.{holds, holds_removed}
use Rattle.sessions.proofs.SearchWords.{any_is, range_below}
use Rattle.sessions.proofs.closing.holds_removed.Goals as goal

pub returns-then-is_open : goal.returns-then-is_open
unfolding holds_removed
returns-then-is_open c =
    let test = λ (k : ℕ). holds k c.args.slot && is_removed c.args.table.now c.args.bits.now k in
    any_from_yields_List test _ _ c.any.result c.any.ensures.ran (YieldsList-from_range 0 200 200 refl refl) (λ x r q e. search rules)
    ∙ ap (list_any test) (range_below node_count) ∙ any_is test (below node_count)

pub returns-else-is_open : goal.returns-else-is_open
returns-else-is_open c = c.if-is_open.false ∙ sym (removed_none _ _ _ (sym c.is_open.ensures ∙ c.if-is_open.false))
