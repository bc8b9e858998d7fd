use Rattle.std.specs.Prelude.{is_some}
use Rattle.std.specs.List.{list_any}
use Rattle.sessions.specs.Search.{any}
use Rattle.sessions.specs.SearchLaws.{any_swap}
use Rattle.sessions.specs.Sessions.{slots_of, holds}
use Rattle.sessions.proofs.SearchWords.{any_is, some_position}
use borrow.Author.Rules.{rules}
use mathlib.Core.Path.{◌≡◌, sym, ap, ◌∙◌}
use Rattle.sessions.proofs.opening.any_held.Goals as goal

pub returns : goal.returns
returns c =
    let is = c.args.indices.now in
    c.is_some.ensures
    ∙ ap is_some (c.first_where.ensures (λ s. any (λ n. holds n s) is) (λ s r e. let held : r ≡ list_any (λ n. holds n s) is = search rules in held ∙ any_is (λ n. holds n s) is))
    ∙ some_position (λ s. any (λ n. holds n s) is) (slots_of c.args.slots.now)
    ∙ sym (any_swap (λ n s. holds n s) is (slots_of c.args.slots.now))
