use mathlib.Core.Path.{◌≡◌, sym, ap, ◌∙◌}
use mathlib.Core.Bool.{true, false}
use native.Mathlib.Omega.{arith}
use lib.ListN.{length}
use Rattle.std.specs.Prelude.{is_some}
use Rattle.nodes.specs.Table.{information_size, information, is_told}
use Rattle.replies.specs.ReplyLaws.{known_told, told-bytes, told-length, about_node-none, about_node-told}
use Rattle.replies.proofs.writing.about_node.Goals as goal

pub both-requires : goal.both-requires
both-requires c =
    let told : is_told c.args.table.now c.args.node ≡ true = sym (known_told _ _) ∙ ap is_some (sym c.in-Some.ensures) in
    let told_of : c.in-Some.bytes ≡ information c.args.table.now c.args.node = cc (told-bytes _ _ told) in
    let long : length c.in-Some.bytes ≡ information_size = ap length told_of ∙ told-length _ _ told in
    rw long (omega arith, omega arith)

pub returns-in-Some : goal.returns-in-Some
returns-in-Some c =
    let told : is_told c.args.table.now c.args.node ≡ true = sym (known_told _ _) ∙ ap is_some (sym c.in-Some.ensures) in
    let told_of : c.in-Some.bytes ≡ information c.args.table.now c.args.node = cc (told-bytes _ _ told) in
    rw (about_node-told _ _ told, ← told_of) (rw c.from-status.ensures at c.both.ensures)

pub returns-in-None : goal.returns-in-None
returns-in-None c =
    let untold : is_told c.args.table.now c.args.node ≡ false = sym (known_told _ _) ∙ ap is_some (sym c.in-None.ensures) in
    rw (about_node-none _ _ untold) (rw c.from-status-in-None.ensures at c.one.ensures)
