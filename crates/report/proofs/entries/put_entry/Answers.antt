use Rattle.std.proofs.Common.{◌*◌, ◌≤◌, ◌≡◌, length, take, arith, length-take}
use Rattle.text.specs.Text.{ascii}
use Rattle.text.specs.BuiltLaws.{built_wrote, built_word, built_all, built_room}
use Rattle.report.specs.Entry.{name_size, name_length, name_of, shown_all}
use Rattle.report.specs.EntryLaws.{shown_all_short}
use Rattle.report.proofs.entries.put_entry.Goals as goal

pub put_name-requires : goal.put_name-requires
put_name-requires c =
    let room = built_room (4 * name_size) c.put_head.ensures (omega arith) in
    omega (arith, room, length-take c.name_length-len.result c.args.name.now, c.requires.short)

pub returns : goal.returns
unfolding ascii
returns c =
    let name = c.args.name.now in
    let whole : take c.name_length-len.result name ≡ name_of name = rw c.name_length-len.ensures.0 in
    let short : length (shown_all (name_of name)) ≤ 4 * name_size = omega (arith, shown_all_short (name_of name), length-take (name_length name) name, c.requires.short) in
    built_all (omega arith)
    (built_word (ascii "\"\n") (omega arith) c.append.ensures.leaves
    (built_wrote (shown_all (name_of name)) (4 * name_size) short (rw whole at c.put_name.ensures) c.put_head.ensures))
