use Rattle.std.proofs.Common.{◌<◌, ◌≡◌, length, ap, refl, arith, rules}
use Rattle.text.specs.Text.{ascii}
use Rattle.text.specs.AppendedLaws.{leaves-whole}
use Rattle.text.specs.BytesLaws.{bytes_word-none, bytes_word-some, length-hex_pairs}
use Rattle.text.proofs.page.Page.put_bytes.Goals as goal

pub returns-then-is_empty : goal.returns-then-is_empty
unfolding ascii
returns-then-is_empty c =
    let none : length c.args.bytes.now ≡ 0 = search rules in
    rw (bytes_word-none _ none) c.append.ensures

pub hex_pairs-self-requires : goal.hex_pairs-self-requires
hex_pairs-self-requires c =
    let bytes = c.args.bytes.now in
    let some : 0 < length bytes = search rules in
    omega (arith, ap length (bytes_word-some bytes some), length-hex_pairs bytes)

pub returns : goal.returns
returns c =
    let some : 0 < length c.args.bytes.now = search rules in
    record { same = refl; leaves = leaves-whole (rw (bytes_word-some c.args.bytes.now some) c.hex_pairs-self.ensures) c.requires }
