use Rattle.std.proofs.Common.{ℕ, ◌≡◌, ap, List, ◌++◌, Bool, append_assoc, arith}
use Rattle.std.proofs.lemmas.List.{length-replicate}
use Rattle.line.specs.declared.Places.{Places}
use Rattle.text.specs.Text.{ascii, decimal}
use Rattle.text.specs.Bytes.{bytes_word}
use Rattle.text.specs.Built.{Built}
use Rattle.text.specs.BuiltLaws.{built_none, built_word, built_more, built_all, built_text}
use Rattle.text.specs.NumberedLaws.{built_numbered}
use Rattle.text.specs.Places.{places_word}
use Rattle.text.specs.PlacesLaws.{places_word_short}
use Rattle.report.specs.Report.{head_size, placed_size, line_end, packet_line}
use Rattle.report.proofs.outcomes.packet_line.Goals as goal

-- the line is its head, the number, what stands behind it, and the reply
parts : (used number : ℕ) (places : Places) (reply : List ℕ) (spilled : Bool)
    → packet_line used number places reply spilled
    ≡ ascii "used " ++ decimal used ++ ascii " packet " ++ decimal number ++ (places_word places ++ ascii " reply ") ++ bytes_word reply ++ line_end spilled
unfolding packet_line
parts used number places reply spilled =
    ap (λ (l : List ℕ). l ++ bytes_word reply ++ line_end spilled)
    (append_assoc (ascii "used " ++ decimal used ++ ascii " packet " ++ decimal number) (places_word places) (ascii " reply "))

pub returns : goal.returns
unfolding ascii
returns c =
    let a = c.args in
    let headed : Built head_size head_size (ascii "used " ++ decimal a.used ++ ascii " packet ") c.append_numbered.new.self.out.now c.append_numbered.new.self.at =
    built_all (omega arith)
    (built_numbered (ascii "used ") a.used (ascii " packet ") (omega arith) (omega arith) c.append_numbered.ensures.leaves
    (built_none _ head_size (length-replicate {A = ℕ} head_size 0))) in
    let placed : Built placed_size placed_size (places_word a.places ++ ascii " reply ") c.append.new.self.out.now c.append.new.self.at =
    built_all (omega arith)
    (built_word (ascii " reply ") (omega arith) c.append.ensures.leaves
    (built_more (places_word a.places) 45 (places_word_short a.places (omega arith) (omega arith)) (omega arith) c.append_places.ensures.leaves
    (built_none _ placed_size (length-replicate {A = ℕ} placed_size 0)))) in
    rw (parts a.used a.number a.places a.reply.bytes.now a.reply.spilled)
    (rw (c.from.ensures, c.written.ensures, c.written-2.ensures, built_text headed, built_text placed) at c.reply_line.ensures)
