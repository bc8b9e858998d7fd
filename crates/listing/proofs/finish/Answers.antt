-- The line fits, so it stands at the buffer's front, and the front is what is written.
use Rattle.std.proofs.Common.{arith, rules, OnOk, ◌≡◌, ◌≤◌, ◌+◌, ◌++◌, ◌∙◌, List, ℕ, ap, subst, length, length-append, length-drop, take, drop, take_at}
use Rattle.std.specs.Io.KnownBytes.{Appends}
use Rattle.lister.specs.Lines.{left_line, LINE}
use Rattle.lister.specs.LinesLaws.{left_line_short}
use Rattle.lister.specs.ListingLaws.{last_line_front}
use Rattle.listing.proofs.finish.Goals as goal

-- how long what was put in front of the bytes from n on is
front_long : (l before after : List ℕ) (n : ℕ) → after ≡ l ++ drop n before → length after ≡ length before → n ≤ length before → length l ≡ n
front_long l before after n e same within =
    let long : length after ≡ length l + length (drop n before) = ap length e ∙ length-append l (drop n before) in
    omega (arith, length-drop n before)

pub returns : goal.returns
returns g c =
    let n = c.last_line-n.result in
    let x = c.last_line-n.ensures in
    let short : length (left_line c.args.left) ≤ LINE = left_line_short c.args.left (search rules) in
    let front = last_line_front (omega arith) x in
    subst (λ (l : List ℕ). OnOk c.write_all.result (Appends (g.W.Write.contents c.args.output.now) (g.W.Write.contents c.write_all.new.self) l))
    (ap (take n) front ∙ take_at (left_line c.args.left) (drop n _) n (front_long _ _ _ n front (omega arith) x.within)) c.write_all.ensures.bytes
