-- Judging lent bytes is reading their one escaped form, number and places the same (document 02, CR 2).
use Rattle.std.specs.Prelude.{ℕ, suc, ◌<◌, ◌≡◌, refl, List, [], ◌∷◌, ◌++◌, Bool, true, false, length, take, drop, get_or, leb}
use Rattle.std.proofs.Common.{sym, ap, ◌∙◌, arith, length-take-le, leb-true, leb-false}
use Rattle.std.proofs.Math.Option.{Option, some}
use Rattle.std.proofs.Math.Seq.{split_at}
use Rattle.std.proofs.lemmas.Bool.{lt-leb}
use Rattle.line.specs.declared.Places.{Places}
use Rattle.line.specs.WireLaws.{escape_append}
use Rattle.line.specs.Reader as line
use Rattle.line.specs.Reader.{limit, skipping, emptied, State}
use Rattle.line.specs.ReaderLaws.{inside_append, inside-escape, inside_escaped, inside_skipping}
use Rattle.line.specs.ReachableLaws.{decoded-full}
use Rattle.frame.specs.Frame.{escape, Outcome, refused, too_long, judge}
use Rattle.frame.specs.Reader.{END, also, inside, outcomes, verdict, step}
use Rattle.frame.proofs.ReaderLaws.{outcomes-closed}
use Rattle.frame.specs.EscapeLaws.{escape_no_end}
use Rattle.frame.proofs.PlaceLaws.{too_long_line}

-- more than 255 bytes are settled at the 256th,
long-settled : (h : List ℕ) → limit < length h → inside emptied (escape h) ≡ skipping (line.too_long (take limit h))
long-settled h x =
    let k = take limit h in
    let b = get_or h limit 0 in
    let r = drop (suc limit) h in
    let n : length k ≡ limit = length-take-le limit h (omega arith) in
    ap (λ (l : List ℕ). inside emptied (escape l)) (split_at h limit 0 x)
    ∙ ap (inside emptied) (escape_append k (b ∷ r))
    ∙ inside_append emptied (escape k) (escape (b ∷ r))
    ∙ ap (λ (s : State). inside s (escape (b ∷ r))) (inside_escaped [] k (omega arith))
    ∙ inside-escape k b r
    ∙ ap (λ (s : State). inside s (escape r)) (decoded-full k b n)
    ∙ inside_skipping (line.too_long k) (escape r)

-- which is where they are judged to break
long-judged : (h : List ℕ) → limit < length h → refused (line.refusal (line.too_long (take limit h))) ≡ judge h
unfolding judge too_long line.too_long
long-judged h x =
    let e : leb (length h) limit ≡ false = lt-leb (length h) limit x in
    rw e (ap (λ (q : Places). refused (record { number = 2; at = q })) (sym (too_long_line h (omega arith))))

escaped_closes : (b : ℕ) (h : List ℕ) → verdict (line.close (inside emptied (escape (b ∷ h)))) ≡ some (judge (b ∷ h))
unfolding verdict line.close
escaped_closes b h = go (leb (length (b ∷ h)) limit) refl
  where
    go : (t : Bool) → leb (length (b ∷ h)) limit ≡ t → verdict (line.close (inside emptied (escape (b ∷ h)))) ≡ some (judge (b ∷ h))
    go true e = ap (λ (s : State). verdict (line.close s)) (inside_escaped [] (b ∷ h) (omega (arith, leb-true (length (b ∷ h)) limit e)))
    go false e =
        let x : limit < length (b ∷ h) = leb-false (length (b ∷ h)) limit e in
        ap (λ (s : State). verdict (line.close s)) (long-settled (b ∷ h) x) ∙ ap some (long-judged (b ∷ h) x)

-- whatever bytes are lent, but for none: what is judged of them is what is read of their escaped form and an END
pub judged_escaped : (b : ℕ) (h rest : List ℕ) → outcomes step emptied (escape (b ∷ h) ++ END ∷ rest) ≡ judge (b ∷ h) ∷ outcomes step emptied rest
judged_escaped b h rest =
    outcomes-closed emptied (escape (b ∷ h)) rest (escape_no_end (b ∷ h))
    ∙ ap (λ (o : Option Outcome). also o (outcomes step emptied rest)) (escaped_closes b h)
