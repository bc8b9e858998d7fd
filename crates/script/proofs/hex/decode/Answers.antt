use Rattle.std.proofs.Common.{◌≡◌, ◌≢◌, refl, sym, ◌∙◌, arith, [], ◌∷◌, false, true, length, eq-eqb, eqb-true, ne_eqb, lt-ltb, le-ltb}
use Rattle.std.proofs.lemmas.Bool.{eqb-false}
use Rattle.memory.specs.Octets.{same}
use Rattle.memory.specs.OctetsLaws.{same_equal}
use Rattle.text.specs.Text.{ascii}
use Rattle.script.specs.Script.{is_bytes, pairs, bytes}
use Rattle.script.proofs.Same.{same-by}
use Rattle.script.proofs.hex.decode.Goals as goal
use Rattle.script.proofs.hex.decode.Goals.{then-is_empty-via-then-is_empty, then-is_empty-via-else-is_empty+then-text-ne0}

pub returns-then-eq : goal.returns-then-eq
unfolding bytes is_bytes same ascii pairs
returns-then-eq c =
    let dash : same c.args.text.now (45 ∷ []) ≡ true = same-by c.args.text.now (45 ∷ []) c.eq.ensures c.if-eq.true in
    rw (same_equal c.args.text.now (45 ∷ []) dash) (refl, omega arith)

pub returns-then-is_empty : goal.returns-then-is_empty
unfolding bytes is_bytes ascii
returns-then-is_empty c =
    let w = c.args.text.now in
    let no_dash : same w (45 ∷ []) ≡ false = same-by c.args.text.now (45 ∷ []) c.eq.ensures c.if-eq.false in
    elim c.then-is_empty.branch [
      | then-is_empty-via-then-is_empty w ↦
          let empty : length c.args.text.now ≡ 0 = eqb-true (length c.args.text.now) 0 (sym c.is_empty.ensures ∙ w.if-is_empty.true) in
          rw (no_dash, le-ltb 0 (length c.args.text.now) (omega arith))
      | then-is_empty-via-else-is_empty+then-text-ne0 w ↦
          let some : length c.args.text.now ≢ 0 = eqb-false (length c.args.text.now) 0 (sym c.is_empty.ensures ∙ w.if-is_empty.false) in
          rw (no_dash, lt-ltb 0 (length c.args.text.now) (omega arith), ne_eqb _ _ w.if-text-ne0.true)
    ]

pub returns : goal.returns
unfolding bytes is_bytes ascii
returns c =
    let w = c.args.text.now in
    let no_dash : same w (45 ∷ []) ≡ false = same-by c.args.text.now (45 ∷ []) c.eq.ensures c.if-eq.false in
    let some : length w ≢ 0 = eqb-false (length w) 0 (sym c.is_empty.ensures ∙ c.if-is_empty.false) in
    rw (no_dash, lt-ltb 0 (length w) (omega arith), eq-eqb _ _ c.if-text-ne0.false) c.store_pairs.ensures
