-- The states that bytes leave are exactly those within the bounds.
use Rattle.std.specs.Prelude.{ℕ, zero, suc, ◌+◌, ◌-◌, ◌*◌, ◌≤◌, ◌<◌, ◌≡◌, Bool, cond, ◌&&◌, length, take, replicate, ltb, leb}
use Rattle.std.proofs.Math.Path.{refl}
use Rattle.std.proofs.Common.{ap, ◌∙◌, arith, length-append, ltb-true, ltb-false, leb-true, eqb-true, le-ltb, le-leb, eq-eqb, ne_eqb}
use mathlib.Core.List.{List, [], ◌∷◌, ◌++◌}
use Rattle.std.proofs.Math.Bool.{true, false, and-eq-true_iff}
use Rattle.std.proofs.Math.Option.{Option, none}
use Rattle.std.proofs.lemmas.List.{length-replicate}
use Rattle.std.proofs.Math.Dec.{eqb}
use Rattle.std.proofs.lemmas.Bool.{eqb-false}
use Rattle.line.specs.declared.Fault.{Fault}
use Rattle.line.specs.declared.Fault.TheVariants.{WrongEscape, TooLong}
use Rattle.line.specs.Wire.{END, ESC, ESC-END, ESC-ESC, escape}
use Rattle.line.specs.Scan.{also, outcomes, final}
use Rattle.line.specs.ScanLaws.{scan-tells}
use Rattle.line.specs.Places.{WirePlace, DecodedPlace, FaultAt, wire_length, behind, behind_esc}
use Rattle.line.specs.PlaceLaws.{wire_length_append, wire_length_least, wire_length_most}
use Rattle.line.specs.Reader.{limit, wrong_escape, too_long, State, plain, escaped, skipping, emptied, held, Outcome, decoded, inner, inside, close, step, read}
use Rattle.line.specs.ReaderLaws.{cond-holds, inside_append, inside_escaped}
use Rattle.line.specs.Pieces.{Every, NoEnd, Bytes}
use Rattle.line.specs.EveryLaws.{every_all, every_map, every_append, every_replicate}
use Rattle.line.specs.Reachable.{DecodedFits, least_wire, most_wire, Possible, decoded_fits, possible, PossibleOutcome, Reachable, mixed, settling, written}

-- ---- the bounds

pub wrong_escape-possible : (h : List ℕ) → length h ≤ limit → Possible (wrong_escape h)
unfolding wrong_escape behind_esc
wrong_escape-possible h x =
    record { decoded = x; least = omega (arith, wire_length_least h); most = omega (arith, wire_length_most h) }

pub too_long-possible : (h : List ℕ) → length h ≡ limit → Possible (too_long h)
unfolding too_long behind
too_long-possible h x =
    record { decoded = x; least = wire_length_least h; most = wire_length_most h }

-- the test says so
fits_true : (x : Fault) (d : DecodedPlace) → decoded_fits x d ≡ true → DecodedFits x d
unfolding decoded_fits
fits_true WrongEscape d e = leb-true d.0 limit e
fits_true TooLong d e = eqb-true d.0 limit e

fits_test : (x : Fault) (d : DecodedPlace) → DecodedFits x d → decoded_fits x d ≡ true
unfolding decoded_fits
fits_test WrongEscape d h = le-leb d.0 limit h
fits_test TooLong d h = eq-eqb d.0 limit h

pub possible-true : (f : FaultAt) → possible f ≡ true → Possible f
unfolding possible
possible-true f e =
    let w = f.at.wire.0 in
    let l = (least_wire f.fault f.at.decoded).0 in
    let m = (most_wire f.fault f.at.decoded).0 in
    let a = decoded_fits f.fault f.at.decoded in
    let x = (and-eq-true_iff (a && leb l w) (leb w m)).0 e in
    let y = (and-eq-true_iff a (leb l w)).0 x.0 in
    record { decoded = fits_true f.fault f.at.decoded y.0; least = leb-true l w y.1; most = leb-true w m x.1 }

pub possible_test : (f : FaultAt) → Possible f → possible f ≡ true
unfolding possible
possible_test f p = rw (fits_test f.fault f.at.decoded p.decoded, le-leb _ _ p.least, le-leb _ _ p.most)

decoded_reachable : (h : List ℕ) (b : ℕ) → length h ≤ limit → Reachable (decoded h b)
unfolding decoded
decoded_reachable h b x = go (ltb (length h) limit) refl
  where
    go : (t : Bool) → ltb (length h) limit ≡ t → Reachable (cond t (plain (h ++ b ∷ [])) (skipping (too_long h)))
    go true e = omega (arith, ltb-true, length-append h (b ∷ []))
    go false e = too_long-possible h (omega (arith, ltb-false))

inner_reachable : (s : State) (b : ℕ) → Reachable s → Reachable (inner s b)
unfolding inner
inner_reachable (plain h) b x = cond-holds Reachable (eqb b ESC) _ _ x (decoded_reachable h b x)
inner_reachable (escaped h) b x =
    cond-holds Reachable (eqb b ESC-END) _ _ (decoded_reachable h END x)
    (cond-holds Reachable (eqb b ESC-ESC) _ _ (decoded_reachable h ESC x) (wrong_escape-possible h x))
inner_reachable (skipping f) b x = x

step_reachable : (s : State) (b : ℕ) → Reachable s → Reachable (step s b).0
unfolding step
step_reachable s b x = go (eqb b END)
  where
    go : (t : Bool) → Reachable (cond {A = State × Option Outcome} t (emptied, close s) (inner s b, none)).0
    go true = omega arith
    go false = inner_reachable s b x

pub step-possible : (s : State) (b : ℕ) (f : FaultAt) → Reachable s → step s b ≡ (skipping f, none) → Possible f
step-possible s b f x e =
    let z : (step s b).0 ≡ skipping f = ap (λ (y : State × Option Outcome). y.0) e in
    rw z at (step_reachable s b x)

-- no bytes leave a state beyond the bounds, nor places beyond them
pub final_reachable : (s : State) (w : List ℕ) → Reachable s → Reachable (final step s w)
unfolding final
final_reachable s [] x = x
final_reachable s (b ∷ w) x = final_reachable (step s b).0 w (step_reachable s b x)

pub read_reachable : (s : State) (w : List ℕ) → Reachable s → Reachable (read s w).after
read_reachable s w x = rw (scan-tells step s w).after at (final_reachable s (take (read s w).used w) x)

pub bytes_reachable : (w : List ℕ) → Reachable (final step emptied w)
bytes_reachable w = final_reachable emptied w (omega arith)

close-possible : (s : State) (l : List Outcome) → Reachable s → Every PossibleOutcome l → Every PossibleOutcome (also (close s) l)
unfolding close
close-possible (plain []) l x y = y
close-possible (plain (b ∷ h)) l x y = ((omega arith, x), y)
close-possible (escaped h) l x y = ((wrong_escape h, wrong_escape-possible h x, refl), y)
close-possible (skipping f) l x y = ((f, x, refl), y)

-- and none give an outcome with places beyond them
pub outcomes-possible : (s : State) (w : List ℕ) → Reachable s → Every PossibleOutcome (outcomes step s w)
unfolding outcomes step
outcomes-possible s [] x = tt
outcomes-possible s (b ∷ w) x = go (eqb b END) (outcomes-possible emptied w (omega arith)) (outcomes-possible (inner s b) w (inner_reachable s b x))
  where
    go : (t : Bool) → Every PossibleOutcome (outcomes step emptied w) → Every PossibleOutcome (outcomes step (inner s b) w)
        → Every PossibleOutcome
        (also (cond {A = State × Option Outcome} t (emptied, close s) (inner s b, none)).1
        (outcomes step (cond {A = State × Option Outcome} t (emptied, close s) (inner s b, none)).0 w))
    go true y z = close-possible s (outcomes step emptied w) x y
    go false y z = z

-- ---- every state within the bounds is left by some bytes

-- n bytes with e of them escaped
mixed-length : (n e : ℕ) → e ≤ n → length (mixed n e) ≡ n
mixed-length n e x = omega (arith, length-append (replicate e END) (replicate (n - e) 0), length-replicate {A = ℕ} e END, length-replicate {A = ℕ} (n - e) 0)

escape_ends : (e : ℕ) → wire_length (replicate e END) ≡ 2 * e
unfolding wire_length escape
escape_ends zero = refl
escape_ends (suc e) = let x = escape_ends e in omega arith

escape_zeros : (n : ℕ) → wire_length (replicate n 0) ≡ n
unfolding wire_length escape
escape_zeros zero = refl
escape_zeros (suc n) = let x = escape_zeros n in omega arith

mixed-wire : (n e : ℕ) → e ≤ n → wire_length (mixed n e) ≡ n + e
mixed-wire n e x = omega (arith, wire_length_append (replicate e END) (replicate (n - e) 0), escape_ends e, escape_zeros (n - e))

-- the bytes before a fault fix its places
wrong_escape_places : (h : List ℕ) (w : WirePlace) (d : DecodedPlace) → wire_length h + 1 ≡ w.0 → length h ≡ d.0
    → wrong_escape h ≡ record { fault = WrongEscape; at = record { wire = w; decoded = d } }
unfolding wrong_escape behind_esc
wrong_escape_places h w d x y = rw (x, y)

too_long_places : (h : List ℕ) (w : WirePlace) (d : DecodedPlace) → wire_length h ≡ w.0 → length h ≡ d.0
    → too_long h ≡ record { fault = TooLong; at = record { wire = w; decoded = d } }
unfolding too_long behind
too_long_places h w d x y = rw (x, y)

-- a byte that is decoded behind 255 others
pub decoded-full : (h : List ℕ) (b : ℕ) → length h ≡ limit → decoded h b ≡ skipping (too_long h)
unfolding decoded
decoded-full h b x = rw (le-ltb (length h) limit (omega arith))

settling_reaches : (x : Fault) (w : WirePlace) (d : DecodedPlace) → Possible (record { fault = x; at = record { wire = w; decoded = d } })
    → inside emptied (settling x w d) ≡ skipping (record { fault = x; at = record { wire = w; decoded = d } })
unfolding inside inner
settling_reaches WrongEscape w d p =
    let n = d.0 in
    let e = w.0 - (least_wire WrongEscape d).0 in
    let m = mixed n e in
    let a : n ≤ limit = p.decoded in
    let b : n + 1 ≤ w.0 = p.least in
    let c : w.0 ≤ 2 * n + 1 = p.most in
    let x : e ≤ n = omega arith in
    inside_append emptied (escape m) (ESC ∷ 0 ∷ [])
    ∙ ap (λ (s : State). inside s (ESC ∷ 0 ∷ [])) (inside_escaped [] m (omega (arith, mixed-length n e x)))
    ∙ ap skipping (wrong_escape_places m w d (omega (arith, mixed-wire n e x)) (mixed-length n e x))
settling_reaches TooLong w d p =
    let n = d.0 in
    let e = w.0 - (least_wire TooLong d).0 in
    let m = mixed n e in
    let a : n ≡ limit = p.decoded in
    let b : n ≤ w.0 = p.least in
    let c : w.0 ≤ 2 * n = p.most in
    let x : e ≤ n = omega arith in
    inside_append emptied (escape m) (0 ∷ [])
    ∙ ap (λ (s : State). inside s (0 ∷ [])) (inside_escaped [] m (omega (arith, mixed-length n e x)))
    ∙ decoded-full m 0 (mixed-length n e x ∙ a)
    ∙ ap skipping (too_long_places m w d (omega (arith, mixed-wire n e x)) (mixed-length n e x))

pub written_reaches : (s : State) → Reachable s → inside emptied (written s) ≡ s
unfolding written inside inner
written_reaches (plain h) x = inside_escaped [] h (omega arith)
written_reaches (escaped h) x = inside_append emptied (escape h) (ESC ∷ []) ∙ ap (λ (s : State). inner s ESC) (inside_escaped [] h (omega arith))
written_reaches (skipping f) x = settling_reaches f.fault f.at.wire f.at.decoded x

-- what holds of ESC, of the bytes behind it and of each byte that is no END, holds of all that is sent
module _ (P : ℕ → Type 0) (zero_byte : P 0) (esc : P ESC) (esc_end : P ESC-END) (esc_esc : P ESC-ESC) where
  escape_every : (p : List ℕ) → Every (λ b. eqb b END ≡ false → P b) p → Every P (escape p)
  unfolding escape
  escape_every [] x = tt
  escape_every (b ∷ p) x = go (eqb b END) refl (eqb b ESC) (escape_every p x.1)
    where
      go : (t : Bool) → eqb b END ≡ t → (u : Bool) → Every P (escape p)
          → Every P (cond t (ESC ∷ ESC-END ∷ escape p) (cond u (ESC ∷ ESC-ESC ∷ escape p) (b ∷ escape p)))
      go true e u y = (esc, (esc_end, y))
      go false e true y = (esc, (esc_esc, y))
      go false e false y = (x.0 e, y)

  mixed_every : (n e : ℕ) → Every P (escape (mixed n e))
  mixed_every n e =
      escape_every (mixed n e)
      (every_append (λ b. eqb b END ≡ false → P b) (replicate e END) (replicate (n - e) 0)
      (every_replicate (λ b. eqb b END ≡ false → P b) e END (λ x. let z : ◌≡◌ {A = ℕ} 0 1 = cc in absurd (omega arith)))
      (every_replicate (λ b. eqb b END ≡ false → P b) (n - e) 0 (λ x. zero_byte)))

  settling_every : (f : Fault) (w : WirePlace) (d : DecodedPlace) → Every P (settling f w d)
  settling_every WrongEscape w d =
      every_append P (escape (mixed d.0 (w.0 - (least_wire WrongEscape d).0))) (ESC ∷ 0 ∷ []) (mixed_every d.0 (w.0 - (least_wire WrongEscape d).0)) (esc, (zero_byte, tt))
  settling_every TooLong w d =
      every_append P (escape (mixed d.0 (w.0 - (least_wire TooLong d).0))) (0 ∷ []) (mixed_every d.0 (w.0 - (least_wire TooLong d).0)) (zero_byte, tt)

  -- of the bytes that lead to a state, too
  written_every : (s : State) → Every (λ b. eqb b END ≡ false → P b) (held s) → Every P (written s)
  unfolding written
  written_every (plain h) x = escape_every h x
  written_every (escaped h) x = every_append P (escape h) (ESC ∷ []) (escape_every h x) (esc, tt)
  written_every (skipping f) x = settling_every f.fault f.at.wire f.at.decoded

-- no byte of them is an END
pub written_no_end : (s : State) → NoEnd (written s)
written_no_end s =
    written_every (λ b. b ≡ END → ⊥) (λ e. omega arith) (λ e. omega arith) (λ e. omega arith) (λ e. omega arith) s
    (every_all (λ b. eqb b END ≡ false → b ≡ END → ⊥) (λ b. eqb-false b END) (held s))

-- where the bytes held are bytes, so are they
pub written-bytes : (s : State) → Bytes (held s) → Bytes (written s)
written-bytes s x =
    written_every (λ b. b < 256) (omega arith) (omega arith) (omega arith) (omega arith) s
    (every_map (λ b. b < 256) (λ b. eqb b END ≡ false → b < 256) (λ b h e. h) (held s) x)

-- bytes without an END are read one after another
pub final-inside : (s : State) (p : List ℕ) → NoEnd p → final step s p ≡ inside s p
unfolding final step inside
final-inside s [] n = refl
final-inside s (b ∷ p) n = rw (ne_eqb b END n.0) (final-inside (inner s b) p n.1)

-- every state within the bounds is left by an open piece, read from between packets
pub reachable_written : (s : State) → Reachable s → final step emptied (written s) ≡ s
reachable_written s x = final-inside emptied (written s) (written_no_end s) ∙ written_reaches s x

-- ---- the places of a fault

-- every pair within the bounds is met by the bytes of an open piece, read from between packets
pub possible_met : (f : FaultAt) → Possible f → (p : List ℕ) × NoEnd p × Bytes p × (final step emptied p ≡ skipping f)
possible_met f x = (written (skipping f), written_no_end (skipping f), written-bytes (skipping f) tt, reachable_written (skipping f) x)

-- and no pair beyond them is met by any bytes
pub met_possible : (w : List ℕ) (f : FaultAt) → final step emptied w ≡ skipping f → Possible f
met_possible w f e = rw e at (bytes_reachable w)
