-- Reading byte by byte is cutting at every END and decoding each piece, places included.
use Rattle.std.specs.Prelude.{ℕ, ◌+◌, ◌≡◌, refl, List, [], ◌∷◌, ◌++◌, Bool, length, ltb, eqb}
use Rattle.std.proofs.Math.Path.{sym, ap}
use Rattle.std.proofs.Common.{◌∙◌, append-nil, append_assoc, eqb-true, ne_eqb}
use Rattle.std.proofs.Math.Bool.{true, false, cond}
use Rattle.std.proofs.Math.Option.{Option, none, some}
use Rattle.std.proofs.Math.Seq.{append_snoc}
use Rattle.std.proofs.lemmas.Bool.{eqb-false}
use Rattle.line.specs.declared.Fault.TheVariants.{WrongEscape, TooLong}
use Rattle.line.specs.Wire.{END, ESC, ESC-END, ESC-ESC, escape}
use Rattle.line.specs.Scan.{also, outcomes, final}
use Rattle.line.specs.Places.{WirePlace, wire_at, wire_length, behind, behind_esc}
use Rattle.line.specs.PlaceLaws.{wire_length_append, wire_length-one}
use Rattle.line.specs.Reader.{limit, refusal, wrong_escape, too_long, State, plain, escaped, skipping, emptied, Outcome, refused, decoded, inner, inside, close, step}
use Rattle.line.specs.ReaderLaws.{cond-holds, inside_append, inside_skipping}
use Rattle.line.specs.EveryLaws.{every_append}
use Rattle.line.specs.Pieces.{closed, last, Symbol, one, two, wrong, half, symbols, fault_at, settle, decode, outcome, piece_outcomes, joined, Every, NoEnd}
use Rattle.line.specs.Standing.{standing}
use Rattle.line.specs.StandingLaws.{standing-wire, plain_escaped}

-- ---- a piece

-- behind the bytes h the next symbol stands at their wire length
abbrev settled : List ℕ → List Symbol → State
settled h r = settle (wire_at (wire_length h)) h r

module _ (w : List ℕ) (r : List Symbol) (ih : (h : List ℕ) → settled h r ≡ inside (plain h) w) where
  -- a decoded byte that takes n wire bytes
  settle_byte : (h : List ℕ) (b n : ℕ) → wire_length (b ∷ []) ≡ n
      → cond (ltb (length h) limit) (settle (wire_at (wire_length h + n)) (h ++ b ∷ []) r) (skipping (fault_at TooLong (wire_at (wire_length h)) h)) ≡ inside (decoded h b) w
  unfolding decoded too_long behind
  settle_byte h b n x = go (ltb (length h) limit)
    where
      go : (t : Bool)
          → cond t (settle (wire_at (wire_length h + n)) (h ++ b ∷ []) r) (skipping (fault_at TooLong (wire_at (wire_length h)) h))
          ≡ inside (cond t (plain (h ++ b ∷ [])) (skipping (too_long h))) w
      go true =
          ap (λ (k : ℕ). settle (wire_at k) (h ++ b ∷ []) r) (ap (λ (k : ℕ). wire_length h + k) (sym x) ∙ sym (wire_length_append h (b ∷ [])))
          ∙ ih (h ++ b ∷ [])
      go false = sym (inside_skipping (too_long h) w)

  -- one that goes as it is
  settle-one : (h : List ℕ) (b : ℕ) → eqb b END ≡ false → eqb b ESC ≡ false → settled h (one b ∷ r) ≡ inside (decoded h b) w
  unfolding settle
  settle-one h b x y = settle_byte h b 1 (wire_length-one b ∙ rw (x, y))

  -- an ESC and what follows it
  settle-escape : (h : List ℕ) (c : ℕ) → settled h (cond (eqb c ESC-END) (two END ∷ r) (cond (eqb c ESC-ESC) (two ESC ∷ r) (wrong ∷ []))) ≡ inside (escaped h) (c ∷ w)
  unfolding settle inside inner wrong_escape behind_esc
  settle-escape h c = go (eqb c ESC-END) (eqb c ESC-ESC)
    where
      go : (t u : Bool)
          → settled h (cond t (two END ∷ r) (cond u (two ESC ∷ r) (wrong ∷ [])))
          ≡ inside (cond t (decoded h END) (cond u (decoded h ESC) (skipping (wrong_escape h)))) w
      go true u = settle_byte h END 2 (wire_length-one END)
      go false true = settle_byte h ESC 2 (wire_length-one ESC)
      go false false = sym (inside_skipping (wrong_escape h) w)

-- the first fault settles a piece: decoding it is reading it byte by byte
settle-symbols : (h p : List ℕ) → NoEnd p → settled h (symbols p) ≡ inside (plain h) p
unfolding symbols settle inside inner
settle-symbols h [] n = refl
settle-symbols h (b ∷ []) n = go (eqb b ESC) refl
  where
    go : (t : Bool) → eqb b ESC ≡ t → settled h (cond t half (one b) ∷ []) ≡ cond t (escaped h) (decoded h b)
    go true x = refl
    go false x = settle-one [] [] (λ k. refl) h b (ne_eqb b END n.0) x
settle-symbols h (b ∷ c ∷ w) n = pair h b c w n (λ k. settle-symbols k w n.1.1) (λ k. settle-symbols k (c ∷ w) n.1)
  where
    pair : (h : List ℕ) (b c : ℕ) (w : List ℕ) → NoEnd (b ∷ c ∷ w)
        → ((k : List ℕ) → settled k (symbols w) ≡ inside (plain k) w)
        → ((k : List ℕ) → settled k (symbols (c ∷ w)) ≡ inside (plain k) (c ∷ w))
        → settled h (symbols (b ∷ c ∷ w)) ≡ inside (plain h) (b ∷ c ∷ w)
    pair h b c w n x y = go (eqb b ESC) refl
      where
        go : (t : Bool) → eqb b ESC ≡ t
            → settled h (cond t (cond (eqb c ESC-END) (two END ∷ symbols w) (cond (eqb c ESC-ESC) (two ESC ∷ symbols w) (wrong ∷ []))) (one b ∷ symbols (c ∷ w)))
            ≡ inside (cond t (escaped h) (decoded h b)) (c ∷ w)
        go true z = settle-escape w (symbols w) x h c
        go false z = settle-one (c ∷ w) (symbols (c ∷ w)) y h b (ne_eqb b END n.0) z

pub decode-inside : (p : List ℕ) → NoEnd p → decode p ≡ inside emptied p
unfolding decode wire_length escape
decode-inside p n = settle-symbols [] p n

-- ---- its END

-- a state that some byte has led to
abbrev Started : State → Type 0
Started (plain []) = ⊥
Started (plain (b ∷ h)) = Unit {0}
Started (escaped h) = Unit {0}
Started (skipping f) = Unit {0}

longer : (h : List ℕ) (b : ℕ) → Started (plain (h ++ b ∷ []))
longer [] b = tt
longer (x ∷ h) b = tt

decoded_started : (h : List ℕ) (b : ℕ) → Started (decoded h b)
unfolding decoded
decoded_started h b = cond-holds Started (ltb (length h) limit) _ _ (longer h b) tt

inner_started : (s : State) (b : ℕ) → Started (inner s b)
unfolding inner
inner_started (plain h) b = cond-holds Started (eqb b ESC) _ _ tt (decoded_started h b)
inner_started (escaped h) b =
    cond-holds Started (eqb b ESC-END) _ _ (decoded_started h END) (cond-holds Started (eqb b ESC-ESC) _ _ (decoded_started h ESC) tt)
inner_started (skipping f) b = tt

inside_started : (s : State) (p : List ℕ) → Started s → Started (inside s p)
unfolding inside
inside_started s [] x = x
inside_started s (b ∷ p) x = inside_started (inner s b) p (inner_started s b)

close_started : (p : List ℕ) (s : State) → Started s → ((h : List ℕ) → s ≡ escaped h → length p ≡ wire_length h + 1) → close s ≡ some (outcome p s)
unfolding close outcome wrong_escape behind_esc
close_started p (plain []) x n = absurd x
close_started p (plain (b ∷ h)) x n = refl
close_started p (escaped h) x n = ap (λ (k : ℕ). some (refused (refusal (fault_at WrongEscape (wire_at k) h)))) (sym (n h refl))
close_started p (skipping f) x n = refl

-- behind an ESC as many wire bytes stand as the bytes held take, and that ESC
escaped_wire : (p h : List ℕ) → NoEnd p → inside emptied p ≡ escaped h → length p ≡ wire_length h + 1
unfolding behind_esc
escaped_wire p h n e = ap (λ (w : WirePlace). w.0) (sym (standing-wire p (behind_esc h) n (ap standing e)))

-- a closed piece that is not empty gives the outcome of its bytes
close_piece : (b : ℕ) (p : List ℕ) → NoEnd (b ∷ p) → close (inside emptied (b ∷ p)) ≡ some (outcome (b ∷ p) (decode (b ∷ p)))
unfolding inside
close_piece b p n =
    close_started (b ∷ p) (inside (inner emptied b) p) (inside_started (inner emptied b) p (inner_started emptied b)) (λ h e. escaped_wire (b ∷ p) h n e)
    ∙ ap (λ (s : State). some (outcome (b ∷ p) s)) (sym (decode-inside (b ∷ p) n))

-- ---- the whole wire

also_piece : (p : List ℕ) (l : List Outcome) (ps : List (List ℕ)) → NoEnd p → l ≡ piece_outcomes ps → also (close (inside emptied p)) l ≡ piece_outcomes (p ∷ ps)
unfolding inside close piece_outcomes
also_piece [] l ps n e = e
also_piece (b ∷ p) l ps n e = rw (close_piece b p n, e)

no_end_more : (p : List ℕ) (b : ℕ) → NoEnd p → eqb b END ≡ false → NoEnd (p ++ b ∷ [])
no_end_more p b n e = every_append (λ b. b ≡ END → ⊥) p (b ∷ []) n (eqb-false b END e, tt)

outcomes_next : (p : List ℕ) (b : ℕ) (w : List ℕ) → NoEnd p → outcomes step emptied w ≡ piece_outcomes (closed [] w)
    → (NoEnd (p ++ b ∷ []) → outcomes step (inside emptied (p ++ b ∷ [])) w ≡ piece_outcomes (closed (p ++ b ∷ []) w))
    → outcomes step (inside emptied p) (b ∷ w) ≡ piece_outcomes (closed p (b ∷ w))
unfolding outcomes closed step inside
outcomes_next p b w n x y = go (eqb b END) refl
  where
    s : State
    s = inside emptied p

    go : (t : Bool) → eqb b END ≡ t
        → also (cond {A = State × Option Outcome} t (emptied, close s) (inner s b, none)).1
        (outcomes step (cond {A = State × Option Outcome} t (emptied, close s) (inner s b, none)).0 w)
        ≡ piece_outcomes (cond t (p ∷ closed [] w) (closed (p ++ b ∷ []) w))
    go true e = also_piece p (outcomes step emptied w) (closed [] w) n x
    go false e = ap (λ (z : State). outcomes step z w) (sym (inside_append emptied p (b ∷ []))) ∙ y (no_end_more p b n e)

-- both rules give the same outcomes with the same places, also where a piece p is open at the start
pub outcomes_pieces : (p w : List ℕ) → NoEnd p → outcomes step (inside emptied p) w ≡ piece_outcomes (closed p w)
unfolding outcomes closed piece_outcomes inside
outcomes_pieces p [] n = refl
outcomes_pieces p (b ∷ w) n = outcomes_next p b w n (outcomes_pieces [] w tt) (outcomes_pieces (p ++ b ∷ []) w)

final_next : (p : List ℕ) (b : ℕ) (w : List ℕ) → NoEnd p → final step emptied w ≡ decode (last [] w)
    → (NoEnd (p ++ b ∷ []) → final step (inside emptied (p ++ b ∷ [])) w ≡ decode (last (p ++ b ∷ []) w))
    → final step (inside emptied p) (b ∷ w) ≡ decode (last p (b ∷ w))
unfolding final last step inside
final_next p b w n x y = go (eqb b END) refl
  where
    s : State
    s = inside emptied p

    go : (t : Bool) → eqb b END ≡ t
        → final step (cond {A = State × Option Outcome} t (emptied, close s) (inner s b, none)).0 w ≡ decode (cond t (last [] w) (last (p ++ b ∷ []) w))
    go true e = x
    go false e = ap (λ (z : State). final step z w) (sym (inside_append emptied p (b ∷ []))) ∙ y (no_end_more p b n e)

-- and the same end state: the open last piece is kept
pub final_pieces : (p w : List ℕ) → NoEnd p → final step (inside emptied p) w ≡ decode (last p w)
unfolding final last inside
final_pieces p [] n = sym (decode-inside p n)
final_pieces p (b ∷ w) n = final_next p b w n (final_pieces [] w tt) (final_pieces (p ++ b ∷ []) w)

-- ---- a packet's piece

-- it is the one escaped form of the packet's bytes, and a place in that form is a place in the piece
pub packet_escaped : (p h : List ℕ) → NoEnd p → decode p ≡ plain h → p ≡ escape h
packet_escaped p h n e = plain_escaped p h n (sym (decode-inside p n) ∙ e)

-- and its END behind all of them
pub end_in_piece : (p h : List ℕ) → NoEnd p → decode p ≡ plain h → (behind h).wire ≡ wire_at (length p)
unfolding behind wire_length
end_in_piece p h n e = ap (λ (l : List ℕ). wire_at (length l)) (sym (packet_escaped p h n e))

-- ---- the cut

-- bytes without an END only add to the piece that they stand in
pub closed-from : (p q w : List ℕ) → NoEnd q → closed p (q ++ w) ≡ closed (p ++ q) w
unfolding closed
closed-from p [] w x = ap (λ (z : List ℕ). closed z w) (sym (append-nil p))
closed-from p (b ∷ q) w x =
    rw (ne_eqb b END x.0) (closed-from (p ++ b ∷ []) q w x.1) ∙ ap (λ (z : List ℕ). closed z w) (append_snoc p b q)

pub last-from : (p q w : List ℕ) → NoEnd q → last p (q ++ w) ≡ last (p ++ q) w
unfolding last
last-from p [] w x = ap (λ (z : List ℕ). last z w) (sym (append-nil p))
last-from p (b ∷ q) w x =
    rw (ne_eqb b END x.0) (last-from (p ++ b ∷ []) q w x.1) ∙ ap (λ (z : List ℕ). last z w) (append_snoc p b q)

-- the pieces are the wire's, each closed by an END, and the last open one
pub cut_joined : (p w : List ℕ) → joined (closed p w) ++ last p w ≡ p ++ w
unfolding closed last joined
cut_joined p [] = sym (append-nil p)
cut_joined p (b ∷ w) = go (eqb b END) refl (cut_joined [] w) (cut_joined (p ++ b ∷ []) w)
  where
    go : (t : Bool) → eqb b END ≡ t → joined (closed [] w) ++ last [] w ≡ w → joined (closed (p ++ b ∷ []) w) ++ last (p ++ b ∷ []) w ≡ p ++ b ∷ [] ++ w
        → joined (cond t (p ∷ closed [] w) (closed (p ++ b ∷ []) w)) ++ cond t (last [] w) (last (p ++ b ∷ []) w) ≡ p ++ b ∷ w
    go true e x y = rw (append_assoc, x, eqb-true b END e)
    go false e x y = y ∙ append_snoc p b w

-- no piece holds an END
pub cut_no_end : (p w : List ℕ) → NoEnd p → Every NoEnd (closed p w) × NoEnd (last p w)
unfolding closed last
cut_no_end p [] x = (tt, x)
cut_no_end p (b ∷ w) x = go (eqb b END) refl (cut_no_end [] w tt) (cut_no_end (p ++ b ∷ []) w)
  where
    go : (t : Bool) → eqb b END ≡ t → Every NoEnd (closed [] w) × NoEnd (last [] w)
        → (NoEnd (p ++ b ∷ []) → Every NoEnd (closed (p ++ b ∷ []) w) × NoEnd (last (p ++ b ∷ []) w))
        → Every NoEnd (cond t (p ∷ closed [] w) (closed (p ++ b ∷ []) w)) × NoEnd (cond t (last [] w) (last (p ++ b ∷ []) w))
    go true e y z = ((x, y.0), y.1)
    go false e y z = z (every_append (λ b. b ≡ END → ⊥) p (b ∷ []) x (eqb-false b END e, tt))
