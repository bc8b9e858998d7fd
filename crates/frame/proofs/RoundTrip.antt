-- What is written is read: a frame's wire form gives the frame back; a call uses all of it and is between packets again.
-- What is read can be written: a frame that was read and is written again reads the same, and where both ENDs stood around
-- it, the bytes written are the very bytes read.
use Rattle.std.specs.Prelude.{ℕ, ◌≤◌, ◌≡◌, List, [], ◌∷◌, ◌++◌, length}
use Rattle.std.proofs.Common.{sym, ap, ◌∙◌, length-append, add-one}
use Rattle.std.proofs.Math.Option.{some}
use Rattle.std.proofs.Math.Seq.{append_snoc}
use Rattle.line.specs.Reader as line
use Rattle.line.specs.Pieces.{NoEnd, Bytes}
use Rattle.frame.specs.Frame.{frame, max_data, framed, wire}
use Rattle.frame.proofs.JudgeLaws.{framed-accepted, framed_again}
use Rattle.frame.specs.Reader.{END, escape, onward, outcomes, scan, State, emptied, inside, verdict, step, read}
use Rattle.frame.proofs.ReaderLaws.{closed-one, outcomes_end, read-closed, accepted-closes, closed-frame, read_data}
use Rattle.frame.specs.EscapeLaws.{escape_no_end, sent-escape, sent-bytes, decoded-sent}
use Rattle.frame.proofs.DamageLaws.{whole-read}

-- the wire form gives the frame, whatever follows
pub written-outcome : (c : ℕ) (d : List ℕ) → length d ≤ max_data → (rest : List ℕ)
    → outcomes step emptied (wire c d ++ rest) ≡ frame c d ∷ outcomes step emptied rest
unfolding wire
written-outcome c d n rest =
    outcomes_end (escape (framed c d) ++ END ∷ [] ++ rest)
    ∙ ap (outcomes step emptied) (append_snoc (escape (framed c d)) END rest)
    ∙ whole-read (framed c d) (framed-accepted c d n) rest

-- a call on it gives the frame, uses it up and is between packets again
pub written_read : (c : ℕ) (d : List ℕ) → length d ≤ max_data
    → read emptied (wire c d) ≡ record { used = length (wire c d); outcome = some (frame c d); after = emptied }
unfolding wire scan onward step line.step verdict line.close
written_read c d n =
    let f : List ℕ = framed c d in
    rw (read-closed emptied (escape f) [] (frame c d) (escape_no_end f) (accepted-closes f (framed-accepted c d n)), length-append, add-one)

-- a frame that some call read reads the same when it is written
pub read_again : (s : State) (w : List ℕ) {c : ℕ} {d : List ℕ} → (read s w).outcome ≡ some (frame c d)
    → read emptied (wire c d) ≡ record { used = length (wire c d); outcome = some (frame c d); after = emptied }
read_again s w {c} {d} e = written_read c d (read_data s w e)

-- between the two ENDs that a sender writes, a frame is read from the bytes that are written for it and no others
pub same_bytes : (p : List ℕ) {c : ℕ} {d : List ℕ} → NoEnd p → Bytes p → outcomes step emptied (END ∷ (p ++ END ∷ [])) ≡ frame c d ∷ []
    → wire c d ≡ END ∷ (p ++ END ∷ [])
unfolding wire
same_bytes p {c} {d} n b e =
    let o = closed-one p (frame c d) n (sym (outcomes_end (p ++ END ∷ [])) ∙ e) in
    let (h, q, j) = closed-frame (inside emptied p) o in
    let s = decoded-sent p h n q in
    let f : framed c d ≡ h = framed_again h j (sent-bytes s b) in
    ap (λ (l : List ℕ). END ∷ (l ++ END ∷ [])) (ap escape f ∙ sym (sent-escape s))
