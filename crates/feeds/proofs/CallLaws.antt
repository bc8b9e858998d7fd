-- Laws of one call, by the refusal that applies to it: what it uses, what it tells and what it leaves.
use Rattle.std.specs.Prelude.{ℕ, zero, suc, ◌≤◌, ◌<◌, refl, List, [], ◌∷◌, take}
use Rattle.std.proofs.Math.Path.{◌≡◌, ap}
use Rattle.std.proofs.Common.{◌∙◌}
use Rattle.std.proofs.Math.Option.{Option, none, some, none-ne-some}
use native.Mathlib.Omega.{arith}
use Rattle.std.proofs.Math.ListN.{length}
use Rattle.frame.specs.Frame as packet
use Rattle.frame.specs.Frame.{Refusal, Outcome}
use Rattle.frame.specs.Reader.{also, onward, outcomes, scan, State, emptied, step, read}
use Rattle.frame.proofs.ReaderLaws.{step_resets, used-some, used_within}
use Rattle.feeds.specs.System.{System, refused, told, serve_if, settled, decided, call, error_reply, OnlyErrorReply}
use Rattle.feeds.specs.Marks.{count_of}

-- After a call's outcome the reading is between packets.
pub read_resets : (s : State) (w : List ℕ) (o : Outcome) → (read s w).outcome ≡ some o → (read s w).after ≡ emptied
unfolding scan onward
read_resets s [] o e = absurd (none-ne-some o e)
read_resets s (b ∷ w) o e = go (step s b).1 refl (read_resets (step s b).0 w o) e
  where
    go : (x : Option Outcome) → (step s b).1 ≡ x → ((read (step s b).0 w).outcome ≡ some o → (read (step s b).0 w).after ≡ emptied)
        → (onward (step s b).0 x (read (step s b).0 w)).outcome ≡ some o → (onward (step s b).0 x (read (step s b).0 w)).after ≡ emptied
    go none p ih e = ih e
    go (some y) p ih e = step_resets s b y p

-- Fewer bytes than a call uses give no outcome.
pub read_first : (s : State) (w : List ℕ) (n : ℕ) → n < (read s w).used → outcomes step s (take n w) ≡ []
unfolding scan onward outcomes
read_first s w zero h = refl
read_first s [] (suc n) h = refl
read_first s (b ∷ w) (suc n) h = go (step s b).1 (read_first (step s b).0 w n) h
  where
    go : (x : Option Outcome) → (n < (read (step s b).0 w).used → outcomes step (step s b).0 (take n w) ≡ [])
        → suc n < (onward (step s b).0 x (read (step s b).0 w)).used → also x (outcomes step (step s b).0 (take n w)) ≡ []
    go none ih h = ih (omega arith)
    go (some y) ih h = absurd (omega arith)

module _ (H : System) (h : H.Hub) (t : H.Table) (s : State) (l : ℕ) (bytes : List ℕ) (room : ℕ) where
  -- A refused call uses nothing, sends nothing and changes nothing.
  pub call_refused : (n : ℕ) → H.refusal h t s l bytes room ≡ some n → call H h t s l bytes room ≡ record { hub = h; table = t; state = s; result = record { answer = refused n; reply = [] } }
  unfolding call decided
  call_refused n p = rw p

  -- Any other reads the bytes and serves the outcome.
  pub call-read : H.refusal h t s l bytes room ≡ none → call H h t s l bytes room ≡ settled H (read s bytes) (serve_if H h t l (read s bytes).outcome)
  unfolding call decided
  call-read p = rw p

  -- An answer that tells a refusal is that of a refused call.
  pub answer_refused : (n : ℕ) → (call H h t s l bytes room).result.answer ≡ refused n → H.refusal h t s l bytes room ≡ some n
  unfolding call decided settled
  answer_refused n = go (H.refusal h t s l bytes room)
    where
      go : (r : Option ℕ) → (decided H h t l s (read s bytes) r).result.answer ≡ refused n → r ≡ some n
      go (some k) p = let z : k ≡ n = cc in ap some z
      go none p = let z : ◌≡◌ {A = ℕ} 0 1 = cc in absurd (omega arith)

  -- No call uses more than it was given.
  pub call_within : count_of (call H h t s l bytes room).result.answer ≤ length bytes
  unfolding call decided settled count_of
  call_within = go (H.refusal h t s l bytes room)
    where
      go : (r : Option ℕ) → count_of (decided H h t l s (read s bytes) r).result.answer ≤ length bytes
      go (some n) = omega arith
      go none = used_within step s bytes

  -- A call with bytes to which no refusal applies uses at least one.
  pub call-some : H.refusal h t s l bytes room ≡ none → 0 < length bytes → 0 < count_of (call H h t s l bytes room).result.answer
  unfolding call decided settled count_of
  call-some p x = rw p (used-some step s bytes x)

  -- A refused packet is used up and brings one error reply only.
  pub packet_refused : OnlyErrorReply H → (n : Refusal) → H.refusal h t s l bytes room ≡ none → (read s bytes).outcome ≡ some (packet.refused n)
      → call H h t s l bytes room ≡ record {
        hub = h;
        table = t;
        state = emptied;
        result = record { answer = told (read s bytes).used (some (packet.refused n)) (length error_reply); reply = error_reply };
      }
  unfolding settled serve_if
  packet_refused only n p q = call-read p ∙ rw (q, only h t l n, read_resets s bytes (packet.refused n) q)
