-- Each promise can be kept, whatever is lent: so every list of calls, and of feeds, can be made.
use Rattle.std.specs.Prelude.{ℕ, zero, suc, ◌+◌, ◌-◌, ◌≤◌, ◌≡◌, refl, Bool, true, false, not, List, ◌∷◌, ◌++◌, length, drop, replicate, ltb, eqb, Ok, Err}
use Rattle.std.proofs.Common.{sym, ap, ◌∙◌, arith, length-append}
use Rattle.std.proofs.Math.Option.{Option, none, some, none-ne-some}
use Rattle.std.proofs.lemmas.List.{length-replicate}
use Rattle.std.proofs.Math.Seq.{take-append_seam}
use Rattle.line.specs.declared.Reading.{Reading}
use Rattle.line.specs.declared.Mode.TheVariants.{Plain}
use Rattle.frame.specs.declared.Cause.{Cause}
use Rattle.frame.specs.declared.Cause.TheVariants as cause
use Rattle.frame.specs.declared.FrameOutcome.{FrameOutcome as Given}
use Rattle.frame.specs.declared.FrameOutcome.TheVariants as given
use Rattle.frame.specs.Frame as packet
use Rattle.frame.specs.Frame.{Numbered, low, longer, Outcome, frame, refused, head}
use Rattle.frame.specs.Answers as answers
use Rattle.frame.specs.Line.{limit, Reachable, record_of, taken_reachable, taken_record, record_bounded}
use Rattle.frame.specs.Reader.{State, emptied_reading, taken, read}
use Rattle.frame.proofs.ReaderLaws.{closed-number, read_told, read_reachable, read_data}
use Rattle.nodes.specs.Table.{table_size, is_node, in_use, emptied, enrolled}
use Rattle.sessions.specs.Sessions as sessions
use Rattle.feeds.specs.System as system
use Rattle.feeds.specs.System.{Called, call, settled, serve_if}
use Rattle.feeds.proofs.CallLaws.{read_resets, call_refused, call-read}
use Rattle.passwords.specs.Passwords.{stored}
use Rattle.rules.specs.declared.Hub.{Hub}
use Rattle.rules.specs.Hub.{line_count, password_size, wrong_table, wrong_line, short_room, refuse_if, fresh_hub, closed_line, with_slots, notice, written, feed_refusal, hub}
use Rattle.rules.specs.declared.CallRefusal.{CallRefusal}
use Rattle.rules.specs.declared.CallRefusal.TheVariants as call_cause
use Rattle.rules.specs.Answers.{CallAnswer, FinishAnswer, FeedAnswer, number, Bounded}
use Rattle.rules.specs.Promises.{Starts, Enrols, Closes, Finishes, Feeds}

-- ---- host calls

pub start-any : (h : Hub) (t p : List ℕ) → (a : CallAnswer) × (h' : Hub) × (t' : List ℕ) × Starts h t p a h' t'
start-any h t p = go (not (eqb (length t) table_size)) refl (not (eqb (length p) password_size)) refl
  where
    go : (x : Bool) → not (eqb (length t) table_size) ≡ x → (y : Bool) → not (eqb (length p) password_size) ≡ y → (a : CallAnswer) × (h' : Hub) × (t' : List ℕ) × Starts h t p a h' t'
    go true e y f = (Err call_cause.WrongTable, h, t, rw e)
    go false e true f = (Err call_cause.WrongPassword, h, t, rw (e, f))
    go false e false f = (Ok tt, fresh_hub (stored p), emptied t, rw (e, f))

pub enrol-any : (t : List ℕ) (n type : ℕ) → (a : CallAnswer) × (t' : List ℕ) × Enrols t n type a t'
enrol-any t n type = go (not (eqb (length t) table_size)) refl (not (is_node n)) refl (in_use t n) refl
  where
    go : (x : Bool) → not (eqb (length t) table_size) ≡ x → (y : Bool) → not (is_node n) ≡ y → (z : Bool) → in_use t n ≡ z → (a : CallAnswer) × (t' : List ℕ) × Enrols t n type a t'
    go true e y f z g = (Err call_cause.WrongTable, t, rw e)
    go false e true f z g = (Err call_cause.WrongNode, t, rw (e, f))
    go false e false f true g = (Err call_cause.NodeInUse, t, rw (e, f, g))
    go false e false f false g = (Ok tt, enrolled t n type, rw (e, f, g))

pub close-any : (h : Hub) (s : Reading) (l : ℕ) → (a : CallAnswer) × (h' : Hub) × (e : Reading) × Closes h s l a h' e
close-any h s l = go (not (ltb l line_count)) refl
  where
    go : (x : Bool) → not (ltb l line_count) ≡ x → (a : CallAnswer) × (h' : Hub) × (e : Reading) × Closes h s l a h' e
    go true p = (Err call_cause.WrongLine, h, s, record { refusal = rw p; hub = rw p; state = rw p; kept = λ n q. refl; bounded = tt })
    go false p = (
      Ok tt,
      closed_line h l,
      emptied_reading,
      record { refusal = rw p; hub = rw p; state = rw p; kept = λ n q. absurd (none-ne-some n q); bounded = (refl, omega arith, tt) },
    )

pub finish-any : (h : Hub) (x : ℕ) (room : List ℕ) → (a : FinishAnswer) × (h' : Hub) × (left : List ℕ) × Finishes h x room a h' left
finish-any h x room = go (ltb (length room) (length (notice x))) refl (sessions.finish h.slots x) refl
  where
    go : (b : Bool) → ltb (length room) (length (notice x)) ≡ b → (o : Option sessions.Finished) → sessions.finish h.slots x ≡ o
        → (a : FinishAnswer) × (h' : Hub) × (left : List ℕ) × Finishes h x room a h' left
    go b p none q = (Err call_cause.NotOpen, h, room, record { answer = rw q; hub = rw q; room = rw q })
    go true p (some f) q = (Err call_cause.ShortRoom, h, room, record { answer = rw (p, q); hub = rw (p, q); room = rw (p, q) })
    go false p (some f) q = (
      Ok (record { line = f.line; len = length (notice x) }),
      with_slots h f.slots,
      notice x ++ drop (length (notice x)) room,
      record { answer = rw (p, q); hub = rw (p, q); room = rw (p, q) },
    )

-- ---- feed

-- each number of a packet refusal is that of a cause
low_cause : (n : ℕ) → 1 ≤ n → n ≤ 6 → (c : Cause) × (packet.number c ≡ n)
low_cause zero l g = absurd (omega arith)
low_cause (suc zero) l g = (cause.WrongEscape, refl)
low_cause (suc (suc zero)) l g = (cause.TooLong, refl)
low_cause (suc (suc (suc zero))) l g = (cause.TooShort, refl)
low_cause (suc (suc (suc (suc zero)))) l g = (cause.WrongProtocol, refl)
low_cause (suc (suc (suc (suc (suc zero))))) l g = (cause.BelowLength, refl)
low_cause (suc (suc (suc (suc (suc (suc zero)))))) l g = (cause.WrongCheck, refl)
low_cause (suc (suc (suc (suc (suc (suc (suc n))))))) l g = absurd (omega arith)

cause_of : (n : ℕ) → Numbered n → (c : Cause) × (packet.number c ≡ n)
cause_of n (low l g) = low_cause n l g
cause_of n longer = (cause.BeyondLength, refl)

-- what reading told and left, as a record that tells and is taken so
record Held (o : Option Outcome) (s : State) : Type 0 where
  outcome : Given
  reading : Reading
  told : answers.told outcome reading.bytes ≡ o
  state : taken reading ≡ s
  bounded : Bounded reading
  within : answers.Within outcome

-- the outcome of a call of the reader, begun in a state that bytes leave
held-outcome : (s : State) (w : List ℕ) → Reachable s → (o : Option Outcome) → (read s w).outcome ≡ o → Held o (read s w).after
held-outcome s w x none e =
    let y = read_reachable s w x in
    record { outcome = given.Nothing; reading = record_of (read s w).after; told = refl; state = taken_record (read s w).after y; bounded = record_bounded (read s w).after y; within = tt }
held-outcome s w x (some (frame c d)) e =
    let n = read_data s w e in
    let behind : List ℕ = replicate (limit - (head + length d)) 0 in
    record {
      outcome = given.Frame c (length d);
      reading = record { bytes = 0 ∷ 0 ∷ 0 ∷ 0 ∷ d ++ behind; count = 0; mode = Plain };
      told = rw (take-append_seam d behind);
      state = sym (read_resets s w (frame c d) e);
      bounded = (omega (arith, length-append d behind, length-replicate {A = ℕ} (limit - (head + length d)) 0), omega arith, tt);
      within = n;
    }
held-outcome s w x (some (refused n)) e =
    let (t, y) = read_told s w (refused n) e in
    let (c, z) = cause_of n.number (closed-number t n y) in
    record {
      outcome = given.Refused (record { cause = c; at = n.at });
      reading = emptied_reading;
      told = ap (λ (k : ℕ). some (refused (record { number = k; at = n.at }))) z;
      state = sym (read_resets s w (refused n) e);
      bounded = (refl, omega arith, tt);
      within = tt;
    }

-- a feed's refusal is that of a cause
refusal_cause : (h : Hub) (t : List ℕ) (s : State) (l : ℕ) (bytes : List ℕ) (room n : ℕ) → feed_refusal h t s l bytes room ≡ some n → (c : CallRefusal) × (number c ≡ n)
refusal_cause h t s l bytes room n =
    go (not (eqb (length t) table_size)) (not (ltb l line_count)) (ltb room (length (written h t l (read s bytes).outcome)))
  where
    go : (a b d : Bool) → refuse_if a wrong_table (refuse_if b wrong_line (refuse_if d short_room none)) ≡ some n → (c : CallRefusal) × (number c ≡ n)
    go true b d e = (call_cause.WrongTable, cc)
    go false true d e = (call_cause.WrongLine, cc)
    go false false true e = (call_cause.ShortRoom, cc)
    go false false false e = let z : ◌≡◌ {A = ℕ} 0 1 = cc in absurd (omega arith)

-- whatever is lent
pub feed-any : (h : Hub) (t : List ℕ) (r : Reading) (l : ℕ) (bytes space : List ℕ)
    → (a : FeedAnswer) × (h' : Hub) × (t' : List ℕ) × (e : Reading) × (left : List ℕ) × Feeds h t r l bytes space a h' t' e left
unfolding settled
feed-any h t r l bytes space = go (feed_refusal h t (taken r) l bytes (length space)) refl
  where
    s : State
    s = taken r

    go : (x : Option ℕ) → feed_refusal h t s l bytes (length space) ≡ x
        → (a : FeedAnswer) × (h' : Hub) × (t' : List ℕ) × (e : Reading) × (left : List ℕ) × Feeds h t r l bytes space a h' t' e left
    go (some n) p =
        let (c, z) = refusal_cause h t s l bytes (length space) n p in
        let e = sym (call_refused hub h t s l bytes (length space) n p) in (
          Err c,
          h,
          t,
          r,
          space,
          record {
            hub = ap (λ (w : Called hub). w.hub) e;
            table = ap (λ (w : Called hub). w.table) e;
            state = ap (λ (w : Called hub). w.state) e;
            answer = ap system.refused z ∙ ap (λ (w : Called hub). w.result.answer) e;
            room = ap (λ (w : Called hub). w.result.reply ++ drop (length w.result.reply) space) e;
            kept = λ k q. refl;
            bounded = tt;
          },
        )
    go none p =
        let x = read s bytes in
        let y = serve_if hub h t l x.outcome in
        let v = held-outcome s bytes (taken_reachable r) x.outcome refl in
        let e : settled hub x y ≡ call hub h t s l bytes (length space) = sym (call-read hub h t s l bytes (length space) p) in (
          Ok (record { used = x.used; outcome = v.outcome; len = length y.reply }),
          y.hub,
          y.table,
          v.reading,
          y.reply ++ drop (length y.reply) space,
          record {
            hub = ap (λ (w : Called hub). w.hub) e;
            table = ap (λ (w : Called hub). w.table) e;
            state = v.state ∙ ap (λ (w : Called hub). w.state) e;
            answer = ap (λ (o : Option Outcome). system.told x.used o (length y.reply)) v.told ∙ ap (λ (w : Called hub). w.result.answer) e;
            room = ap (λ (w : Called hub). w.result.reply ++ drop (length w.result.reply) space) e;
            kept = λ k q. let z : ◌≡◌ {A = ℕ} 0 1 = cc in absurd (omega arith);
            bounded = (v.bounded, v.within);
          },
        )
