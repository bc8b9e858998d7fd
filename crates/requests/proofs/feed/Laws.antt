-- Laws of the call: what it gives keeps feed's promise.
use Prim.Native.Nat.{ℕ, ◌≤◌, ◌<◌}
use Rattle.std.specs.Prelude.{Ok, Err}
use mathlib.Core.Path.{◌≡◌, refl, sym, ap, ◌∙◌}
use mathlib.Core.List.{List, ◌++◌}
use mathlib.Core.Option.{some}
use native.Mathlib.Omega.{arith}
use lib.ListN.{length, drop}
use Rattle.line.specs.declared.Reading.{Reading}
use Rattle.frame.specs.declared.FrameOutcome.{FrameOutcome}
use Rattle.frame.specs.declared.FrameOutcome.TheVariants as told_as
use Rattle.frame.specs.Line.{Answer}
use Rattle.frame.specs.Frame.{max_data}
use Rattle.frame.specs.Reader.{taken, read}
use Rattle.frame.specs.Answers as outcome
use Rattle.nodes.specs.Table.{table_size}
use Rattle.replies.specs.Messages.{bytes_of}
use Rattle.replies.specs.declared.Reply.{Reply}
use Rattle.replies.specs.Replies.{says}
use Rattle.feeds.specs.System.{told, call, decided, settled}
use Rattle.feeds.proofs.CallLaws.{call_refused}
use Rattle.rules.specs.declared.Hub.{Hub}
use Rattle.rules.specs.declared.CallRefusal.{CallRefusal}
use Rattle.rules.specs.declared.CallRefusal.TheVariants as cause
use Rattle.rules.specs.Hub.{respond_if, written, feed_refusal, hub}
use Rattle.rules.proofs.RefusalLaws.{served, refused_room, not_refused}
use Rattle.rules.specs.Answers.{number}
use Rattle.rules.specs.Promises.{Feeds}
use Rattle.requests.specs.Answers.{Left, carried_out, data_length, data_in, Decides}

-- a frame's data lie within the record's array
pub data_bounded : (o : FrameOutcome) → outcome.Within o → data_length o ≤ max_data
data_bounded told_as.Nothing w = omega arith
data_bounded (told_as.Frame c n) w = w
data_bounded (told_as.Refused c) w = omega arith

module _ (h : Hub) (t : List ℕ) (r : Reading) (l : ℕ) (bytes space : List ℕ) where
  -- a refused feed leaves everything as it was lent
  pub refused_feeds : (why : CallRefusal) → feed_refusal h t (taken r) l bytes (length space) ≡ some (number why) → Feeds h t r l bytes space (Err why) h t r space
  refused_feeds why e =
      let x = call_refused hub h t (taken r) l bytes (length space) (number why) e in
      record { hub = rw x; table = rw x; state = rw x; answer = rw x; room = rw x; kept = λ m y. refl; bounded = tt }

  module _ (a : Answer FrameOutcome) (q : Reply) (right : length t ≡ table_size) (line : l ≤ 3) (x : outcome.Answers (read (taken r) bytes) a)
      (y : Decides (respond_if h t l (outcome.told a.outcome a.reading.bytes)) h t l (data_in a.outcome a.reading.bytes) q) where
    -- what is decided is what the feed writes
    to_write_lem : bytes_of (says t q) ≡ written h t l (read (taken r) bytes).outcome
    to_write_lem = rw (sym x.told) (ap bytes_of y.says)

    -- longer than the room, it is refused
    pub short_feeds : length space < length (bytes_of (says t q)) → Feeds h t r l bytes space (Err cause.ShortRoom) h t r space
    short_feeds k = refused_feeds cause.ShortRoom (refused_room h t (taken r) l bytes (length space) right line (rw to_write_lem at k))

    -- otherwise it is told, with hub and table as they are left
    pub told-feeds : (n : ℕ) (after : Hub) (table left : List ℕ) → length (bytes_of (says t q)) ≤ length space → n ≡ length (bytes_of (says t q))
        → record { hub = after; table = table } ≡ carried_out q h t l (data_in a.outcome a.reading.bytes) → left ≡ bytes_of (says t q) ++ drop (length (bytes_of (says t q))) space
        → Feeds h t r l bytes space (Ok (record { used = a.used; outcome = a.outcome; len = n })) after table a.reading left
    unfolding call decided settled
    told-feeds n after table left k len done room =
        let o = outcome.told a.outcome a.reading.bytes in
        let e = not_refused h t (taken r) l bytes (length space) right line (rw to_write_lem at k) in
        let w : bytes_of (says t q) ≡ written h t l o = ap bytes_of y.says in
        let both = done ∙ y.left in
        record {
          hub = rw (e, sym x.told, served h t l o) (ap (λ (z : Left). z.hub) both);
          table = rw (e, sym x.told, served h t l o) (ap (λ (z : Left). z.table) both);
          state = rw (e, sym x.told);
          answer = rw (e, sym x.told, served h t l o) (ap (told a.used o) (len ∙ ap length w));
          room = rw (e, sym x.told, served h t l o) (room ∙ ap (λ (z : List ℕ). z ++ drop (length z) space) w);
          kept = λ m z. let u : ◌≡◌ {A = ℕ} 0 1 = cc in absurd (omega arith);
          bounded = ((x.full, x.count_within, x.clear), x.data_within);
        }
