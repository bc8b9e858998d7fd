-- Demand 1, over the definitions: a refused call changes nothing, and when each is refused; a refused packet brings one error reply only.
use Rattle.std.specs.Prelude.{ℕ, ◌≤◌, ◌<◌, ◌≡◌, refl, List, [], ◌∷◌, ◌++◌, Bool, true, false, not, ltb, eqb, length, drop, replicate}
use Rattle.std.proofs.Common.{sym, ap, ◌∙◌, arith}
use Rattle.std.proofs.Math.Option.{Option, none, some, none-ne-some}
use Rattle.frame.specs.Frame.{Refusal, Outcome, refused, wire, escape, framed, body}
use Rattle.frame.specs.Xor as xor
use Rattle.line.specs.declared.Reading.{Reading}
use Rattle.frame.specs.Reader.{State, emptied, read, taken}
use borrow.Author.Tests.{eq-eqb, eqb-true, ne_eqb, lt-ltb, ltb-true, le-ltb}
use Rattle.passwords.specs.Passwords.{stored}
use Rattle.nodes.specs.Table.{table_size, node_count, in_use, enrolled}
use Rattle.nodes.specs.TableLaws.{used-below}
use Rattle.sessions.specs.Sessions as sessions
use Rattle.sessions.specs.Search.{any, first}
use Rattle.sessions.specs.Sessions.{sessions_size, slots_of, slot_at, with_slot, closed_slot, is_numbered}
use Rattle.feeds.specs.System.{refused as refused_feed, serve_if, Called, call}
use Rattle.feeds.proofs.CallLaws.{call_refused, answer_refused}
use Rattle.replies.specs.Messages.{error, bytes_of}
use Rattle.rules.specs.declared.Hub.{Hub}
use Rattle.rules.specs.Hub.{frame_error, respond, respond_if, Reply, serve, start_refusal, start_by, start, enrol_refusal, enrol_by, enrol, close_refusal, close_by, Closed, closed_line, close, Finish, refused_finish, finished_on, Finished, finish_by, finish, notice, with_slots, line_count, password_size, written, refuse_if, wrong_table, wrong_line, short_room, feed_refusal, hub}
use Rattle.rules.specs.Answers.{CallAnswer, FinishAnswer, refusal_of, finish_of}
use Rattle.rules.specs.Promises.{Closes, Finishes}

-- start gives back the hub and the table that it was lent
pub start_refused : (h : Hub) (t p : List ℕ) (n : ℕ) → (start h t p).refusal ≡ some n → start h t p ≡ record { refusal = some n; hub = h; table = t }
start_refused h t p n e = go (start_refusal t p) e
  where
    go : (o : Option ℕ) → (start_by o h t p).refusal ≡ some n → start_by o h t p ≡ record { refusal = some n; hub = h; table = t }
    go (some m) e = ap (λ (x : Option ℕ). record { refusal = x; hub = h; table = t }) e
    go none e = absurd (none-ne-some n e)

-- enrol gives back the table
pub enrol_refused : (t : List ℕ) (k type n : ℕ) → (enrol t k type).refusal ≡ some n → enrol t k type ≡ record { refusal = some n; table = t }
enrol_refused t k type n e = go (enrol_refusal t k) e
  where
    go : (o : Option ℕ) → (enrol_by o t k type).refusal ≡ some n → enrol_by o t k type ≡ record { refusal = some n; table = t }
    go (some m) e = ap (λ (x : Option ℕ). record { refusal = x; table = t }) e
    go none e = absurd (none-ne-some n e)

-- closing a line gives back the hub and the reading state
pub close_refused : (h : Hub) (s : State) (l n : ℕ) → (close h s l).refusal ≡ some n → close h s l ≡ record { refusal = some n; hub = h; state = s }
close_refused h s l n e = go (close_refusal l) e
  where
    go : (o : Option ℕ) → (close_by o h s l).refusal ≡ some n → close_by o h s l ≡ record { refusal = some n; hub = h; state = s }
    go (some m) e = ap (λ (x : Option ℕ). record { refusal = x; hub = h; state = s }) e
    go none e = absurd (none-ne-some n e)

-- finish gives back the hub, and writes nothing
pub finish_refused : (h : Hub) (x room n : ℕ) → (finish h x room).answer ≡ refused_finish n → finish h x room ≡ record { answer = refused_finish n; hub = h; reply = [] }
finish_refused h x room n e = go (sessions.finish h.slots x) (ltb room (length (notice x))) e
  where
    go : (o : Option sessions.Finished) (b : Bool) → (finish_by o b h x).answer ≡ refused_finish n → finish_by o b h x ≡ record { answer = refused_finish n; hub = h; reply = [] }
    go none b e = ap (λ (a : Finish). record { answer = a; hub = h; reply = [] }) e
    go (some f) true e = ap (λ (a : Finish). record { answer = a; hub = h; reply = [] }) e
    go (some f) false e = let z : ◌≡◌ {A = ℕ} 0 1 = cc in absurd (omega arith)

-- so does every close and finish that keeps its promise: hub, record and room are as they were lent
pub close-kept : (h : Hub) (s : Reading) (l : ℕ) (a : CallAnswer) (h' : Hub) (e : Reading) (n : ℕ) → Closes h s l a h' e → refusal_of a ≡ some n → (h' ≡ h) × (e ≡ s)
close-kept h s l a h' r n x e = (x.hub ∙ ap (λ (c : Closed). c.hub) (close_refused h (taken s) l n (sym x.refusal ∙ e)), x.kept n e)

pub finish-kept : (h : Hub) (y : ℕ) (space : List ℕ) (a : FinishAnswer) (h' : Hub) (left : List ℕ) (n : ℕ) → Finishes h y space a h' left → finish_of a ≡ refused_finish n → (h' ≡ h) × (left ≡ space)
finish-kept h y space a h' left n x e =
    let f = finish_refused h y (length space) n (sym x.answer ∙ e) in
    (x.hub ∙ ap (λ (c : Finished). c.hub) f, x.room ∙ ap (λ (c : Finished). c.reply ++ drop (length c.reply) space) f)

-- a refused packet brings the error frame with byte 2, and leaves hub and table
pub serve_refused : (h : Hub) (t : List ℕ) (l : ℕ) (n : Refusal) → serve h t l (refused n) ≡ record { hub = h; table = t; reply = bytes_of (error frame_error ∷ []) }
unfolding serve respond
serve_refused h t l n = refl

-- a refused feed is as if it had not been: the same bytes, or others, with another room come to what they would have come to without it
pub feed_again : (h : Hub) (t : List ℕ) (s : State) (l : ℕ) (bytes : List ℕ) (room n : ℕ) → let c = call hub h t s l bytes room in
    c.result.answer ≡ refused_feed n → (k : ℕ) (other : List ℕ) (more : ℕ) → call hub c.hub c.table c.state k other more ≡ call hub h t s k other more
feed_again h t s l bytes room n e k other more =
    ap (λ (c : Called hub). call hub c.hub c.table c.state k other more) (call_refused hub h t s l bytes room n (answer_refused hub h t s l bytes room n e))

-- what the hub makes of a feed is how its outcome is served; what it would write is what the outcome is answered with
pub served : (h : Hub) (t : List ℕ) (l : ℕ) (o : Option Outcome)
    → serve_if hub h t l o ≡ record { hub = (respond_if h t l o).hub; table = (respond_if h t l o).table; reply = written h t l o }
unfolding serve_if serve bytes_of
served h t l none = refl
served h t l (some o) = refl

pub written_served : (h : Hub) (t : List ℕ) (l : ℕ) (o : Option Outcome) → (serve_if hub h t l o).reply ≡ written h t l o
written_served h t l o = ap (λ (x : Reply). x.reply) (served h t l o)

-- ---- when a call is refused, in the order of the numbers

-- start: a table of another length (7), a password that has not 32 bytes (14); otherwise it stores the password, zeroes the
-- table, nobody is logged in, and there is no session
pub start-table : (h : Hub) (t p : List ℕ) → (length t ≡ table_size → ⊥) → (start h t p).refusal ≡ some 7
start-table h t p e = rw (ne_eqb (length t) table_size e)

pub start_password : (h : Hub) (t p : List ℕ) → length t ≡ table_size → (length p ≡ 32 → ⊥) → (start h t p).refusal ≡ some 14
start_password h t p e k = rw (eq-eqb (length t) table_size e, ne_eqb (length p) password_size k)

pub start-done : (h : Hub) (t p : List ℕ) → length t ≡ table_size → length p ≡ 32
    → start h t p ≡ record { refusal = none; hub = record { password = stored p; logins = 0 ∷ 0 ∷ 0 ∷ 0 ∷ []; slots = replicate sessions_size 0 }; table = replicate table_size 0 }
start-done h t p e k = rw (eq-eqb (length t) table_size e, eq-eqb (length p) password_size k) (rw e)

-- enrol: a table of another length (7), a node above 199 (11), one that is in use (12)
pub enrol-table : (t : List ℕ) (n type : ℕ) → (length t ≡ table_size → ⊥) → (enrol t n type).refusal ≡ some 7
enrol-table t n type e = rw (ne_eqb (length t) table_size e)

pub enrol_node : (t : List ℕ) (n type : ℕ) → length t ≡ table_size → node_count ≤ n → (enrol t n type).refusal ≡ some 11
enrol_node t n type e h = rw (eq-eqb (length t) table_size e, le-ltb n node_count h)

pub enrol-used : (t : List ℕ) (n type : ℕ) → length t ≡ table_size → in_use t n ≡ true → (enrol t n type).refusal ≡ some 12
enrol-used t n type e u = rw (eq-eqb (length t) table_size e, lt-ltb n node_count (used-below t n u), u)

pub enrol-done : (t : List ℕ) (n type : ℕ) → length t ≡ table_size → n < node_count → in_use t n ≡ false → enrol t n type ≡ record { refusal = none; table = enrolled t n type }
enrol-done t n type e h u = rw (eq-eqb (length t) table_size e, lt-ltb n node_count h, u)

-- close a line: a line above 3 (8)
pub close_line_lem : (h : Hub) (s : State) (l : ℕ) → 3 < l → (close h s l).refusal ≡ some 8
close_line_lem h s l e = rw (le-ltb l line_count (omega arith))

pub close-done : (h : Hub) (s : State) (l : ℕ) → l ≤ 3 → close h s l ≡ record { refusal = none; hub = closed_line h l; state = emptied }
close-done h s l e = rw (lt-ltb l line_count (omega arith))

-- finish: a number that is not open (13), then a notice longer than the room (9); otherwise it closes the lowest slot that has the number,
-- tells its line and writes frame 0304
pub finish_not_open : (h : Hub) (x room : ℕ) → any (is_numbered x) (slots_of h.slots) ≡ false → (finish h x room).answer ≡ refused_finish 13
unfolding sessions.finish
finish_not_open h x room n = rw n

pub finish_room : (h : Hub) (x room : ℕ) → any (is_numbered x) (slots_of h.slots) ≡ true → room < length (notice x) → (finish h x room).answer ≡ refused_finish 9
unfolding sessions.finish
finish_room h x room n e = rw (n, lt-ltb room (length (notice x)) e)

pub finish-done : (h : Hub) (x room : ℕ) → any (is_numbered x) (slots_of h.slots) ≡ true → length (notice x) ≤ room → let k = first (is_numbered x) (slots_of h.slots) in
    finish h x room ≡ record { answer = finished_on (slot_at h.slots k).line (length (notice x)); hub = with_slots h (with_slot h.slots k closed_slot); reply = notice x }
unfolding sessions.finish
finish-done h x room n e = rw (n, le-ltb room (length (notice x)) e)

-- feed: a table of another length (7), a line above 3 (8), and last what it would write longer than the room (9)
module _ (h : Hub) (t : List ℕ) (s : State) (l : ℕ) (bytes : List ℕ) (room : ℕ) where
  pub refused_table : (length t ≡ table_size → ⊥) → feed_refusal h t s l bytes room ≡ some 7
  refused_table e = rw (ne_eqb (length t) table_size e)

  pub refused_line_lem : length t ≡ table_size → 3 < l → feed_refusal h t s l bytes room ≡ some 8
  refused_line_lem e k = rw (eq-eqb (length t) table_size e, le-ltb l line_count (omega arith))

  pub refused_room : length t ≡ table_size → l ≤ 3 → room < length (written h t l (read s bytes).outcome) → feed_refusal h t s l bytes room ≡ some 9
  refused_room e k w = rw (eq-eqb (length t) table_size e, lt-ltb l line_count (omega arith), lt-ltb room (length (written h t l (read s bytes).outcome)) w)

  pub not_refused : length t ≡ table_size → l ≤ 3 → length (written h t l (read s bytes).outcome) ≤ room → feed_refusal h t s l bytes room ≡ none
  not_refused e k w = rw (eq-eqb (length t) table_size e, lt-ltb l line_count (omega arith), le-ltb room (length (written h t l (read s bytes).outcome)) w)

  -- a feed that would write nothing is not refused for its room, whatever that is
  pub nothing_written : length t ≡ table_size → l ≤ 3 → (read s bytes).outcome ≡ none → feed_refusal h t s l bytes room ≡ none
  unfolding bytes_of
  nothing_written e k o = not_refused e k (rw o (omega arith))

  -- and none but these is refused 9: what is judged is what the feed's outcome is answered with
  pub refused_exactly : feed_refusal h t s l bytes room ≡ some 9
      → (length t ≡ table_size) × (l ≤ 3) × (room < length (serve_if hub h t l (read s bytes).outcome).reply)
  refused_exactly = go (eqb (length t) table_size) (ltb l line_count) (ltb room (length (written h t l (read s bytes).outcome))) refl refl refl
    where
      go : (a b c : Bool) → eqb (length t) table_size ≡ a → ltb l line_count ≡ b → ltb room (length (written h t l (read s bytes).outcome)) ≡ c
          → refuse_if (not a) wrong_table (refuse_if (not b) wrong_line (refuse_if c short_room none)) ≡ some 9
          → (length t ≡ table_size) × (l ≤ 3) × (room < length (serve_if hub h t l (read s bytes).outcome).reply)
      go true true true x y z e = (
        eqb-true (length t) table_size x,
        omega (arith, ltb-true l line_count y),
        rw (written_served h t l (read s bytes).outcome) (ltb-true room (length (written h t l (read s bytes).outcome)) z),
      )
      go true true false x y z e = absurd (none-ne-some 9 e)
      go true false c x y z e = let k : ◌≡◌ {A = ℕ} 8 9 = cc in absurd (omega arith)
      go false b c x y z e = let k : ◌≡◌ {A = ℕ} 7 9 = cc in absurd (omega arith)

  -- a refused packet's error reply has 8 bytes
  pub error_room : (n : Refusal) → length t ≡ table_size → l ≤ 3 → (read s bytes).outcome ≡ some (refused n) → feed_refusal h t s l bytes room ≡ refuse_if (ltb room 8) 9 none
  unfolding respond bytes_of wire escape framed body xor.xor_all xor.◌⊕◌
  error_room n e k o = rw (eq-eqb (length t) table_size e, lt-ltb l line_count (omega arith), o)
