-- Demands 1 and 2, and that no motor is ever held by two, proved (specs/Demands.antt has the statements; that of demand 2 stands here, since it is
-- said of lists of feeds as crate feeds has them).
use Rattle.std.specs.Prelude.{ℕ, ◌≤◌, ◌<◌, ◌≡◌, refl, List, [], ◌++◌, Result as Either, map, Bool, true, false, cond, not, length, take, drop, get_or, set, replicate, ltb}
use Rattle.std.proofs.Common.{sym, ap, ap₂, ◌∙◌, arith, take_at, lt-ltb, ltb-true}
use Rattle.std.proofs.Math.Option.{Option, none, some, none-ne-some, some-injective}
use Rattle.std.proofs.lemmas.List.{length-map, set-get_or}
use Rattle.frame.specs.declared.WriteRefusal.{WriteRefusal}
use Rattle.frame.specs.Writer as writer
use Rattle.frame.specs.Writer.{Writing, up_to, no_fit, write, write_at, Writes}
use Rattle.frame.specs.WireLaws.{Unwritten, write-refusal, write_untouched, place_untouched}
use Rattle.nodes.specs.Table.{table_size}
use Rattle.line.specs.declared.Reading.{Reading}
use Rattle.frame.specs.Frame as packet
use Rattle.frame.specs.Frame.{Outcome, max_data, wire}
use Rattle.frame.specs.Reader.{also, outcomes, final, State, emptied, emptied_reading, step, read, taken}
use Rattle.frame.proofs.ReaderLaws.{scan-tells, used_all}
use Rattle.feeds.specs.System.{Entry, Answer, refused, told, Result, Called, serve_if, settled, decided, call, results, end_state, error_reply}
use Rattle.feeds.specs.Marks.{answers_of, used_on, told_on}
use Rattle.feeds.specs.Sent.{Sent, frame_of, sent}
use Rattle.feeds.specs.Serving.{replies_told, AllOn, on_line, told_all, served_by}
use Rattle.feeds.specs.Service.{Lent, Got, world_of, length_of, record_for, Feeds, entries_in, answers_in, used_in, told_in}
use Rattle.feeds.proofs.CallLaws.{call-read, read_resets, read_first}
use Rattle.feeds.proofs.SystemLaws.{told-outcomes}
use Rattle.feeds.proofs.ServingLaws.{served_in_order, frames_served}
use Rattle.feeds.proofs.Cutting.{used-same}
use Rattle.feeds.proofs.OrderLaws.{order_same}
use Rattle.feeds.specs.Serving.{lines_of}
use Rattle.feeds.proofs.ServiceLaws as service
use Rattle.feeds.proofs.ServiceLaws.{run_results, run_answers, run_end}
use Rattle.feeds.specs.Demand3.{Line, record_at}
use Rattle.feeds.proofs.Demand3.{own-taken, has_line}
use Rattle.passwords.specs.Passwords.{stored}
use Rattle.rules.specs.declared.Hub.{Hub}
use Rattle.rules.specs.Hub.{password_size, fresh_hub, start_refusal, start_by, Started, Enrolled, Closed, Finish, refused_finish, finished_on, Finished, finish_by, notice, short_room, refuse_if, line_count, feed_refusal, Reply, is_logged_in, hub}
use Rattle.rules.specs.Answers.{finish_of, FinishedSession, answer_of, fed_of}
use Rattle.rules.proofs.PromiseLaws.{feeds_promise}
use Rattle.demands.specs.Calls.{World}
use Rattle.demands.specs.FeedLists.{FeedList}
use Rattle.demands.proofs.FeedLists.{feeds_of}
use Rattle.demands.specs.Invariants.{Unchanged, OneAtMost}
use Rattle.demands.specs.Steps.{Memory, Step, start, finish, feed, Return, finished, fed, line_record, Made, starts, enrols, closes, finishes, feeds, Steps, refusal, finish_tells, feed_tells, refusal_told, room_lent, room_back, record_lent, record_back, Unprivileged, logged_by_all, password_by_all, call_of}
use Rattle.demands.proofs.StepsLaws.{made-refusal, steps_without, steps_after, steps_logged, steps_password, steps_unprivileged, steps_any}
use Rattle.rules.specs.Frames.{Frames}
use Rattle.rules.proofs.Frames.{no_frames, serve_frames, notice_frames}
use Rattle.rules.proofs.RefusalLaws.{start_refused, enrol_refused, close_refused, finish_refused, written_served, refused_room, refused_exactly}
use Rattle.demands.proofs.Guard as guard
use Rattle.demands.proofs.Logins.{logged_exactly}
use Rattle.demands.proofs.Passwords.{password_exactly}
use Rattle.sessions.specs.Search.{any as any_slot}
use Rattle.sessions.specs.Sessions as sessions
use Rattle.demands.proofs.OneHolder.{free, one_holder}
use Rattle.demands.proofs.Feeds.{above_none}
use Rattle.demands.proofs.FeedListLaws.{list-kept}
use Rattle.demands.proofs.ErrorReply.{only_error_reply}
use Rattle.demands.specs.Frames.{WrittenExactly}
use Rattle.demands.proofs.Frames.{ReadExactly, read_exactly, writer_wrote, read_frames}
use Rattle.demands.specs.Demands.{Untouched, StopsAt, Answered, to_write, write_refusal, writing_refusal, Demand1, served_in, served_from, Same, SameAll, order, OneHolder}
use Rattle.demands.proofs.FeedLists.{feeds_of}
use Rattle.demands.proofs.Frames.{ReadExactly}

pub record Demand2 : Type 0 where
  -- "Frames are read and written exactly as the KLF 200 specification 3.18 says."
  pub read : ReadExactly
  pub written : WrittenExactly
  -- "Tables change only by our host or by a line that gave the password,"
  pub guarded : {m e : Memory} {ss : List Step} {os : List Return} (x : Steps m ss os e) → Unprivileged x → Unchanged m.hub m.table e.hub e.table
  -- a line is logged in exactly if it gave the right password after its last close or start, or was so at the beginning and neither came;
  -- a hub has four logins
  pub logged : {m e : Memory} {ss : List Step} {os : List Return} (x : Steps m ss os e) (l : ℕ) → length m.hub.logins ≡ line_count → l < line_count
      → is_logged_in e.hub l ≡ logged_by_all l (is_logged_in m.hub l) x
  -- the password is that of the last start or change that was accepted, with zeros from its first zero on, or that at the beginning
  pub password : {m e : Memory} {ss : List Step} {os : List Return} (x : Steps m ss os e) → e.hub.password ≡ password_by_all m.hub.password x
  -- "and each served command has the stated effect and reply": each feed's outcome is served, and nothing where there is none,
  pub served : {m v : Memory} {g : Lent} {o : Got hub} → Made m (feed g) (fed o) v → (u : ℕ) (y : Option Outcome) (k : ℕ) → o.answer ≡ told u y k
      → Answered m g o v u y k (serve_if hub m.hub m.table g.line y)
  -- the outcomes of a line are those of the bytes used on it, begun in the state of its record, whatever the other lines send,
  pub told : (l : ℕ) (f : FeedList) → let F = feeds_of f in Line l F → told_in l F ≡ outcomes step (taken (record_at l F)) (used_in l F)
  -- its record at the end is taken as the state that these bytes lead to,
  pub kept : (l : ℕ) (f : FeedList) → let F = feeds_of f in Line l F → taken (get_or F.end.records l emptied_reading) ≡ final step (taken (record_at l F)) (used_in l F)
  -- those of all lines are served one by one in order,
  pub in_order : (f : FeedList) → let F = feeds_of f in served_in F ≡ served_from F (told_all (entries_in F) (answers_in F))
  -- and so are well-formed frames that are fed to a line between packets
  pub frames : (l : ℕ) (f : FeedList) → let F = feeds_of f in Line l F → AllOn l (entries_in F) → taken (record_at l F) ≡ emptied
      → (frames : List Sent) → used_in l F ≡ sent frames → served_in F ≡ served_from F (on_line l (map frame_of frames))
  -- "Cutting the input into calls anywhere changes no outcome and no end state": the same bytes used on a line, refused feeds included
  pub cut : (l : ℕ) (f g : FeedList) → let F = feeds_of f in let G = feeds_of g in Line l F → AllOn l (entries_in F) → AllOn l (entries_in G) → world_of G.start ≡ world_of F.start
      → used_in l F ≡ used_in l G → Same l F G
  -- and on several lines: the same bytes used on each of the four, the lines' outcomes in the same order
  pub cut_lines : (f g : FeedList) → let F = feeds_of f in let G = feeds_of g in length F.start.records ≡ line_count → world_of G.start ≡ world_of F.start
      → ((l : ℕ) → l < line_count → used_in l F ≡ used_in l G) → order F ≡ order G → SameAll F G

-- ---- The proofs

-- a refusal told is that of the answer
finish-told : (a : Finish) (n : ℕ) → finish_tells a ≡ some n → a ≡ refused_finish n
unfolding finish_tells
finish-told (refused_finish k) n e = ap refused_finish (some-injective k n e)
finish-told (finished_on l k) n e = absurd (none-ne-some n e)

feed-told : (a : Answer) (n : ℕ) → feed_tells a ≡ some n → a ≡ refused n
unfolding feed_tells
feed-told (refused k) n e = ap refused (some-injective k n e)
feed-told (told u o k) n e = absurd (none-ne-some n e)

-- equal parts make equal memories
same_memory : {h k : Hub} {t q : List ℕ} {rs vs : List Reading} → h ≡ k → t ≡ q → rs ≡ vs
    → ◌≡◌ {A = Memory} (record { hub = h; table = t; records = rs }) (record { hub = k; table = q; records = vs })
same_memory a b c = rw (a, b, c)

-- each refused call, by the law of its definition
made_untouched : {m v : Memory} {s : Step} {o : Return} → Made m s o v → (n : ℕ) → refusal_told o ≡ some n → Untouched m s o v
unfolding refusal_told room_lent room_back record_lent record_back
made_untouched (starts {m} {p} a x) n e =
    let q = x ∙ start_refused m.hub m.table p n (ap (λ (z : Started). z.refusal) (sym x) ∙ e) in
    record { memory = ap (λ (z : Started). record { hub = z.hub; table = z.table; records = m.records }) q; reading = refl; room = refl }
made_untouched (enrols {m} {n = k} {type} a x) n e =
    let q = x ∙ enrol_refused m.table k type n (ap (λ (z : Enrolled). z.refusal) (sym x) ∙ e) in
    record { memory = ap (λ (z : Enrolled). record { hub = m.hub; table = z.table; records = m.records }) q; reading = refl; room = refl }
made_untouched (closes {m} {l} {spare} {e = r} x) n e =
    let q = close_refused m.hub (taken (line_record m l spare)) l n (sym x.refusal ∙ e) in
    let kept : r ≡ line_record m l spare = x.kept n e in
    record {
      memory = same_memory (x.hub ∙ ap (λ (z : Closed). z.hub) q) refl (ap (set m.records l) kept ∙ set-get_or m.records l spare);
      reading = ap some kept;
      room = refl;
    }
made_untouched (finishes {m} {x} {room} {a} y) n e =
    let q = finish_refused m.hub x (length room) n (sym y.answer ∙ finish-told (finish_of a) n e) in
    record {
      memory = same_memory (y.hub ∙ ap (λ (z : Finished). z.hub) q) refl refl;
      reading = refl;
      room = ap some (y.room ∙ ap (λ (z : Finished). z.reply ++ drop (length z.reply) room) q);
    }
made_untouched (feeds {m} {g} {a} {e = s} x) n e =
    let (h, t, r, room) = service.refused_untouched (feeds_promise x) n (feed-told (answer_of a s.bytes) n e) in
    record { memory = same_memory h t (ap (set m.records g.line) r ∙ set-get_or m.records g.line g.spare); reading = ap some r; room = ap some room }

-- a call that is not refused read what it tells
call-told : (h : Hub) (t : List ℕ) (s : State) (l : ℕ) (bytes : List ℕ) (room u : ℕ) (y : Option Outcome) (k : ℕ) → (call hub h t s l bytes room).result.answer ≡ told u y k
    → (feed_refusal h t s l bytes room ≡ none) × ((read s bytes).used ≡ u) × ((read s bytes).outcome ≡ y)
unfolding call decided settled
call-told h t s l bytes room u y k = go (feed_refusal h t s l bytes room)
  where
    go : (r : Option ℕ) → (decided hub h t l s (read s bytes) r).result.answer ≡ told u y k → (r ≡ none) × ((read s bytes).used ≡ u) × ((read s bytes).outcome ≡ y)
    go none e = (refl, cc, cc)
    go (some n) e = let z : ◌≡◌ {A = ℕ} 0 1 = cc in absurd (omega arith)

-- where it stops
read_stops : (g : Lent) (o : Got hub) (s : State) (u : ℕ) (y : Option Outcome) → (read s g.bytes).used ≡ u → (read s g.bytes).outcome ≡ y
    → taken o.reading ≡ (read s g.bytes).after → StopsAt g o u y
read_stops g o s u none used outcome state = sym used ∙ used_all step s g.bytes outcome
read_stops g o s u (some y) used outcome state = state ∙ read_resets s g.bytes y outcome

-- what it tells is served
made_served : {m v : Memory} {g : Lent} {o : Got hub} → Made m (feed g) (fed o) v → (u : ℕ) (y : Option Outcome) (k : ℕ) → o.answer ≡ told u y k
    → Answered m g o v u y k (serve_if hub m.hub m.table g.line y)
unfolding settled length_of
made_served (feeds {m} {g} {a} {h} {t} {e = r'} {left} x) u y k e =
    let o : Got hub = fed_of a h t r' left in
    let s : State = taken (record_for hub m g) in
    let r : Reply = serve_if hub m.hub m.table g.line y in
    let (p, used, outcome) = call-told m.hub m.table s g.line g.bytes (length g.room) u y k (sym x.answer ∙ e) in
    let q = call-read hub m.hub m.table s g.line g.bytes (length g.room) p in
    let c = q ∙ ap (λ (z : Option Outcome). settled hub (read s g.bytes) (serve_if hub m.hub m.table g.line z)) outcome in
    let state : taken o.reading ≡ (read s g.bytes).after = x.state ∙ ap (λ (z : Called hub). z.state) c in
    let count : k ≡ length r.reply = ap length_of (sym e ∙ x.answer) ∙ ap (λ (z : Called hub). length_of z.result.answer) c in
    let tells = scan-tells step s g.bytes in
    record {
      outcome = ap (λ (z : ℕ). outcomes step s (take z g.bytes)) (sym used) ∙ tells.outcome ∙ ap (λ (z : Option Outcome). also z []) outcome;
      state = state ∙ sym tells.after ∙ ap (λ (z : ℕ). final step s (take z g.bytes)) used;
      stops = read_stops g o s u y used outcome state;
      first = λ i h. read_first s g.bytes i (omega arith);
      hub = x.hub ∙ ap (λ (z : Called hub). z.hub) c;
      table = x.table ∙ ap (λ (z : Called hub). z.table) c;
      count = count;
      reply = x.room ∙ ap (λ (z : Called hub). z.result.reply ++ drop (length z.result.reply) g.room) c ∙ ap (λ (z : ℕ). r.reply ++ drop z g.room) (sym count);
    }

-- and a refused packet by the error reply only
made_used_up : {m v : Memory} {g : Lent} {o : Got hub} → Made m (feed g) (fed o) v → (u : ℕ) (n : packet.Refusal) (k : ℕ) → o.answer ≡ told u (some (packet.refused n)) k
    → Answered m g o v u (some (packet.refused n)) k (record { hub = m.hub; table = m.table; reply = error_reply })
unfolding serve_if
made_used_up {m} {g = g} x u n k e = rw (only_error_reply m.hub m.table g.line n) at (made_served x u (some (packet.refused n)) k e)

-- the writer's refusals, by the laws of its definition
writer_exactly : (room : List ℕ) (c : ℕ) (d : List ℕ) (r : Either ℕ WriteRefusal) (left : List ℕ) → Writes (write room c d) (writer.told r) left → writing_refusal (writer.told r) ≡ write_refusal (length room) c d
writer_exactly room c d r left x = ap writing_refusal (x.answer ∙ write-refusal room c d) ∙ go (ltb max_data (length d)) (ltb (length room) (length (wire c d)))
  where
    go : (a b : Bool) → writing_refusal (cond a (writer.refused 10) (cond b (writer.refused 9) (up_to (length (wire c d))))) ≡ refuse_if a writer.long_data (refuse_if b writer.short_room none)
    go true b = refl
    go false true = refl
    go false false = refl

writer_untouched : (room : List ℕ) (c : ℕ) (d : List ℕ) (r : Either ℕ WriteRefusal) (left : List ℕ) → Writes (write room c d) (writer.told r) left → (n : ℕ) → writing_refusal (writer.told r) ≡ some n → left ≡ room
writer_untouched room c d r left x n = go (writer.told r) refl
  where
    go : (w : Writing) → writer.told r ≡ w → writing_refusal w ≡ some n → left ≡ room
    go (up_to k) q e = absurd (none-ne-some n e)
    go (writer.refused k) q e = x.room ∙ write_untouched room c d k (sym x.answer ∙ q)
    go no_fit q e = absurd (none-ne-some n e)

writer_place : (room : List ℕ) (i c : ℕ) (d : List ℕ) (r : Either ℕ WriteRefusal) (left : List ℕ) → Writes (write_at room i c d) (writer.told_at r) left → Unwritten (writer.told_at r) → left ≡ room
writer_place room i c d r left x u = x.room ∙ place_untouched room i c d (rw x.answer at u)

-- refusal 9, by what would be written
made_feed_short : {m v : Memory} {g : Lent} {o : Got hub} → Made m (feed g) (fed o) v → refusal_told (fed o) ≡ some 9 → length g.room < length (to_write m g)
unfolding refusal
made_feed_short {m} {v} {g} x e =
    (refused_exactly m.hub m.table (taken (record_for hub m g)) g.line g.bytes (length g.room) (sym (made-refusal x) ∙ e)).2

made_short_feed : {m v : Memory} {g : Lent} {o : Got hub} → Made m (feed g) (fed o) v → length m.table ≡ table_size → g.line ≤ 3 → length g.room < length (to_write m g)
    → refusal_told (fed o) ≡ some 9
unfolding refusal
made_short_feed {m} {v} {g} x size line k =
    made-refusal x
    ∙ refused_room m.hub m.table (taken (record_for hub m g)) g.line g.bytes (length g.room) size line
    (rw (written_served m.hub m.table g.line (read (taken (record_for hub m g)) g.bytes).outcome) at k)

made_finish_short : {m v : Memory} {x : ℕ} {room : List ℕ} {o : FinishedSession} → Made m (finish x room) (finished o) v → refusal_told (finished o) ≡ some 9 → length room < length (notice x)
unfolding refusal
made_finish_short {m} {v} {x} {room} y e = go (any_slot (sessions.is_numbered x) (sessions.slots_of m.hub.slots)) (ltb (length room) (length (notice x))) refl (sym (made-refusal y) ∙ e)
  where
    go : (a b : Bool) → ltb (length room) (length (notice x)) ≡ b → refuse_if (not a) sessions.not_open (refuse_if b short_room none) ≡ some 9 → length room < length (notice x)
    go true true q z = ltb-true (length room) (length (notice x)) q
    go true false q z = absurd (none-ne-some 9 z)
    go false b q z = let k : ◌≡◌ {A = ℕ} 13 9 = cc in absurd (omega arith)

made_short_finish : {m v : Memory} {x : ℕ} {room : List ℕ} {o : FinishedSession} → Made m (finish x room) (finished o) v → any_slot (sessions.is_numbered x) (sessions.slots_of m.hub.slots) ≡ true
    → length room < length (notice x) → refusal_told (finished o) ≡ some 9
unfolding refusal
made_short_finish {m} {v} {x} {room} y o k = made-refusal y ∙ rw (o, lt-ltb (length room) (length (notice x)) k)

pub demand_1 : Demand1
demand_1 = record { any = steps_any; exactly = made-refusal; feed_short = made_feed_short; short_feed = made_short_feed; finish_short = made_finish_short; short_finish = made_short_finish; untouched = made_untouched; write_exactly = writer_exactly; write_untouched = writer_untouched; place_untouched = writer_place; without = steps_without (λ m v s o x n p. (made_untouched x n p).memory); used_up = made_used_up }

-- what is written: the reply to the outcome, which is frames
serve_if_frames : (h : Hub) (t : List ℕ) (l : ℕ) (y : Option Outcome) → Frames (serve_if hub h t l y).reply
unfolding serve_if
serve_if_frames h t l none = no_frames
serve_if_frames h t l (some y) = serve_frames h t l y

-- the front of a room in which a reply of k bytes stands is the reply
front : (room reply lent : List ℕ) (k : ℕ) → room ≡ reply ++ lent → k ≡ length reply → Frames reply → Frames (take k room)
front room reply lent k e n x = rw (e, take_at reply lent k (sym n)) x

made_frames : {m v : Memory} {g : Lent} {o : Got hub} → Made m (feed g) (fed o) v → (u : ℕ) (y : Option Outcome) (k : ℕ) → o.answer ≡ told u y k → Frames (take k o.room)
made_frames (feeds {m} {g} {a} {h} {t} {e = r'} {left} x) u y k e =
    let z = made_served (feeds {m = m} {g = g} {a = a} {h = h} {t = t} {e = r'} {left = left} x) u y k e in
    front left (serve_if hub m.hub m.table g.line y).reply (drop k g.room) k z.reply z.count (serve_if_frames m.hub m.table g.line y)

finish_frames : {m v : Memory} {x : ℕ} {room : List ℕ} {o : FinishedSession} → Made m (finish x room) (finished o) v → (l k : ℕ) → o.answer ≡ finished_on l k → Frames (take k o.room)
finish_frames (finishes {m} {x} {room} {a} {h} {left} y) l k e = go (sessions.finish m.hub.slots x) (ltb (length room) (length (notice x))) (sym y.answer ∙ e) y.room
  where
    go : (o : Option sessions.Finished) (b : Bool) → (finish_by o b m.hub x).answer ≡ finished_on l k
        → left ≡ (finish_by o b m.hub x).reply ++ drop (length (finish_by o b m.hub x).reply) room → Frames (take k left)
    go none b q r = let z : ◌≡◌ {A = ℕ} 0 1 = cc in absurd (omega arith)
    go (some f) true q r = let z : ◌≡◌ {A = ℕ} 0 1 = cc in absurd (omega arith)
    go (some f) false q r = let n : k ≡ length (notice x) = cc in front left (notice x) (drop (length (notice x)) room) k r n (notice_frames x)

-- carried over from the definitions
steps_guarded : {m e : Memory} {ss : List Step} {os : List Return} (x : Steps m ss os e) → Unprivileged x → Unchanged m.hub m.table e.hub e.table
unfolding world_of
steps_guarded {m} {ss = ss} x u =
    let g = guard.unprivileged_unchanged (world_of m) (map call_of ss) (steps_unprivileged x u) in
    rw (← steps_after x) at g

steps_login : {m e : Memory} {ss : List Step} {os : List Return} (x : Steps m ss os e) (l : ℕ) → length m.hub.logins ≡ line_count → l < line_count
    → is_logged_in e.hub l ≡ logged_by_all l (is_logged_in m.hub l) x
unfolding world_of
steps_login {m} {ss = ss} x l four h =
    ap (λ (w : World). is_logged_in w.hub l) (steps_after x) ∙ logged_exactly l (world_of m) (map call_of ss) four h ∙ sym (steps_logged l (is_logged_in m.hub l) x)

steps_password_exactly : {m e : Memory} {ss : List Step} {os : List Return} (x : Steps m ss os e) → e.hub.password ≡ password_by_all m.hub.password x
unfolding world_of
steps_password_exactly {m} {ss = ss} x =
    ap (λ (w : World). w.hub.password) (steps_after x) ∙ password_exactly (world_of m) (map call_of ss) ∙ sym (steps_password m.hub.password x)

-- a list of feeds serves what the definition's serves
run_served : (F : Feeds hub) → served_in F ≡ served_by hub (world_of F.start) (entries_in F)
unfolding world_of
run_served F = ap₂ (λ (w : World) (rs : List Result). record { hub = w.hub; table = w.table; replies = replies_told rs }) (run_end F) (run_results F)

run_in_order : (F : Feeds hub) → served_in F ≡ served_from F (told_all (entries_in F) (answers_in F))
unfolding world_of
run_in_order F =
    run_served F ∙ served_in_order hub (entries_in F) (world_of F.start) ∙ ap (λ (z : List Answer). served_from F (told_all (entries_in F) z)) (sym (run_answers F))

run_told : (l : ℕ) (F : Feeds hub) → Line l F → told_in l F ≡ outcomes step (taken (record_at l F)) (used_in l F)
run_told l F line =
    let w : World = world_of F.start in
    let es : List Entry = entries_in F in
    let A : answers_in F ≡ answers_of hub w es = run_answers F in
    ap (told_on l es) A ∙ told-outcomes hub l es w (has_line l F line) ∙ ap₂ (outcomes step) (own-taken l F) (ap (used_on l es) (sym A))

run_frames : (l : ℕ) (F : Feeds hub) → Line l F → AllOn l (entries_in F) → taken (record_at l F) ≡ emptied
    → (frames : List Sent) → used_in l F ≡ sent frames → served_in F ≡ served_from F (on_line l (map frame_of frames))
unfolding world_of
run_frames l F line x between frames u =
    run_served F
    ∙ frames_served hub l (entries_in F) (world_of F.start) x (has_line l F line) (own-taken l F ∙ between) frames (ap (used_on l (entries_in F)) (sym (run_answers F)) ∙ u)

-- the same bytes used come to the same
run_cut : (l : ℕ) (F G : Feeds hub) → Line l F → AllOn l (entries_in F) → AllOn l (entries_in G) → world_of G.start ≡ world_of F.start → used_in l F ≡ used_in l G → Same l F G
run_cut l F G line x y begun u =
    let w : World = world_of F.start in
    let es : List Entry = entries_in F in
    let fs : List Entry = entries_in G in
    let A : answers_in F ≡ answers_of hub w es = run_answers F in
    let B : answers_in G ≡ answers_of hub w fs = run_answers G ∙ ap (λ (z : World). answers_of hub z fs) begun in
    let s = used-same hub l w (has_line l F line) es fs x y (ap (used_on l es) (sym A) ∙ u ∙ ap (used_on l fs) B) in
    record {
      told = ap (told_on l es) A ∙ s.told ∙ ap (told_on l fs) (sym B);
      replies = ap replies_told (run_results F) ∙ s.replies ∙ ap (λ (z : World). replies_told (results hub z fs)) (sym begun) ∙ ap replies_told (sym (run_results G));
      end = run_end F ∙ s.end ∙ ap (λ (z : World). end_state hub z fs) (sym begun) ∙ sym (run_end G);
    }

-- on all lines; no line above 3 tells anything
run_cut_lines : (F G : Feeds hub) → length F.start.records ≡ line_count → world_of G.start ≡ world_of F.start
    → ((l : ℕ) → l < line_count → used_in l F ≡ used_in l G) → order F ≡ order G → SameAll F G
unfolding world_of
run_cut_lines F G four begun used lines =
    let w : World = world_of F.start in
    let es : List Entry = entries_in F in
    let fs : List Entry = entries_in G in
    let n : length w.states ≡ line_count = length-map F.start.records taken ∙ four in
    let A : answers_in F ≡ answers_of hub w es = run_answers F in
    let B : answers_in G ≡ answers_of hub w fs = run_answers G ∙ ap (λ (z : World). answers_of hub z fs) begun in
    let s = order_same hub w es fs (λ l h. ap (used_on l es) (sym A) ∙ used l (omega arith) ∙ ap (used_on l fs) B)
    (λ l h. above_none l (omega arith) es w ∙ sym (above_none l (omega arith) fs w))
    (ap (λ (z : List Answer). lines_of (told_all es z)) (sym A) ∙ lines ∙ ap (λ (z : List Answer). lines_of (told_all fs z)) B) in
    record {
      told = ap (told_all es) A ∙ s.told ∙ ap (told_all fs) (sym B);
      replies = ap replies_told (run_results F) ∙ s.replies ∙ ap (λ (z : World). replies_told (results hub z fs)) (sym begun) ∙ ap replies_told (sym (run_results G));
      end = run_end F ∙ s.end ∙ ap (λ (z : World). end_state hub z fs) (sym begun) ∙ sym (run_end G);
    }

pub demand_2 : Demand2
demand_2 = record { read = read_exactly (λ l F. run_told l (feeds_of F)) list-kept; written = record { by_feed = made_frames; by_finish = finish_frames; by_writer = writer_wrote; read_back = read_frames }; guarded = steps_guarded; logged = steps_login; password = steps_password_exactly; served = made_served; told = λ l F. run_told l (feeds_of F); in_order = λ F. run_in_order (feeds_of F); frames = λ l F. run_frames l (feeds_of F); cut = λ l F G. run_cut l (feeds_of F) (feeds_of G); kept = list-kept; cut_lines = λ F G. run_cut_lines (feeds_of F) (feeds_of G) }

steps_one : {m e : Memory} {ss : List Step} {os : List Return} → Steps m ss os e → (n : ℕ) → OneAtMost n m.hub → OneAtMost n e.hub
unfolding world_of
steps_one {m} {e} {ss} x n p = rw (← ap (λ (w : World). w.hub) (steps_after x)) at (one_holder n (world_of m) (map call_of ss) p)

-- nobody holds anything in a fresh hub
fresh_one : (p : List ℕ) (n : ℕ) → OneAtMost n (fresh_hub p)
fresh_one p n = free n sessions.sessions_size

start-one : {m v : Memory} {p : List ℕ} {o : Return} → Made m (start p) o v → refusal_told o ≡ none → (n : ℕ) → OneAtMost n v.hub
unfolding refusal_told
start-one (starts {m} {p} a {h} {t} x) e n =
    go (start_refusal m.table p) (ap (λ (z : Started). z.refusal) (sym x) ∙ e) (ap (λ (z : Started). z.hub) x)
  where
    go : (r : Option ℕ) → (start_by r m.hub m.table p).refusal ≡ none → h ≡ (start_by r m.hub m.table p).hub → OneAtMost n h
    go none q z = rw z (fresh_one (stored p) n)
    go (some k) q z = absurd (none-ne-some k (sym q))

pub no_two_holders : OneHolder
no_two_holders = record {
  one = steps_one;
  first = λ e x n. steps_one x n (rw e (fresh_one (replicate password_size 0) n));
  started = λ x e rest n. steps_one rest n (start-one x e n);
}
