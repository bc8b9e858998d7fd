-- The longest reply has 212 bytes on the wire: 10 of frame 0201, and 202 of frame 0210. No hub, table, line or outcome gives a longer one.
use Rattle.std.specs.Prelude.{ℕ, ◌+◌, ◌*◌, ◌≤◌, ◌≡◌, refl, List, [], ◌∷◌, ◌++◌, Bool, true, false, length, get_or, replicate, leb, ltb}
use Rattle.std.proofs.Common.{ap, subst, arith, length-append, length-take, leb-true, leb-false}
use Rattle.std.proofs.Math.Option.{Option, none, some}
use Rattle.frame.specs.Line as line
use Rattle.frame.specs.Line.{escape_append, escape_short, escape-plain}
use Rattle.frame.specs.Frame.{Outcome, frame, refused, head_of, escape, body, framed, wire, judge}
use Rattle.frame.specs.Reader.{State, emptied, read, onward, scan, step, verdict, inner}
use Rattle.frame.specs.Writer.{check}
use Rattle.frame.specs.Xor.{◌⊕◌, xor_all}
use Rattle.frame.specs.XorLaws.{xor_all_append, ⊕-zero}
use Rattle.frame.specs.WireLaws.{wire-length, wire_short}
use Rattle.frame.specs.DoubledLaws.{Kind, end, esc, usual, kind, escape_next, is_odd, Remains, one_end, one_esc, Doubled, fewer, all, doubled}
use Rattle.nodes.specs.Table as table
use Rattle.nodes.specs.Table.{field_of, information, information_size}
use Rattle.sessions.specs.Search.{any, first}
use Rattle.sessions.specs.Sessions as sessions
use Rattle.directory.specs.Directory.{directory}
use Rattle.directory.specs.Lookup as lookup
use Rattle.replies.specs.Messages.{Message, information_confirmed, session_finished, command_of, data_of, wire_of, bytes_of, about_node}
use Rattle.feeds.specs.System.{refused as refused_feed, told, serve_if, settled, decided, call}
use Rattle.rules.specs.declared.Hub.{Hub}
use Rattle.rules.specs.Hub.{password_size, Response, remove_nodes, virgin_state, mode_send, request, may_ask, respond, serve, finished_on, notice, Finished, finish_by, finish, written, feed_refusal, hub}
use Rattle.rules.proofs.Cases.{either, each_verdict, each_request}
use Rattle.rules.proofs.RefusalLaws.{not_refused, finish-done}

-- ---- frame 0201: node and check byte are not both doubled

confirm_short : (n : ℕ) → length (wire 0x0201 (table.accepted ∷ n ∷ [])) ≤ 10
unfolding wire framed body escape xor_all ◌⊕◌
confirm_short n = go (kind n)
  where
    go : {b : ℕ} → Kind b → length (wire 0x0201 (table.accepted ∷ b ∷ [])) ≤ 10
    go end = omega arith
    go esc = omega arith
    go {b} (usual e) =
        let d : List ℕ = table.accepted ∷ b ∷ [] in
        omega (arith, e, wire-length 0x0201 d, escape_next table.accepted (b ∷ []), escape_short (check 0x0201 d ∷ []))

-- ---- frame 0210: of its data at most 71 bytes are told, and 53 are zero

abbrev told_bytes : List ℕ → ℕ → List ℕ
told_bytes t n =
    (n ∷ []) ++ field_of t n table.order_field ++ field_of t n table.placement_field ++ field_of t n table.name_field ++ field_of t n table.type_field
    ++ field_of t n table.variation_field

told_bytes_short : (t : List ℕ) (n : ℕ) → length (told_bytes t n) ≤ 71
told_bytes_short t n = simp (length-append, length-take) (omega arith)

information-length : (t : List ℕ) (n : ℕ) → length (information t n) ≡ length (told_bytes t n) + 53
unfolding information
information-length t n = simp length-append (omega arith)

information_escaped : (t : List ℕ) (n : ℕ) → length (escape (information t n)) ≡ length (escape (told_bytes t n)) + 53
unfolding information escape
information_escaped t n = simp (escape_append, length-append) (omega arith)

information_xor : (t : List ℕ) (n : ℕ) → xor_all (information t n) ≡ xor_all (told_bytes t n)
unfolding information xor_all
information_xor t n = simp (xor_all_append, ⊕-zero)

-- no byte of the head is doubled
head_plain : (k : ℕ) → k ≤ information_size → length (escape (head_of 0x0210 k)) ≡ 4
unfolding escape
head_plain k h =
    rw (escape_next 0 ((k + 3) ∷ 0x02 ∷ 0x10 ∷ []), escape_next (k + 3) (0x02 ∷ 0x10 ∷ []), escape-plain (k + 3) (λ e. omega arith) (λ e. omega arith))

-- nor is the check byte where all bytes told are
check-plain : {x : ℕ} → Remains true x → length (escape ((xor_all (head_of 0x0210 information_size) ⊕ x) ∷ [])) ≡ 1
unfolding escape xor_all ◌⊕◌
check-plain one_end = refl
check-plain one_esc = refl

notification_short : (t : List ℕ) (n : ℕ) → length (wire 0x0210 (information t n)) ≤ 202
unfolding is_odd
notification_short t n = go (doubled (told_bytes t n)) (leb 71 (length (told_bytes t n))) refl
  where
    d : List ℕ
    d = information t n

    short : length (told_bytes t n) ≤ 71
    short = told_bytes_short t n

    total : length (wire 0x0210 d) ≡ length (escape (told_bytes t n)) + length (escape (check 0x0210 d ∷ [])) + 59
    total =
        omega (arith, wire-length 0x0210 d, head_plain (length d) (omega (arith, information-length t n, short)), information_escaped t n)

    go : Doubled (told_bytes t n) → (u : Bool) → leb 71 (length (told_bytes t n)) ≡ u → length (wire 0x0210 d) ≤ 202
    go (fewer h) u q = omega (arith, total, short, escape_short (check 0x0210 d ∷ []))
    go (all m) false q = omega (arith, total, leb-false 71 (length (told_bytes t n)) q, escape_short (told_bytes t n), escape_short (check 0x0210 d ∷ []))
    go (all m) true q =
        let k : length (told_bytes t n) ≡ 71 = omega (arith, short, leb-true 71 (length (told_bytes t n)) q) in
        let one : length (escape (check 0x0210 d ∷ [])) ≡ 1 = rw (information_xor t n, information-length t n, k) (check-plain (subst (λ (i : ℕ). Remains (is_odd i) (xor_all (told_bytes t n))) k m)) in
        omega (arith, total, escape_short (told_bytes t n))

-- ---- each reply

abbrev Short : Response → Type 0
Short r = length (bytes_of r.says) ≤ 212

-- one frame with at most three data bytes
frame_short : (m : Message) → length (data_of m) ≤ 3 → length (bytes_of (m ∷ [])) ≤ 212
unfolding bytes_of
frame_short m h = omega (arith, length-append (wire_of m) [], wire_short (command_of m) (data_of m))

about_short : (t : List ℕ) (n : ℕ) → length (bytes_of (about_node t n)) ≤ 212
unfolding about_node bytes_of information
about_short t n =
    either (λ (ms : List Message). length (bytes_of ms) ≤ 212) (table.is_told t n) _ _
    (simp length-append (omega (arith, confirm_short n, notification_short t n)))
    (frame_short (information_confirmed table.invalid_node n) (omega arith))

-- all other replies are such a frame
request_short : (h : Hub) (t : List ℕ) (l c : ℕ) (d : List ℕ) → Short (request h t l c d)
unfolding remove_nodes virgin_state mode_send
request_short h t l c d =
    each_request Short h t l c d (λ e. frame_short _ (omega arith)) (λ e. frame_short _ (omega arith)) (about_short t (get_or d 0 0))
    (frame_short _ (omega arith)) (frame_short _ (omega arith)) (frame_short _ (omega arith)) (frame_short _ (omega arith))
    (frame_short _ (omega arith)) (frame_short _ (omega arith)) (frame_short _ (omega arith))

-- whatever is served
pub longest : (h : Hub) (t : List ℕ) (l : ℕ) (o : Outcome) → length (serve h t l o).reply ≤ 212
unfolding serve respond
longest h t l (refused n) = frame_short _ (omega arith)
longest h t l (frame c d) =
    each_verdict Short (lookup.verdict c (length d)) _ _ (λ e. frame_short _ (omega arith))
    (either Short (may_ask h.logins l c) _ _ (request_short h t l c d) (frame_short _ (omega arith)))

-- ---- the calls that write

-- the longest reply, and room in which every reply fits
abbrev pub longest_reply : ℕ
longest_reply = 212

-- all that a feed would write
pub written-longest : (h : Hub) (t : List ℕ) (l : ℕ) (o : Option Outcome) → length (written h t l o) ≤ 212
unfolding bytes_of serve
written-longest h t l none = omega arith
written-longest h t l (some o) = longest h t l o

-- so no room of that length or more is refused, the new serial part's 300 bytes among them
pub room_enough : (h : Hub) (t : List ℕ) (s : State) (l : ℕ) (bytes : List ℕ) (room : ℕ) → length t ≡ table.table_size → l ≤ 3 → longest_reply ≤ room
    → feed_refusal h t s l bytes room ≡ none
room_enough h t s l bytes room e k r = not_refused h t s l bytes room e k (omega (arith, written-longest h t l (read s bytes).outcome))

-- the length that a feed tells
pub feed-longest : (h : Hub) (t : List ℕ) (s : State) (l : ℕ) (bytes : List ℕ) (room used : ℕ) (o : Option Outcome) (n : ℕ)
    → (call hub h t s l bytes room).result.answer ≡ told used o n → n ≤ 212
unfolding call decided settled serve_if
feed-longest h t s l bytes room used o n e = go (feed_refusal h t s l bytes room) (read s bytes).outcome e
  where
    go : (r : Option ℕ) (p : Option Outcome) → (decided hub h t l s (record { after = (read s bytes).after; used = (read s bytes).used; outcome = p }) r).result.answer ≡ told used o n → n ≤ 212
    go (some k) p x = let z : ◌≡◌ {A = ℕ} 0 1 = cc in absurd (omega arith)
    go none none x = let z : n ≡ 0 = cc in omega arith
    go none (some q) x = let z : n ≡ length (serve h t l q).reply = cc in omega (arith, longest h t l q)

-- and finish: no room of that length is refused
pub notice-longest : (x : ℕ) → length (notice x) ≤ 212
unfolding notice
notice-longest x = frame_short (session_finished x) (omega arith)

pub finish_enough : (h : Hub) (x room : ℕ) → any (sessions.is_numbered x) (sessions.slots_of h.slots) ≡ true → longest_reply ≤ room → (finish h x room).answer ≡ finished_on (sessions.slot_at h.slots (first (sessions.is_numbered x) (sessions.slots_of h.slots))).line (length (notice x))
finish_enough h x room o e = ap (λ (f : Finished). f.answer) (finish-done h x room o (omega (arith, notice-longest x)))

pub finish-longest : (h : Hub) (x room l n : ℕ) → (finish h x room).answer ≡ finished_on l n → n ≤ 212
unfolding notice
finish-longest h x room l n e = go (sessions.finish h.slots x) (ltb room (length (notice x))) e
  where
    go : (o : Option sessions.Finished) (t : Bool) → (finish_by o t h x).answer ≡ finished_on l n → n ≤ 212
    go none t y = let z : ◌≡◌ {A = ℕ} 0 1 = cc in absurd (omega arith)
    go (some f) true y = let z : ◌≡◌ {A = ℕ} 0 1 = cc in absurd (omega arith)
    go (some f) false y = let z : n ≡ length (notice x) = cc in omega (arith, frame_short (session_finished x) (omega arith))

-- ---- 212 bytes are sent

-- line 0 is logged in; node C0 is in use, and its other bytes are all C0, as the host may lend them: no call stores a variation above 4
abbrev asking : Hub
asking = record { password = replicate password_size 0; logins = 1 ∷ replicate 3 0; slots = replicate sessions.sessions_size 0 }

abbrev all_ends : List ℕ
all_ends = replicate (0xC0 * table.record_size) 0 ++ (1 ∷ replicate 71 0xC0) ++ replicate (7 * table.record_size) 0

-- with room for them, and with a byte less refused
abbrev asked : List ℕ
asked = 0xC0 ∷ 0x00 ∷ 0x04 ∷ 0x02 ∷ 0x00 ∷ 0xDB ∷ 0xDC ∷ 0xC6 ∷ 0xC0 ∷ []

pub longest_met : (call hub asking all_ends emptied 0 asked 212).result.answer ≡ told 9 (some (frame 0x0200 (0xC0 ∷ []))) 212
unfolding call decided settled serve_if scan onward step verdict line.step line.close inner line.decoded judge serve respond request bytes_of about_node table.in_use wire escape framed body xor_all ◌⊕◌ lookup.verdict lookup.verdict_of lookup.find directory
longest_met = refl

pub longest_refused : (call hub asking all_ends emptied 0 asked 211).result.answer ≡ refused_feed 9
unfolding call decided settled serve_if scan onward step verdict line.step line.close inner line.decoded judge serve respond request bytes_of about_node table.in_use wire escape framed body xor_all ◌⊕◌ lookup.verdict lookup.verdict_of lookup.find directory
longest_refused = refl
