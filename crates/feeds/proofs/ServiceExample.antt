-- Feeds as they are called, computed: rooms with content, and a record that claims more than it may hold. Demand 3 applies to them.
use Rattle.std.specs.Prelude.{ℕ, ◌≡◌, refl, true, false, List, [], ◌∷◌, ◌++◌, replicate}
use Rattle.std.proofs.Math.Option.{Option, none, some}
use Rattle.std.proofs.Common.{arith}
use Rattle.line.specs.declared.Reading.{Reading}
use Rattle.line.specs.declared.Mode.TheVariants.{Plain, Escaped}
use Rattle.frame.specs.Line as line
use Rattle.frame.specs.Xor.{◌⊕◌, xor_all}
use Rattle.frame.specs.Frame as packet
use Rattle.frame.specs.Frame.{frame, judge}
use Rattle.frame.specs.Reader.{END, escape, onward, scan, emptied_reading, inner, verdict, step}
use Rattle.feeds.specs.System.{Answer, refused, told, settled, serve_if, decided, call, error_reply}
use Rattle.feeds.specs.Marks.{count_of, outcome_of, counted, used_on, marks_from}
use Rattle.feeds.specs.Sent.{sent}
use Rattle.feeds.specs.Service.{Lent, Got, Memory, entry_of, Promise, record_for, Run, stop, next, Feeds, marks_in}
use Rattle.feeds.specs.Demand3.{Line, OneDamaged, Harmless}
use Rattle.feeds.proofs.Demand3.{harmless}
use Rattle.feeds.proofs.Example.{serve, refusal, Counting, short_at, one, example_damage}

-- A record that claims more than 255 bytes: it is taken as one between packets.
unfoldable junk : Reading
junk = record { bytes = replicate 255 9; count = 999; mode = Escaped }

-- One that holds two bytes.
unfoldable two : Reading
two = record { bytes = 0 ∷ 3 ∷ replicate 253 9; count = 2; mode = Plain }

-- One between packets, with other bytes beyond those held.
unfoldable used : Reading
used = record { bytes = 0 ∷ 3 ∷ 1 ∷ 2 ∷ replicate 251 9; count = 0; mode = Plain }

-- Line 0 has the first, line 1 the second.
unfoldable begin : Memory Counting
begin = record { hub = 7; table = tt; records = junk ∷ two ∷ emptied_reading ∷ emptied_reading ∷ [] }

-- What is lent: room of n bytes, and junk for a line above 3.
unfoldable lent : ℕ → ℕ → List ℕ → Lent
lent l n bs = record { line = l; bytes = bs; room = replicate n 5; spare = junk }

-- What is got back, the room by its first bytes and the number of others.
unfoldable got : ℕ → Reading → Answer → List ℕ → ℕ → Got Counting
got h r a reply n = record { hub = h; table = tt; reading = r; answer = a; room = reply ++ replicate n 5 }

-- An answer that tells something tells no refusal.
told-kept : {A : Type 0} {u k : ℕ} {o : Option packet.Outcome} (n : ℕ) → told u o k ≡ refused n → A
told-kept n p = let z : ◌≡◌ {A = ℕ} 0 1 = cc in absurd (omega arith)

-- A damaged frame in two feeds, with a refused feed, one on a line above 3 and an empty one between them, then a frame.
unfoldable lents : List Lent
lents =
    lent 0 512 (END ∷ 0 ∷ 3 ∷ [])
    ∷ lent 0 511 (9 ∷ [])
    ∷ lent 5 512 (9 ∷ [])
    ∷ lent 0 512 []
    ∷ lent 0 512 (1 ∷ 2 ∷ END ∷ END ∷ [])
    ∷ lent 0 512 (0 ∷ 3 ∷ 0 ∷ 1 ∷ 2 ∷ END ∷ [])
    ∷ []

-- What each gives back.
unfoldable gots : List (Got Counting)
gots =
    got 7 two (told 3 none 0) [] 512
    ∷ got 7 two (refused 9) [] 511
    ∷ got 7 junk (refused 8) [] 512
    ∷ got 7 two (told 0 none 0) [] 512
    ∷ got 7 used (told 3 (some (short_at 4)) 8) error_reply 504
    ∷ got 8 used (told 6 (some (frame 1 [])) 1) (7 ∷ []) 511
    ∷ []

-- What is left at the end.
unfoldable left : Memory Counting
left = record { hub = 8; table = tt; records = used ∷ two ∷ emptied_reading ∷ emptied_reading ∷ [] }

-- The memory between two of the feeds: only the hub and the first record change.
unfoldable begun : ℕ → Reading → Memory Counting
begun h r = record { hub = h; table = tt; records = r ∷ two ∷ emptied_reading ∷ emptied_reading ∷ [] }

-- What a feed promises that is lent g in the memory m and gives back o.
abbrev Keeps : Memory Counting → Lent → Got Counting → Type 0
Keeps m g o = Promise Counting m.hub m.table (record_for Counting m g) g.line g.bytes g.room o

-- Each keeps its promise.
first : Keeps (begun 7 junk) (lent 0 512 (END ∷ 0 ∷ 3 ∷ [])) (got 7 two (told 3 none 0) [] 512)
unfolding junk two used begun lent got entry_of serve refusal call decided settled serve_if scan onward step verdict inner line.step line.decoded line.close line.wrong_escape line.too_long judge packet.too_long packet.too_short packet.wrong_protocol packet.below_length packet.beyond_length packet.wire_length packet.behind packet.byte_at packet.on_wire escape packet.wrong_check xor_all ◌⊕◌
first = record { hub = refl; table = refl; state = refl; answer = refl; room = refl; kept = told-kept }

second : Keeps (begun 7 two) (lent 0 511 (9 ∷ [])) (got 7 two (refused 9) [] 511)
unfolding junk two used begun lent got entry_of serve refusal call decided settled serve_if scan onward step verdict inner line.step line.decoded line.close line.wrong_escape line.too_long judge packet.too_long packet.too_short packet.wrong_protocol packet.below_length packet.beyond_length packet.wire_length packet.behind packet.byte_at packet.on_wire escape packet.wrong_check xor_all ◌⊕◌
second = record { hub = refl; table = refl; state = refl; answer = refl; room = refl; kept = λ n p. refl }

third : Keeps (begun 7 two) (lent 5 512 (9 ∷ [])) (got 7 junk (refused 8) [] 512)
unfolding junk two used begun lent got entry_of serve refusal call decided settled serve_if scan onward step verdict inner line.step line.decoded line.close line.wrong_escape line.too_long judge packet.too_long packet.too_short packet.wrong_protocol packet.below_length packet.beyond_length packet.wire_length packet.behind packet.byte_at packet.on_wire escape packet.wrong_check xor_all ◌⊕◌
third = record { hub = refl; table = refl; state = refl; answer = refl; room = refl; kept = λ n p. refl }

fourth : Keeps (begun 7 two) (lent 0 512 []) (got 7 two (told 0 none 0) [] 512)
unfolding junk two used begun lent got entry_of serve refusal call decided settled serve_if scan onward step verdict inner line.step line.decoded line.close line.wrong_escape line.too_long judge packet.too_long packet.too_short packet.wrong_protocol packet.below_length packet.beyond_length packet.wire_length packet.behind packet.byte_at packet.on_wire escape packet.wrong_check xor_all ◌⊕◌
fourth = record { hub = refl; table = refl; state = refl; answer = refl; room = refl; kept = told-kept }

fifth : Keeps (begun 7 two) (lent 0 512 (1 ∷ 2 ∷ END ∷ END ∷ [])) (got 7 used (told 3 (some (short_at 4)) 8) error_reply 504)
unfolding junk two used begun lent got entry_of serve refusal call decided settled serve_if scan onward step verdict inner line.step line.decoded line.close line.wrong_escape line.too_long judge packet.too_long packet.too_short packet.wrong_protocol packet.below_length packet.beyond_length packet.wire_length packet.behind packet.byte_at packet.on_wire escape packet.wrong_check xor_all ◌⊕◌
fifth = record { hub = refl; table = refl; state = refl; answer = refl; room = refl; kept = told-kept }

sixth : Keeps (begun 7 used) (lent 0 512 (0 ∷ 3 ∷ 0 ∷ 1 ∷ 2 ∷ END ∷ [])) (got 8 used (told 6 (some (frame 1 [])) 1) (7 ∷ []) 511)
unfolding junk two used begun lent got entry_of serve refusal call decided settled serve_if scan onward step verdict inner line.step line.decoded line.close line.wrong_escape line.too_long judge packet.too_long packet.too_short packet.wrong_protocol packet.below_length packet.beyond_length packet.wire_length packet.behind packet.byte_at packet.on_wire escape packet.wrong_check xor_all ◌⊕◌
sixth = record { hub = refl; table = refl; state = refl; answer = refl; room = refl; kept = told-kept }

example_run : Run Counting begin lents gots left
unfolding begin begun left lents gots lent got
example_run =
    next {m = begun 7 junk} {g = lent 0 512 (END ∷ 0 ∷ 3 ∷ [])} {o = got 7 two (told 3 none 0) [] 512} first
    (next {m = begun 7 two} {g = lent 0 511 (9 ∷ [])} {o = got 7 two (refused 9) [] 511} second
    (next {m = begun 7 two} {g = lent 5 512 (9 ∷ [])} {o = got 7 junk (refused 8) [] 512} third
    (next {m = begun 7 two} {g = lent 0 512 []} {o = got 7 two (told 0 none 0) [] 512} fourth
    (next {m = begun 7 two} {g = lent 0 512 (1 ∷ 2 ∷ END ∷ END ∷ [])} {o = got 7 used (told 3 (some (short_at 4)) 8) error_reply 504} fifth
    (next {m = begun 7 used} {g = lent 0 512 (0 ∷ 3 ∷ 0 ∷ 1 ∷ 2 ∷ END ∷ [])} {o = got 8 used (told 6 (some (frame 1 [])) 1) (7 ∷ []) 511} sixth
    stop)))))

-- The list of feeds, run.
unfoldable example : Feeds Counting
example = record { start = begin; lent = lents; got = gots; end = left; run = example_run }

-- Line 3 is the last of its four.
example-last : Line 3 example
unfolding example begin
example-last = record { four = refl; line = omega arith }

-- It is a case of demand 3's first half.
example_damaged : OneDamaged 0 example
unfolding example junk begin lent got lents gots entry_of used_on count_of sent one escape
example_damaged = record {
  line = record { four = refl; line = omega arith };
  between = refl;
  before = [];
  one = one 1;
  after = one 0 ∷ [];
  ends = 0;
  damaged = 0 ∷ 3 ∷ 1 ∷ 2 ∷ [];
  damage = example_damage;
  used = refl;
}

-- The damaged frame's feeds.
example-its : marks_in 0 0 example ≡ true ∷ true ∷ false ∷ true ∷ true ∷ false ∷ []
unfolding example lent got lents gots entry_of marks_from counted outcome_of
example-its = refl

-- So its feeds are harmless.
example_harmless : Harmless 0 example example_damaged
unfolding serve
example_harmless = harmless (λ h t l n. refl) 0 example example_damaged
