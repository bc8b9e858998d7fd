-- A counting hub and nine feeds, computed: the bytes used, the marks, and demand 3's claim hold of something.
use Rattle.std.specs.Prelude.{ℕ, suc, ◌≡◌, refl, Bool, true, false, cond, List, [], ◌∷◌, ◌++◌, ltb}
use Rattle.std.proofs.Common.{ap, ◌∙◌, arith}
use Rattle.std.proofs.Math.Option.{Option, none, some}
use Rattle.frame.specs.Line as line
use Rattle.frame.specs.Xor.{◌⊕◌, xor_all}
use Rattle.frame.specs.Frame as packet
use Rattle.frame.specs.Frame.{Outcome, frame, judge}
use Rattle.frame.specs.Reader.{END, escape, onward, scan, State, plain, emptied, inner, verdict, step}
use Rattle.frame.specs.Damage.{Damage, lost, further}
use Rattle.feeds.specs.System.{Entry, Served, System, refused, told, Result, World, settled, serve_if, decided, call, state_for, returned, feed, results, end_state, error_reply}
use Rattle.feeds.specs.Marks.{answers, replies, answers_of, count_of, outcome_of, counted, used_on, told_on, marks_from, marks, marked, unmarked, nonempty}
use Rattle.feeds.specs.Sent.{Sent, enclosed, sent}
use Rattle.feeds.proofs.AnyHub.{DamageIsolated, damage_isolated}

-- The hub counts frames, and answers each with its count.
unfoldable pub serve : ℕ → Unit {0} → ℕ → Outcome → Served ℕ (Unit {0})
serve h t l (frame c d) = record { hub = suc h; table = t; reply = h ∷ [] }
serve h t l (packet.refused n) = record { hub = h; table = t; reply = error_reply }

-- Refusal 8 for a line above 3, then 9 for room below 512.
unfoldable pub refusal : ℕ → Unit {0} → State → ℕ → List ℕ → ℕ → Option ℕ
refusal h t s l bytes room = cond (ltb 3 l) (some 8) (cond (ltb room 512) (some 9) none)

abbrev pub Counting : System
Counting = record { Hub = ℕ; Table = Unit {0}; serve = serve; refusal = refusal }

-- Line 1 has begun a packet, the others are between packets.
unfoldable start : World Counting
start = record { hub = 7; table = tt; states = emptied ∷ plain (1 ∷ []) ∷ emptied ∷ emptied ∷ [] }

unfoldable entry : ℕ → ℕ → List ℕ → Entry
entry l r b = record { line = l; bytes = b; room = r; spare = emptied }

-- Line 0 sends a frame, the same with a byte lost in two feeds, with a refused feed and an empty one between them, and the frame again.
-- Meanwhile line 1 ends its packet, line 5 is refused, and line 2 sends a frame.
unfoldable entries : List Entry
entries =
    entry 0 512 (END ∷ 0 ∷ 3 ∷ 0 ∷ 1 ∷ 2 ∷ END ∷ 9 ∷ [])
    ∷ entry 0 512 (END ∷ 0 ∷ 3 ∷ [])
    ∷ entry 1 600 (2 ∷ END ∷ [])
    ∷ entry 0 511 (0 ∷ 0 ∷ 0 ∷ [])
    ∷ entry 5 600 (0 ∷ 0 ∷ 0 ∷ [])
    ∷ entry 0 512 []
    ∷ entry 2 512 (0 ∷ 3 ∷ 0 ∷ 1 ∷ 2 ∷ END ∷ END ∷ [])
    ∷ entry 0 512 (1 ∷ 2 ∷ END ∷ END ∷ [])
    ∷ entry 0 512 (0 ∷ 3 ∷ 0 ∷ 1 ∷ 2 ∷ END ∷ [])
    ∷ []

-- A short packet of n bytes, none of them escaped.
abbrev pub short_at : ℕ → Outcome
short_at n = packet.refused (record { number = 3; at = packet.places_at n n })

-- What each gives.
unfoldable given : List Result
given =
    record { answer = told 7 (some (frame 1 [])) 1; reply = 7 ∷ [] }
    ∷ record { answer = told 3 none 0; reply = [] }
    ∷ record { answer = told 2 (some (short_at 2)) 8; reply = error_reply }
    ∷ record { answer = refused 9; reply = [] }
    ∷ record { answer = refused 8; reply = [] }
    ∷ record { answer = told 0 none 0; reply = [] }
    ∷ record { answer = told 6 (some (frame 1 [])) 1; reply = 8 ∷ [] }
    ∷ record { answer = told 3 (some (short_at 4)) 8; reply = error_reply }
    ∷ record { answer = told 6 (some (frame 1 [])) 1; reply = 9 ∷ [] }
    ∷ []

example-results : results Counting start entries ≡ given
unfolding serve refusal start entry entries given results feed returned call decided settled serve_if state_for scan onward step verdict inner line.step line.decoded line.close line.wrong_escape line.too_long judge packet.too_long packet.too_short packet.wrong_protocol packet.below_length packet.beyond_length packet.wire_length packet.behind packet.byte_at packet.on_wire escape packet.wrong_check xor_all ◌⊕◌
example-results = refl

-- The bytes used on line 0.
example-used : used_on 0 entries (answers given) ≡ END ∷ 0 ∷ 3 ∷ 0 ∷ 1 ∷ 2 ∷ END ∷ END ∷ 0 ∷ 3 ∷ 1 ∷ 2 ∷ END ∷ 0 ∷ 3 ∷ 0 ∷ 1 ∷ 2 ∷ END ∷ []
unfolding entry entries given used_on count_of
example-used = refl

-- The outcomes told on it.
example-told : told_on 0 entries (answers given) ≡ frame 1 [] ∷ short_at 4 ∷ frame 1 [] ∷ []
unfolding entry entries given told_on outcome_of
example-told = refl

-- The feeds of its outcome 1: also the refused and the empty one, and none of another line.
unfoldable its : List Bool
its = false ∷ true ∷ false ∷ true ∷ false ∷ true ∷ false ∷ true ∷ false ∷ []

example-marks : marks 0 1 entries (answers given) ≡ its
unfolding entry entries given marks_from counted outcome_of its
example-marks = refl

-- They send one error reply; without them the other feeds give the same, and the end state is the same.
example-reply : nonempty (replies (marked its given)) ≡ error_reply ∷ []
unfolding given its marked nonempty
example-reply = refl

example_others : results Counting start (unmarked its entries) ≡ unmarked its given
unfolding its unmarked serve refusal start entry entries given results feed returned call decided settled serve_if state_for scan onward step verdict inner line.step line.decoded line.close line.wrong_escape line.too_long judge packet.too_long packet.too_short packet.wrong_protocol packet.below_length packet.beyond_length packet.wire_length packet.behind packet.byte_at packet.on_wire escape packet.wrong_check xor_all ◌⊕◌
example_others = refl

example_end : end_state Counting start (unmarked its entries) ≡ end_state Counting start entries
unfolding its unmarked end_state serve refusal start entry entries given results feed returned call decided settled serve_if state_for scan onward step verdict inner line.step line.decoded line.close line.wrong_escape line.too_long judge packet.too_long packet.too_short packet.wrong_protocol packet.below_length packet.beyond_length packet.wire_length packet.behind packet.byte_at packet.on_wire escape packet.wrong_check xor_all ◌⊕◌
example_end = refl

-- The frame that line 0 sends, with n ENDs before it.
pub one-accepted : judge (0 ∷ 3 ∷ 0 ∷ 1 ∷ 2 ∷ []) ≡ frame 1 []
unfolding judge xor_all ◌⊕◌
one-accepted = refl

unfoldable pub one : ℕ → Sent
one n = record { ends = n; bytes = 0 ∷ 3 ∷ 0 ∷ 1 ∷ 2 ∷ []; command = 1; content = []; accepted = one-accepted }

-- What it used is what demand 3 speaks of: the second frame has lost a byte, and the third shares its END.
pub example_damage : Damage (escape (one 1).bytes) (0 ∷ 3 ∷ 1 ∷ 2 ∷ [])
unfolding one escape
example_damage = further (further lost)

example-sent : used_on 0 entries (answers_of Counting start entries) ≡ sent (one 1 ∷ []) ++ (enclosed 1 (0 ∷ 3 ∷ 1 ∷ 2 ∷ []) ++ sent (one 0 ∷ []))
unfolding one escape sent
example-sent = ap (λ (rs : List Result). used_on 0 entries (answers rs)) example-results ∙ example-used

-- So the theorem applies to it.
example_isolated : DamageIsolated Counting 0 start entries (one 1 ∷ []) (sent (one 0 ∷ []))
unfolding serve start one
example_isolated =
    damage_isolated Counting 0 start (omega arith) entries (λ h t l n. refl) refl (one 1 ∷ []) (one 1) (0 ∷ 3 ∷ 1 ∷ 2 ∷ []) (sent (one 0 ∷ [])) example_damage example-sent
