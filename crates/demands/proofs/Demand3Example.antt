-- Demand 3 is not empty: nine feeds on this hub, computed. Line 0, whose record claims 300 bytes, sends a frame, one with a byte replaced,
-- and a third; while the damaged one comes, line 1 logs in, a feed of line 0 is refused for a byte of room that its error reply lacks, one is empty, and line 7 is refused.
use Rattle.std.specs.Prelude.{ℕ, ◌≡◌, refl, Bool, true, false, List, [], ◌∷◌, ◌++◌, replicate}
use Rattle.std.proofs.Common.{ap, subst, ◌∙◌, arith}
use Rattle.std.proofs.Math.Option.{none, some}
use Rattle.line.specs.declared.Mode.TheVariants.{Escaped}
use Rattle.line.specs.declared.Reading.{Reading}
use Rattle.frame.specs.Line as line
use Rattle.frame.specs.Frame as frames
use Rattle.frame.specs.Frame.{frame, wire, framed, body, judge}
use Rattle.frame.specs.Reader.{END, escape, onward, scan, emptied, emptied_reading, inner, verdict, step}
use Rattle.frame.specs.Damage.{Damage, replaced, further}
use Rattle.frame.specs.Xor.{◌⊕◌, xor_all}
use Rattle.directory.specs.Directory.{directory}
use Rattle.directory.specs.Lookup as lookup
use Rattle.nodes.specs.Table as table
use Rattle.feeds.specs.System.{Entry, refused, told, Result, serve_if, settled, decided, call, state_for, returned, feed, results, error_reply}
use Rattle.feeds.specs.Marks.{answers, count_of, outcome_of, counted, used_on, marks_from, marks, unmarked, Isolated}
use Rattle.feeds.specs.Sent.{Sent, enclosed, sent}
use Rattle.feeds.specs.Service.{world_of}
use Rattle.feeds.proofs.AnyHub.{DamageIsolated, damage_isolated}
use Rattle.memory.specs.Octets.{same}
use Rattle.passwords.specs.Passwords.{password_of}
use Rattle.replies.specs.Messages.{bytes_of, about_node}
use Rattle.rules.specs.Hub as rules
use Rattle.rules.specs.Hub.{first_hub, hub, serve}
use Rattle.demands.specs.Calls.{World}
use Rattle.demands.proofs.ErrorReply.{only_error_reply}

-- a record with garbage in it
unfoldable overfull : Reading
overfull = record { bytes = replicate 255 9; count = 300; mode = Escaped }

unfoldable start : World
start = world_of {H = hub} (record { hub = first_hub; table = replicate table.table_size 0; records = overfull ∷ emptied_reading ∷ emptied_reading ∷ emptied_reading ∷ [] })

unfoldable entry : ℕ → ℕ → List ℕ → Entry
entry l r b = record { line = l; bytes = b; room = r; spare = emptied }

unfoldable entries : List Entry
entries =
    entry 0 8 (END ∷ 0x00 ∷ 0x03 ∷ 0x00 ∷ 0x01 ∷ 0x02 ∷ END ∷ 9 ∷ [])
    ∷ entry 0 0 (END ∷ 0x00 ∷ 0x03 ∷ 0x00 ∷ [])
    ∷ entry 1 300 (END ∷ 0x00 ∷ 0x23 ∷ 0x30 ∷ 0x00 ∷ (replicate 32 0x00 ++ 0x13 ∷ END ∷ []))
    ∷ entry 0 7 (0x08 ∷ 0x0A ∷ END ∷ [])
    ∷ entry 7 0 (0x08 ∷ 0x0A ∷ END ∷ [])
    ∷ entry 0 0 []
    ∷ entry 0 8 (0x08 ∷ 0x0A ∷ END ∷ 9 ∷ [])
    ∷ entry 0 300 (0x00 ∷ 0x03 ∷ 0x00 ∷ 0x08 ∷ 0x0B ∷ END ∷ [])
    ∷ entry 1 9 (0x00 ∷ 0x04 ∷ 0x02 ∷ 0x00 ∷ 0x05 ∷ 0x03 ∷ END ∷ [])
    ∷ []

-- what each gives: line 1 is told status 0, and later, logged in, status 2 for a node that is not in use
unfoldable given : List Result
given =
    record { answer = told 7 (some (frame 0x0001 [])) 8; reply = wire 0x0000 (12 ∷ []) }
    ∷ record { answer = told 4 none 0; reply = [] }
    ∷ record { answer = told 39 (some (frame 0x3000 (replicate 32 0))) 8; reply = wire 0x3001 (0 ∷ []) }
    ∷ record { answer = refused 9; reply = [] }
    ∷ record { answer = refused 8; reply = [] }
    ∷ record { answer = told 0 none 0; reply = [] }
    ∷ record { answer = told 3 (some (frames.refused (record { number = 6; at = frames.places_at 4 4 }))) 8; reply = error_reply }
    ∷ record { answer = told 6 (some (frame 0x0008 [])) 8; reply = wire 0x0000 (12 ∷ []) }
    ∷ record { answer = told 7 (some (frame 0x0200 (5 ∷ []))) 9; reply = wire 0x0201 (2 ∷ 5 ∷ []) }
    ∷ []

-- the feeds of line 0's outcome 1: also the refused and the empty one, and none of another line
unfoldable its : List Bool
its = false ∷ true ∷ false ∷ true ∷ false ∷ true ∷ true ∷ false ∷ false ∷ []

example-results : results hub start entries ≡ given
unfolding overfull start world_of entry entries given serve rules.respond bytes_of about_node rules.request rules.enter password_of same table.in_use lookup.verdict lookup.verdict_of lookup.find directory results feed returned call decided settled serve_if state_for scan onward step verdict inner line.step line.decoded line.close line.wrong_escape line.too_long judge wire escape framed body frames.too_long frames.too_short frames.wrong_protocol frames.below_length frames.beyond_length frames.wire_length frames.on_wire frames.byte_at frames.behind frames.wrong_check xor_all ◌⊕◌
example-results = refl

example-marks : marks 0 1 entries (answers given) ≡ its
unfolding entry entries given marks_from counted outcome_of its
example-marks = refl

-- the frames 0001 and 0008 of line 0, with n ENDs before them
reboot-accepted : judge (0x00 ∷ 0x03 ∷ 0x00 ∷ 0x01 ∷ 0x02 ∷ []) ≡ frame 0x0001 []
unfolding judge xor_all ◌⊕◌
reboot-accepted = refl

version-accepted : judge (0x00 ∷ 0x03 ∷ 0x00 ∷ 0x08 ∷ 0x0B ∷ []) ≡ frame 0x0008 []
unfolding judge xor_all ◌⊕◌
version-accepted = refl

unfoldable reboot : Sent
reboot = record { ends = 1; bytes = 0x00 ∷ 0x03 ∷ 0x00 ∷ 0x01 ∷ 0x02 ∷ []; command = 0x0001; content = []; accepted = reboot-accepted }

unfoldable version : ℕ → Sent
version n = record { ends = n; bytes = 0x00 ∷ 0x03 ∷ 0x00 ∷ 0x08 ∷ 0x0B ∷ []; command = 0x0008; content = []; accepted = version-accepted }

-- the second one's check byte is replaced
example_damage : Damage (escape (version 1).bytes) (0x00 ∷ 0x03 ∷ 0x00 ∷ 0x08 ∷ 0x0A ∷ [])
unfolding version escape
example_damage = further (further (further (further (replaced {a = 0x0B} {b = 0x0A} (λ (e : ◌≡◌ {A = ℕ} 0x0B 0x0A). omega arith) (λ (e : ◌≡◌ {A = ℕ} 0x0A END). omega arith)))))

example-used : used_on 0 entries (answers given)
    ≡ sent (reboot ∷ []) ++ (enclosed 1 (0x00 ∷ 0x03 ∷ 0x00 ∷ 0x08 ∷ 0x0A ∷ []) ++ sent (version 0 ∷ []))
unfolding entry entries given used_on count_of reboot version escape sent
example-used = refl

-- so the theorem applies to it
example_isolated : DamageIsolated hub 0 start entries (reboot ∷ []) (sent (version 0 ∷ []))
unfolding overfull start world_of version
example_isolated =
    damage_isolated hub 0 start (omega arith) entries only_error_reply refl (reboot ∷ []) (version 1) (0x00 ∷ 0x03 ∷ 0x00 ∷ 0x08 ∷ 0x0A ∷ []) (sent (version 0 ∷ []))
    example_damage (ap (λ (rs : List Result). used_on 0 entries (answers rs)) example-results ∙ example-used)

-- its feeds send one error reply; without them the other feeds give the same, and the end state is the same
example-alone : Isolated hub error_reply start entries its
example-alone = subst (λ (m : List Bool). Isolated hub error_reply start entries m) (ap (λ (rs : List Result). marks 0 1 entries (answers rs)) example-results ∙ example-marks) example_isolated.isolated

example_others : results hub start (unmarked its entries) ≡ unmarked its given
example_others = example-alone.same_results ∙ ap (unmarked its) example-results
