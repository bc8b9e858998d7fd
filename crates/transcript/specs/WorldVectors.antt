-- Lines of a script played on small worlds: the first of a table buffer's two bytes is lent, or none, and session 0102 of line 2 is open.
use Rattle.std.specs.Prelude.{ℕ, ◌≡◌, refl, List, [], ◌∷◌, map, replicate}
use Rattle.std.proofs.Math.Option.{none, some}
use Rattle.frame.specs.Frame as frame
use Rattle.frame.specs.Reader.{State, plain, emptied}
use Rattle.frame.specs.Xor as xor
use Rattle.feeds.specs.System as system
use Rattle.sessions.specs.Search as search
use Rattle.sessions.specs.Sessions as sessions
use Rattle.sessions.specs.declared.Slot.{Slot}
use Rattle.rules.specs.declared.Hub.{Hub}
use Rattle.replies.specs.Messages.{bytes_of}
use Rattle.rules.specs.Hub as rules
use Rattle.memory.specs.Octets.{same}
use Rattle.script.specs.Script as script
use Rattle.text.specs.Text.{ascii, digit, decimal_in, decimal}
use Rattle.text.specs.Bytes.{hex_pairs, bytes_word}
use Rattle.text.specs.Places.{places_word}
use Rattle.report.specs.Report.{bad_line, long_line, done_line, line_end, refused_line, finished_line, none_line, frame_line, packet_line}
use Rattle.transcript.specs.World.{World, Played, call_told, finish_told, outcome_told, feed_told, start, enrol, feed, close, finish, silent, bad, long, play, next_number, lines_of, answers_from, joined, transcript}

abbrev opened : Slot
opened = record { used = 1; line = 2; number = 0x0102; nodes = replicate sessions.mark_bytes 0 }

abbrev hub_with : Slot → Hub
hub_with s = record { password = replicate 32 0; logins = 0 ∷ 0 ∷ 1 ∷ 0 ∷ []; slots = sessions.slot_bytes s }

-- line 0 holds two bytes, line 3 one
abbrev world : Hub → List ℕ → State → World
world h t s = record { hub = h; table = t; states = s ∷ emptied ∷ emptied ∷ plain (9 ∷ []) ∷ [] }

abbrev before : World
before = world (hub_with opened) (7 ∷ 8 ∷ []) (plain (0xC0 ∷ 0xDB ∷ []))

abbrev answered : List ℕ → World → Played
answered text w = record { lines = text ∷ []; world = w }

abbrev made : World → script.Call → Played
made w c = play w 1 (script.call c)

-- refused calls change nothing: the whole buffer stays, whatever part of it was lent
refused : map (made before) (script.start (replicate 32 5) 1 ∷ script.enrol 0 1 0 ∷ script.feed 0 512 (0xC0 ∷ []) 1 ∷ script.close 4 ∷ script.finish 0x0102 8 ∷ script.finish 0x0103 0 ∷ [])
    ≡ map (λ (text : List ℕ). answered text before) (ascii "refused 7\n" ∷ ascii "refused 7\n" ∷ ascii "refused 7\n" ∷ ascii "refused 8\n" ∷ ascii "refused 9\n" ∷ ascii "refused 13\n" ∷ [])
unfolding play start enrol feed close finish call_told finish_told feed_told rules.notice bytes_of frame.wire frame.escape frame.framed frame.body xor.xor_all xor.◌⊕◌ system.feed system.returned system.state_for system.call system.decided sessions.finish sessions.slots_of sessions.with_slot search.below search.any search.first ascii digit decimal_in decimal line_end refused_line
refused = refl

-- closing line 0 empties its reading and no other; finishing the session closes it and tells its line
closed : made before (script.close 0) ≡ answered (ascii "done\n") (world (hub_with opened) (7 ∷ 8 ∷ []) emptied)
unfolding play close sessions.close_below sessions.close_one sessions.slots_of search.below call_told done_line ascii
closed = refl

finished : made before (script.finish 0x0102 9) ≡ answered (ascii "finished 2 reply C000050304010201C0\n") (world (hub_with sessions.closed_slot) (7 ∷ 8 ∷ []) (plain (0xC0 ∷ 0xDB ∷ [])))
unfolding play finish finish_told rules.notice bytes_of sessions.finish sessions.slots_of sessions.with_slot search.below search.any search.first frame.wire frame.escape frame.framed frame.body xor.xor_all xor.◌⊕◌ ascii digit decimal_in decimal hex_pairs bytes_word line_end finished_line
finished = refl

-- what a feed tells: no outcome, a frame with the number of its data bytes, a packet refusal
told : map (λ (a : system.Answer). feed_told a (0x0F ∷ [])) (system.told 7 none 1 ∷ system.told 7 (some (frame.frame 0x0206 (1 ∷ 2 ∷ []))) 1 ∷ system.told 7 (some (frame.refused (record { number = 15; at = frame.places_at 7 5 }))) 1 ∷ [])
    ≡ ascii "used 7 none reply 0F\n" ∷ ascii "used 7 frame 0206 data 2 reply 0F\n" ∷ ascii "used 7 packet 15 at 7 5 reply 0F\n" ∷ []
unfolding feed_told outcome_told ascii digit decimal_in decimal hex_pairs bytes_word places_word line_end none_line frame_line packet_line
told = refl

-- no call is made of a remark, of a bad line and of one that is too long; the last two are told by their numbers
none_made : map (play before 7) (script.remark ∷ script.wrong 3 ∷ script.long ∷ []) ≡ silent before ∷ answered (ascii "bad line 7 word 3\n") before ∷ answered (ascii "bad line 7 too long\n") before ∷ []
unfolding play bad long ascii digit decimal_in decimal bad_line long_line
none_made = refl

-- ---- whole inputs

-- no input, an LF alone, a line with and without its LF, and an empty line between two
cut : map lines_of ([] ∷ ascii "\n" ∷ ascii "a\n" ∷ ascii "a" ∷ ascii "a\n\nb" ∷ [])
    ≡ [] ∷ ([] ∷ []) ∷ (ascii "a" ∷ []) ∷ (ascii "a" ∷ []) ∷ (ascii "a" ∷ [] ∷ ascii "b" ∷ []) ∷ []
unfolding lines_of ascii
cut = refl

-- remarks have no answer and are counted
counted : transcript (ascii "# a remark\n\nstop\nclose 4\nclose  1") ≡ ascii "bad line 3 word 1\nrefused 8\nbad line 5 word 2\n"
unfolding lines_of answers_from transcript joined play close bad call_told ascii digit decimal_in decimal bad_line line_end refused_line
    script.words script.digits_from script.is_plain script.number script.number_up_to script.close_of script.called script.is_remark script.parse same
counted = refl

numbers : map next_number (1 ∷ 18446744073709551614 ∷ 18446744073709551615 ∷ []) ≡ 2 ∷ 18446744073709551615 ∷ 18446744073709551615 ∷ []
numbers = refl
