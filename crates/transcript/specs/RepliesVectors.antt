-- The answers' lines at some answers and rooms.
use Rattle.std.specs.Prelude.{ℕ, ◌≡◌, refl, [], ◌∷◌, Ok, Err}
use Rattle.frame.specs.Frame.{places_at}
use Rattle.frame.specs.declared.Cause.TheVariants as cause
use Rattle.frame.specs.declared.FrameOutcome.{FrameOutcome}
use Rattle.frame.specs.declared.FrameOutcome.TheVariants as outcome
use Rattle.rules.specs.declared.CallRefusal.TheVariants as refusal
use Rattle.rules.specs.Answers.{FinishAnswer, FeedAnswer}
use Rattle.text.specs.Text.{ascii, digit, decimal_in, decimal}
use Rattle.text.specs.Bytes.{hex_pairs, bytes_word}
use Rattle.text.specs.Places.{places_word}
use Rattle.report.specs.Report.{done_line, line_end, refused_line, finished_line, none_line, frame_line, packet_line, has_other, has_spilled}
use Rattle.transcript.specs.Replies.{call_line, refusal_line, finish_line, outcome_line, feed_line}

abbrev finished : ℕ → ℕ → FinishAnswer
finished line len = Ok (record { line = line; len = len })

abbrev told : ℕ → FrameOutcome → ℕ → FeedAnswer
told used o len = Ok (record { used = used; outcome = o; len = len })

call-done : call_line (Ok tt) ≡ ascii "done\n"
unfolding ascii done_line call_line
call-done = refl

call_refused : call_line (Err refusal.WrongPassword) ≡ ascii "refused 14\n"
unfolding ascii digit decimal_in decimal line_end refused_line call_line
call_refused = refl

-- of a refused call's room the first byte counts too
finish_refused : finish_line (Err refusal.NotOpen) (0xA5 ∷ 0xA5 ∷ []) ∷ finish_line (Err refusal.ShortRoom) (0xC0 ∷ 0xA5 ∷ []) ∷ []
    ≡ ascii "refused 13\n" ∷ ascii "refused 9 spilled\n" ∷ []
unfolding ascii digit decimal_in decimal line_end refused_line has_other has_spilled refusal_line finish_line
finish_refused = refl

-- the reply is told, and what stands behind it
finish-done : finish_line (finished 3 1) (0xC0 ∷ 0xA5 ∷ []) ∷ finish_line (finished 3 1) (0xC0 ∷ 0xC0 ∷ []) ∷ []
    ≡ ascii "finished 3 reply C0\n" ∷ ascii "finished 3 reply C0 spilled\n" ∷ []
unfolding ascii digit decimal_in decimal hex_pairs bytes_word line_end finished_line has_other has_spilled finish_line
finish-done = refl

-- a length beyond the room: all of it is the reply
feed-none : feed_line (told 7 outcome.Nothing 0) (0xA5 ∷ []) ∷ feed_line (told 7 outcome.Nothing 2) (0x01 ∷ []) ∷ []
    ≡ ascii "used 7 none reply -\n" ∷ ascii "used 7 none reply 01\n" ∷ []
unfolding ascii digit decimal_in decimal hex_pairs bytes_word line_end none_line has_other has_spilled outcome_line feed_line
feed-none = refl

feed-frame : feed_line (told 7 (outcome.Frame 0x0206 2) 1) (0x0F ∷ 0xA4 ∷ []) ≡ ascii "used 7 frame 0206 data 2 reply 0F spilled\n"
unfolding ascii digit decimal_in decimal hex_pairs bytes_word line_end frame_line has_other has_spilled outcome_line feed_line
feed-frame = refl

feed_packet : feed_line (told 7 (outcome.Refused (record { cause = cause.WrongCheck; at = places_at 10 9 })) 1) (0x0F ∷ 0xA5 ∷ []) ≡ ascii "used 7 packet 6 at 10 9 reply 0F\n"
unfolding ascii digit decimal_in decimal hex_pairs bytes_word places_word line_end packet_line has_other has_spilled outcome_line feed_line
feed_packet = refl

feed_refused : feed_line (Err refusal.WrongTable) (0xC0 ∷ []) ≡ ascii "refused 7 spilled\n"
unfolding ascii digit decimal_in decimal line_end refused_line has_other has_spilled refusal_line feed_line
feed_refused = refl
