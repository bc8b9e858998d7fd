-- Document 01's bytes to try, P1 to P12, as one table, with document 02's places (CR 2).
use Rattle.std.specs.Prelude.{ℕ, ◌≡◌, refl, List, [], ◌∷◌, map}
use Rattle.frame.specs.Line as line
use Rattle.frame.specs.Frame.{places_at, wire_length, on_wire, byte_at, behind, Outcome, frame, refused, wire, escape, framed, body, judge, too_short, wrong_protocol, below_length, wrong_check}
use Rattle.frame.specs.Reader.{emptied, outcomes, step, verdict, inner}
use Rattle.frame.specs.Xor as xor
use Rattle.directory.specs.Directory.{directory}
use Rattle.directory.specs.Lookup as lookup
use Rattle.replies.specs.Messages.{bytes_of}
use Rattle.rules.specs.Hub.{first_hub, respond, serve}

-- Bytes, the outcomes that they give on a line between packets, and the replies to them before login.
pub record Row : Type 0 where
  pub bytes : List ℕ
  pub given : List Outcome
  pub replies : List (List ℕ)

-- the error frames with 2 and with 12
abbrev pub frame_error_reply : List ℕ
frame_error_reply = 0xC0 ∷ 0x00 ∷ 0x04 ∷ 0x00 ∷ 0x00 ∷ 0x02 ∷ 0x06 ∷ 0xC0 ∷ []

abbrev pub not_logged_in_reply : List ℕ
not_logged_in_reply = 0xC0 ∷ 0x00 ∷ 0x04 ∷ 0x00 ∷ 0x00 ∷ 0x0C ∷ 0x08 ∷ 0xC0 ∷ []

-- a row with no outcome, one with a frame, one with a refusal at its places
abbrev pub nothing : List ℕ → Row
nothing bs = record { bytes = bs; given = []; replies = [] }

abbrev pub accepted : List ℕ → ℕ → List ℕ → Row
accepted bs c d = record { bytes = bs; given = frame c d ∷ []; replies = not_logged_in_reply ∷ [] }

abbrev pub rejected : List ℕ → ℕ → ℕ → ℕ → Row
rejected bs n w d = record { bytes = bs; given = refused (record { number = n; at = places_at w d }) ∷ []; replies = frame_error_reply ∷ [] }

abbrev pub rows : List Row
rows =
    nothing []
    ∷ nothing (0xC0 ∷ 0xC0 ∷ 0xC0 ∷ [])
    ∷ accepted (0xC0 ∷ 0x00 ∷ 0x03 ∷ 0x00 ∷ 0x01 ∷ 0x02 ∷ 0xC0 ∷ []) 0x0001 []
    ∷ accepted (0xC0 ∷ 0x00 ∷ 0x05 ∷ 0x02 ∷ 0x06 ∷ 0xDB ∷ 0xDC ∷ 0x00 ∷ 0xC1 ∷ 0xC0 ∷ []) 0x0206 (0xC0 ∷ 0x00 ∷ [])
    ∷ accepted (0xC0 ∷ 0x00 ∷ 0x05 ∷ 0x02 ∷ 0x06 ∷ 0xC1 ∷ 0x00 ∷ 0xDB ∷ 0xDC ∷ 0xC0 ∷ []) 0x0206 (0xC1 ∷ 0x00 ∷ [])
    ∷ accepted (0xC0 ∷ 0x00 ∷ 0x05 ∷ 0x02 ∷ 0x06 ∷ 0xDB ∷ 0xDD ∷ 0x00 ∷ 0xDA ∷ 0xC0 ∷ []) 0x0206 (0xDB ∷ 0x00 ∷ [])
    ∷ rejected (0xC0 ∷ 0xDB ∷ 0xC0 ∷ []) 1 1 0
    ∷ rejected (0xC0 ∷ 0x00 ∷ 0x03 ∷ 0x00 ∷ 0x03 ∷ 0xC0 ∷ []) 3 4 4
    ∷ rejected (0xC0 ∷ 0x01 ∷ 0x03 ∷ 0x00 ∷ 0x01 ∷ 0x03 ∷ 0xC0 ∷ []) 4 0 0
    ∷ rejected (0xC0 ∷ 0x00 ∷ 0x04 ∷ 0x00 ∷ 0x01 ∷ 0x05 ∷ 0xC0 ∷ []) 5 5 5
    ∷ rejected (0xC0 ∷ 0x00 ∷ 0x03 ∷ 0x00 ∷ 0x01 ∷ 0x03 ∷ 0xC0 ∷ []) 6 4 4
    ∷ accepted (0xC0 ∷ 0x00 ∷ 0x03 ∷ 0x00 ∷ 0x08 ∷ 0x0B ∷ 0xC0 ∷ []) 0x0008 []
    ∷ []

-- What the rules make of a row's bytes, with the hub before any start and any table.
abbrev pub tried : List ℕ → Row → Row
tried t r =
    let os = outcomes step emptied r.bytes in
    record { bytes = r.bytes; given = os; replies = map (λ (o : Outcome). (serve first_hub t 0 o).reply) os }

pub rows_hold : (t : List ℕ) → map (tried t) rows ≡ rows
unfolding outcomes step verdict line.step line.close inner line.decoded judge xor.xor_all xor.◌⊕◌ serve respond bytes_of wire escape framed body lookup.verdict lookup.verdict_of lookup.find directory line.wrong_escape line.behind_esc wire_length on_wire byte_at behind too_short wrong_protocol below_length wrong_check
rows_hold t = refl
