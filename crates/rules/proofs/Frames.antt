-- Every reply of the hub, and what finish writes, are frames as document 01 has them sent (specs/Frames.antt).
use Rattle.std.specs.Prelude.{ℕ, ◌≤◌, ◌≡◌, refl, List, [], ◌∷◌, ◌++◌, length, get_or}
use Rattle.std.proofs.Common.{sym, ap, ap₂, ◌∙◌, append_assoc, append-nil, arith}
use Rattle.frame.specs.Frame.{Outcome, frame, refused, framed, wire, max_data}
use Rattle.frame.specs.Reader.{escape}
use Rattle.replies.specs.Messages.{Message, session_finished, command_of, data_of, wire_of, bytes_of}
use Rattle.replies.specs.ReplyLaws.{Fit, about_node_fit}
use Rattle.directory.specs.Lookup as directory
use Rattle.feeds.specs.Sent.{Sent, enclosed, sent}
use Rattle.rules.specs.declared.Hub.{Hub}
use Rattle.rules.specs.Hub.{Response, remove_nodes, virgin_state, mode_send, request, may_ask, respond, serve, notice}
use Rattle.rules.proofs.Cases.{either, each_verdict, each_request}
use Rattle.rules.specs.Frames.{as_sent, OneEnd, Frames}

-- one frame
pub wire-sent : (c : ℕ) (d : List ℕ) (n : length d ≤ max_data) → wire c d ≡ sent (as_sent c d n ∷ [])
unfolding wire sent
wire-sent c d n = sym (append-nil (enclosed 1 (escape (framed c d))))

pub one-frame : (c : ℕ) (d : List ℕ) → length d ≤ max_data → Frames (wire c d)
one-frame c d n = record { frames = as_sent c d n ∷ []; ends = (refl, tt); bytes = wire-sent c d n }

-- frames behind frames
sent_append : (a b : List Sent) → sent (a ++ b) ≡ sent a ++ sent b
unfolding sent
sent_append [] b = refl
sent_append (f ∷ a) b =
    let e : List ℕ = enclosed f.ends (escape f.bytes) in
    ap (λ (w : List ℕ). e ++ w) (sent_append a b) ∙ sym (append_assoc e (sent a) (sent b))

ends_append : (a b : List Sent) → OneEnd a → OneEnd b → OneEnd (a ++ b)
ends_append [] b x y = y
ends_append (f ∷ a) b x y = (x.0, ends_append a b x.1 y)

pub both_frames : (v w : List ℕ) → Frames v → Frames w → Frames (v ++ w)
both_frames v w x y = record {
  frames = x.frames ++ y.frames;
  ends = ends_append x.frames y.frames x.ends y.ends;
  bytes = ap₂ ◌++◌ x.bytes y.bytes ∙ sym (sent_append x.frames y.frames);
}

-- so are messages of no more than 250 data bytes each
pub no_frames : Frames []
unfolding sent
no_frames = record { frames = []; ends = tt; bytes = refl }

said_frames : (ms : List Message) → Fit ms → Frames (bytes_of ms)
unfolding bytes_of
said_frames [] x = no_frames
said_frames (m ∷ ms) x = both_frames (wire_of m) (bytes_of ms) (one-frame (command_of m) (data_of m) x.0) (said_frames ms x.1)

-- and all that is said of an outcome, whatever hub and table are
abbrev Says : Response → Type 0
Says r = Fit r.says

request-says : (h : Hub) (t : List ℕ) (l c : ℕ) (d : List ℕ) → Says (request h t l c d)
unfolding remove_nodes virgin_state mode_send
request-says h t l c d =
    each_request Says h t l c d (λ x. (omega arith, tt)) (λ x. (omega arith, tt)) (about_node_fit t (get_or d 0 0)) (omega arith, tt) (omega arith, tt) (omega arith, tt)
    (omega arith, tt) (omega arith, tt) (omega arith, tt) (omega arith, tt)

respond-says : (h : Hub) (t : List ℕ) (l : ℕ) (o : Outcome) → Says (respond h t l o)
unfolding respond
respond-says h t l (refused n) = (omega arith, tt)
respond-says h t l (frame c d) =
    each_verdict Says (directory.verdict c (length d)) _ _ (λ e. (omega arith, tt))
    (either Says (may_ask h.logins l c) _ _ (request-says h t l c d) (omega arith, tt))

-- so is the reply to every outcome
pub serve_frames : (h : Hub) (t : List ℕ) (l : ℕ) (o : Outcome) → Frames (serve h t l o).reply
unfolding serve
serve_frames h t l o = said_frames (respond h t l o).says (respond-says h t l o)

-- and what finish writes
pub notice_frames : (x : ℕ) → Frames (notice x)
unfolding notice
notice_frames x = said_frames (session_finished x ∷ []) (omega arith, tt)
