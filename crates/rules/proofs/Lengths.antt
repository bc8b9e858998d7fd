-- No request changes the table's length.
use Rattle.std.specs.Prelude.{ℕ, ◌≡◌, refl, List, length, get_or, drop}
use Rattle.std.proofs.lemmas.List.{length-replicate}
use Rattle.frame.specs.Frame.{Outcome, frame, refused}
use Rattle.nodes.specs.Table as table
use Rattle.nodes.specs.TableLaws.{set_field-length, set_variation-length, remove-length}
use Rattle.directory.specs.Lookup as directory
use Rattle.rules.specs.declared.Hub.{Hub}
use Rattle.rules.specs.Hub.{Response, remove_nodes, virgin_state, mode_send, request, may_ask, respond, serve}
use Rattle.rules.proofs.Cases.{either, each_verdict, each_request}

abbrev Kept : List ℕ → Response → Type 0
Kept t r = length r.table ≡ length t

request-kept : (h : Hub) (t : List ℕ) (l c : ℕ) (d : List ℕ) → Kept t (request h t l c d)
unfolding remove_nodes virgin_state mode_send
request-kept h t l c d =
    each_request (Kept t) h t l c d (λ e. refl) (λ e. refl) refl
    (set_variation-length t (get_or d 0 0) (get_or d 1 0)) (set_field-length table.name_field t (get_or d 0 0) (drop 1 d))
    (set_field-length table.order_and_placement t (get_or d 0 0) (drop 1 d)) (remove-length d table.node_count t) (length-replicate (length t) 0) refl refl

pub serve-kept : (h : Hub) (t : List ℕ) (l : ℕ) (o : Outcome) → length (serve h t l o).table ≡ length t
unfolding serve respond
serve-kept h t l (refused n) = refl
serve-kept h t l (frame c d) =
    each_verdict (Kept t) (directory.verdict c (length d)) _ _ (λ e. refl) (either (Kept t) (may_ask h.logins l c) _ _ (request-kept h t l c d) refl)
