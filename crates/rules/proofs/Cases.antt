-- What holds of each case of a choice holds of what is chosen.
use Rattle.std.specs.Prelude as std
use Rattle.std.specs.Prelude.{ℕ, ◌≡◌, List, true, drop, get_or, eqb}
use Rattle.nodes.specs.Cases.{either_by}
use Rattle.nodes.specs.Table.{set_variation, set_name, set_order_and_placement}
use Rattle.replies.specs.Messages.{password_entered, password_changed, variation_set, name_set, order_and_placement_set}
use Rattle.rules.specs.declared.Hub.{Hub}
use Rattle.rules.specs.Hub.{Response, unknown_command, failure, by_verdict, enter, changed, password_enter, password_change, reply, node_reply, get_node, remove_nodes, virgin_state, mode_send, request}
pub use Rattle.nodes.specs.Cases.{either}

pub each_verdict : (P : Response → Type 0) (v : std.Option ℕ) (f : ℕ → Response) (x : Response) → ((e : ℕ) → P (f e)) → P x → P (by_verdict v f x)
each_verdict P (std.Some e) f x p q = p e
each_verdict P std.None f x p q = q

-- the requests served, in the order of their definition, and one that is not served
pub each_request : (P : Response → Type 0) (h : Hub) (t : List ℕ) (l c : ℕ) (d : List ℕ)
    → (eqb c password_enter ≡ true → P (reply (enter h l d).hub t (password_entered (enter h l d).status)))
    → (eqb c password_change ≡ true → P (reply (changed h d).hub t (password_changed (changed h d).status)))
    → P (get_node h t (get_or d 0 0))
    → P (node_reply h variation_set (get_or d 0 0) (set_variation t (get_or d 0 0) (get_or d 1 0)))
    → P (node_reply h name_set (get_or d 0 0) (set_name t (get_or d 0 0) (drop 1 d)))
    → P (node_reply h order_and_placement_set (get_or d 0 0) (set_order_and_placement t (get_or d 0 0) (drop 1 d)))
    → P (remove_nodes h t d)
    → P (virgin_state h t)
    → P (mode_send h t l d)
    → P (failure h t unknown_command)
    → P (request h t l c d)
unfolding request
each_request P h t l c d entered replaced got varied named placed removed zeroed sent other =
    either_by P (eqb c password_enter) _ _ entered
    (λ e. either_by P (eqb c password_change) _ _ replaced
    (λ f. either P (eqb c 0x0200) _ _ got
    (either P (eqb c 0x0206) _ _ varied
    (either P (eqb c 0x0208) _ _ named
    (either P (eqb c 0x020D) _ _ placed
    (either P (eqb c 0x0106) _ _ removed
    (either P (eqb c 0x0108) _ _ zeroed
    (either P (eqb c 0x0320) _ _ sent other))))))))
