-- What a reply of the code tells, and what writing it promises.
use Rattle.std.specs.Prelude.{ℕ, List, [], ◌∷◌, ◌++◌, Bool, true, false, cond, length, drop, ltb}
use Rattle.frame.specs.Writer.{short_room, Writing, up_to, refused, no_fit, Wire}
use Rattle.replies.specs.declared.Reply.{Reply}
use Rattle.replies.specs.declared.Reply.TheVariants as reply
use Rattle.replies.specs.Messages.{Message, error, password_entered, password_changed, variation_set, name_set, order_and_placement_set, nodes_removed, virgin_state_set, mode_send_confirmed, session_finished, about_node}

-- its messages; what it tells of a node stands in the table
abbrev pub says : List ℕ → Reply → List Message
says t reply.Nothing = []
says t (reply.Error e) = error e ∷ []
says t (reply.PasswordEntered s) = password_entered s ∷ []
says t (reply.PasswordChanged s) = password_changed s ∷ []
says t (reply.AboutNode n) = about_node t n
says t (reply.VariationSet s n) = variation_set s n ∷ []
says t (reply.NameSet s n) = name_set s n ∷ []
says t (reply.OrderAndPlacementSet s n) = order_and_placement_set s n ∷ []
says t (reply.NodesRemoved k) = nodes_removed k ∷ []
says t reply.VirginStateSet = virgin_state_set ∷ []
says t (reply.ModeSendConfirmed x s) = mode_send_confirmed x s ∷ []
says t (reply.SessionFinished x) = session_finished x ∷ []

-- bytes written at the room's front, all or none: refusal 9 exactly if they are longer than the room; what stands behind them stays
unfoldable pub write_all : List ℕ → List ℕ → Wire
write_all room bytes =
    cond (ltb (length room) (length bytes)) (record { answer = refused short_room; room = room })
    (record { answer = up_to (length bytes); room = bytes ++ drop (length bytes) room })

-- whether a call wrote
abbrev pub is_written : Writing → Bool
is_written (up_to n) = true
is_written (refused n) = false
is_written no_fit = false
