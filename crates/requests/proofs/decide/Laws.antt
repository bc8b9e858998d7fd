-- Laws of the requests: what is decided says what the definition's response says, and leaves its hub and table once it is carried out.
use Prim.Native.Nat.{ℕ, ◌≤◌}
use mathlib.Core.Path.{◌≡◌, refl, sym, ap}
use mathlib.Core.List.{List, [], ◌∷◌}
use mathlib.Core.Bool.{Bool, true, false, cond}
use native.Mathlib.Omega.{arith}
use lib.ListN.{length, take, drop, get_or}
use lib.Seq.{take_all}
use Rattle.std.specs.Prelude.{Err}
use Rattle.frame.specs.Frame.{frame}
use Rattle.directory.specs.declared.CommandError.{CommandError}
use Rattle.directory.specs.declared.CommandError.TheVariants as refused
use Rattle.directory.specs.Lookup.{unknown_command, frame_error, verdict, error_of}
use Rattle.passwords.specs.Passwords.{is_same, stored}
use Rattle.nodes.specs.Table.{name_field, order_and_placement, node_status, set_name, set_order_and_placement, set_variation}
use Rattle.nodes.specs.TableLaws.{set_field-status}
use Rattle.sessions.specs.Sessions as sessions
use Rattle.replies.specs.Messages.{password_entered, password_changed, variation_set, name_set, order_and_placement_set}
use Rattle.replies.specs.declared.Reply.TheVariants as reply
use Rattle.rules.specs.declared.Hub.{Hub}
use Rattle.rules.specs.Hub as rules
use Rattle.rules.specs.Hub.{Password, password_size, change_size, correct, incorrect, with_login, with_password, enter, change, changed, failure, node_reply, remove_nodes, virgin_state, mode_send}
use Rattle.requests.specs.Answers.{Decides, answered, error_for, password_status, varied, confirmed}

module _ (h : Hub) (t : List ℕ) (l : ℕ) (d : List ℕ) where
  -- the error frame: hub and table stay
  pub failed_decides : (e : ℕ) → Decides (failure h t e) h t l d (reply.Error e)
  failed_decides e = record { says = refl; left = refl; enough = tt }

  -- a command that the directory refuses
  pub rejected_decides : (c : ℕ) (e : CommandError) → verdict c (length d) ≡ error_of (Err e) → Decides (rules.respond h t l (frame c d)) h t l d (answered (Err (error_for e)))
  unfolding rules.respond
  rejected_decides c refused.Unknown v = rw v (failed_decides unknown_command)
  rejected_decides c refused.WrongLength v = rw v (failed_decides frame_error)

  -- the password requests: what they do goes by the status
  pub entered_decides : length d ≡ password_size
      → Decides (rules.reply (enter h l d).hub t (password_entered (enter h l d).status)) h t l d (reply.PasswordEntered (password_status h.password (take password_size d)))
  unfolding enter
  entered_decides n = rw (take_all password_size d (omega arith)) (go (is_same d h.password))
    where
      go : (b : Bool) → let x = cond {A = Password} b (record { status = correct; hub = with_login h l }) (record { status = incorrect; hub = h }) in
          Decides (rules.reply x.hub t (password_entered x.status)) h t l d (reply.PasswordEntered (cond b correct incorrect))
      go true = record { says = refl; left = refl; enough = tt }
      go false = record { says = refl; left = refl; enough = tt }

  pub changed_decides : length d ≡ change_size
      → Decides (rules.reply (changed h d).hub t (password_changed (changed h d).status)) h t l d (reply.PasswordChanged (password_status h.password (take password_size d)))
  unfolding change
  changed_decides n = go (is_same (take password_size d) h.password)
    where
      go : (b : Bool) → let x = cond {A = Password} b (record { status = correct; hub = with_password h (stored (drop password_size d)) }) (record { status = incorrect; hub = h }) in
          Decides (rules.reply x.hub t (password_changed x.status)) h t l d (reply.PasswordChanged (cond b correct incorrect))
      go true = record { says = refl; left = refl; enough = n }
      go false = record { says = refl; left = refl; enough = n }

  -- the node set commands: the status is told before the table is changed
  pub varied_decides : Decides (node_reply h variation_set (get_or d 0 0) (set_variation t (get_or d 0 0) (get_or d 1 0))) h t l d (varied t d)
  varied_decides = record { says = refl; left = refl; enough = tt }

  pub named_decides : 1 ≤ length d
      → Decides (node_reply h name_set (get_or d 0 0) (set_name t (get_or d 0 0) (drop 1 d))) h t l d (reply.NameSet (node_status t (get_or d 0 0)) (get_or d 0 0))
  named_decides k = record {
    says = ap (λ (s : ℕ). name_set s (get_or d 0 0) ∷ []) (sym (set_field-status name_field t (get_or d 0 0) (drop 1 d)));
    left = refl;
    enough = k;
  }

  pub placed_decides : 1 ≤ length d
      → Decides (node_reply h order_and_placement_set (get_or d 0 0) (set_order_and_placement t (get_or d 0 0) (drop 1 d))) h t l d (reply.OrderAndPlacementSet (node_status t (get_or d 0 0)) (get_or d 0 0))
  placed_decides k = record {
    says = ap (λ (s : ℕ). order_and_placement_set s (get_or d 0 0) ∷ []) (sym (set_field-status order_and_placement t (get_or d 0 0) (drop 1 d)));
    left = refl;
    enough = k;
  }

  pub removed_decides : Decides (remove_nodes h t d) h t l d (reply.NodesRemoved 0)
  unfolding remove_nodes
  removed_decides = record { says = refl; left = refl; enough = tt }

  pub zeroed_decides : Decides (virgin_state h t) h t l d reply.VirginStateSet
  unfolding virgin_state
  zeroed_decides = record { says = refl; left = refl; enough = tt }

  pub sent_decides : length d ≡ sessions.mode_send_size → Decides (mode_send h t l d) h t l d (confirmed h.slots t (sessions.mode_send_of d))
  unfolding mode_send sessions.mode_send
  sent_decides n = record { says = refl; left = refl; enough = n }
