-- No motor is held by two commands: over any list of calls, a node that is in one open session at the most stays so.
use Rattle.std.specs.Prelude.{ℕ, ◌≤◌, Bool, length, get_or, replicate, ltb}
use mathlib.Core.List.{List, [], ◌∷◌}
use Rattle.std.proofs.Math.Bool.{true, false}
use Rattle.std.proofs.Math.Option.{Option, none, some}
use native.Mathlib.Omega.{arith}
use Rattle.frame.specs.Frame.{Outcome, frame, refused}
use Rattle.sessions.specs.Sessions as sessions
use Rattle.sessions.specs.Holders.{holders, close-holders, close_all-holders, mode_send-holders, finish-holders, left_by}
use Rattle.directory.specs.Lookup as directory
use Rattle.feeds.specs.System as feeds
use Rattle.feeds.proofs.SystemLaws.{Fed, barred, done, fed}
use Rattle.rules.specs.declared.Hub.{Hub}
use Rattle.passwords.specs.Passwords.{is_same}
use Rattle.rules.specs.Hub.{Response, Password, enter, change, remove_nodes, virgin_state, mode_send, request, may_ask, respond, serve, start_refusal, start_by, close_refusal, close_by, finish_by, notice, hub}
use Rattle.rules.proofs.Cases.{either, each_verdict, each_request}
use Rattle.demands.specs.Invariants.{OneAtMost}
use Rattle.demands.specs.Calls.{World, Call, start, enrol, close, finish, feed, after, after_all}

module _ (n : ℕ) where
  abbrev One : Hub → Type 0
  One = OneAtMost n

  abbrev Kept : Response → Type 0
  Kept r = One r.hub

  -- nobody holds anything where all sessions are closed
  pub free : (k : ℕ) → holders n (sessions.slots_of (replicate k 0)) ≤ 1
  free k = omega (arith, close_all-holders n k)

  entered : (h : Hub) (l : ℕ) (d : List ℕ) → One h → One (enter h l d).hub
  unfolding enter
  entered h l d p = either (λ (x : Password). One x.hub) (is_same d h.password) _ _ p p

  changed : (h : Hub) (old new : List ℕ) → One h → One (change h old new).hub
  unfolding change
  changed h old new p = either (λ (x : Password). One x.hub) (is_same old h.password) _ _ p p

  request-one : (h : Hub) (t : List ℕ) (l c : ℕ) (d : List ℕ) → One h → One (request h t l c d).hub
  unfolding remove_nodes virgin_state mode_send
  request-one h t l c d p =
      each_request Kept h t l c d (λ e. entered h l d p) (λ e. changed h _ _ p) p p p p
      (omega (arith, close-holders n (sessions.holds_removed t d) sessions.slot_count h.slots)) (free (length h.slots))
      (mode_send-holders n h.slots t l (sessions.mode_send_of d) p) p

  pub serve-one : (h : Hub) (t : List ℕ) (l : ℕ) (o : Outcome) → One h → One (serve h t l o).hub
  unfolding serve respond
  serve-one h t l (refused x) p = p
  serve-one h t l (frame c d) p = each_verdict Kept (directory.verdict c (length d)) _ _ (λ e. p) (either Kept (may_ask h.logins l c) _ _ (request-one h t l c d p) p)

  feed-one : (w : World) (e : feeds.Entry) → One w.hub → One (feeds.feed hub w e).0.hub
  unfolding feeds.settled feeds.serve_if feeds.returned
  feed-one w e p = go (fed hub w e)
    where
      go : {x : World × feeds.Result} → Fed hub w e x → One x.0.hub
      go (barred m) = p
      go (done u s none q) = p
      go (done u s (some o) q) = serve-one w.hub w.table e.line o p

  pub call-one : (w : World) (c : Call) → One w.hub → One (after w c).hub
  unfolding after
  call-one w (start x) p = go (start_refusal w.table x)
    where
      go : (o : Option ℕ) → One (start_by o w.hub w.table x).hub
      go (some m) = p
      go none = free sessions.sessions_size
  call-one w (enrol k type) p = p
  call-one w (close l spare) p = go (close_refusal l)
    where
      go : (o : Option ℕ) → One (close_by o w.hub (get_or w.states l spare) l).hub
      go (some m) = p
      go none = omega (arith, close-holders n (sessions.is_on l) sessions.slot_count w.hub.slots)
  call-one w (finish x room) p = go (sessions.finish w.hub.slots x) (ltb room (length (notice x))) (finish-holders n w.hub.slots x)
    where
      go : (o : Option sessions.Finished) (b : Bool) → holders n (sessions.slots_of (left_by o w.hub.slots)) ≤ holders n (sessions.slots_of w.hub.slots) → One (finish_by o b w.hub x).hub
      go none b h = p
      go (some f) true h = p
      go (some f) false h = omega arith
  call-one w (feed e) p = feed-one w e p

  -- the theorem
  pub one_holder : (w : World) (cs : List Call) → One w.hub → One (after_all w cs).hub
  unfolding after_all
  one_holder w [] p = p
  one_holder w (c ∷ cs) p = one_holder (after w c) cs (call-one w c p)
