-- Demand 2, over the definitions: an outcome on a line that is not logged in leaves table, password and sessions; so do whole lists of calls
-- without the host and without a line that is logged in.
use Rattle.std.specs.Prelude.{ℕ, ◌≡◌, refl, List, [], ◌∷◌, Bool, true, false, cond, length, eqb}
use Rattle.std.proofs.Common.{◌∙◌}
use Rattle.std.proofs.Math.Option.{none, some}
use Rattle.frame.specs.Frame.{Outcome, frame, refused}
use Rattle.directory.specs.Lookup as directory
use Rattle.feeds.specs.System as feeds
use Rattle.feeds.proofs.SystemLaws.{Fed, barred, done, fed}
use Rattle.rules.specs.declared.Hub.{Hub}
use Rattle.demands.specs.Invariants.{Unchanged}
use Rattle.demands.specs.Calls.{World, Call, start, enrol, close, finish, feed, after, after_all, Unprivileged}
use Rattle.passwords.specs.Passwords.{is_same}
use Rattle.replies.specs.Messages.{password_entered}
use Rattle.rules.specs.Hub.{Response, password_enter, failure, frame_error, not_logged_in, Password, enter, reply, request, is_logged_in, respond, serve, hub}
use Rattle.rules.proofs.Cases.{either, each_verdict}

-- said of what an outcome leaves
abbrev Guarded : Hub → List ℕ → Response → Type 0
Guarded h t r = Unchanged h t r.hub r.table

failure_guarded : (h : Hub) (t : List ℕ) (e : ℕ) → Guarded h t (failure h t e)
failure_guarded h t e = record { table = refl; password = refl; sessions = refl }

-- password enter changes a login at the most
enter_guarded : (h : Hub) (t : List ℕ) (l : ℕ) (d : List ℕ) → Guarded h t (reply (enter h l d).hub t (password_entered (enter h l d).status))
unfolding enter
enter_guarded h t l d =
    either (λ (p : Password). Guarded h t (reply p.hub t (password_entered p.status))) (is_same d h.password) _ _
    (record { table = refl; password = refl; sessions = refl }) (record { table = refl; password = refl; sessions = refl })

pub serve_guarded : (h : Hub) (t : List ℕ) (l : ℕ) (o : Outcome) → is_logged_in h l ≡ false → Guarded h t (respond h t l o)
unfolding respond request
serve_guarded h t l (refused n) e = failure_guarded h t frame_error
serve_guarded h t l (frame c d) e =
    each_verdict (Guarded h t) (directory.verdict c (length d)) _ _ (failure_guarded h t)
    (rw e (go (eqb c password_enter) refl))
  where
    go : (b : Bool) → eqb c password_enter ≡ b → Guarded h t (cond b (request h t l c d) (failure h t not_logged_in))
    go true x = rw x (enter_guarded h t l d)
    go false x = failure_guarded h t not_logged_in

-- ---- feeds

-- said of what is kept before and after
abbrev Same : World → World → Type 0
Same w v = Unchanged w.hub w.table v.hub v.table

feed_unchanged : (w : World) (e : feeds.Entry) → is_logged_in w.hub e.line ≡ false → Same w (feeds.feed hub w e).0
unfolding feeds.settled feeds.serve_if feeds.returned serve
feed_unchanged w e p = go (fed hub w e)
  where
    go : {x : World × feeds.Result} → Fed hub w e x → Same w x.0
    go (barred n) = record { table = refl; password = refl; sessions = refl }
    go (done u s none q) = record { table = refl; password = refl; sessions = refl }
    go (done u s (some o) q) = serve_guarded w.hub w.table e.line o p

-- the theorem: without the host and without a line that is logged in, table, password and sessions stay as they are
pub unprivileged_unchanged : (w : World) (cs : List Call) → Unprivileged w cs → Same w (after_all w cs)
unfolding after after_all
unprivileged_unchanged w [] x = record { table = refl; password = refl; sessions = refl }
unprivileged_unchanged w (start p ∷ cs) x = absurd x
unprivileged_unchanged w (enrol n type ∷ cs) x = absurd x
unprivileged_unchanged w (close l spare ∷ cs) x = absurd x
unprivileged_unchanged w (finish y room ∷ cs) x = absurd x
unprivileged_unchanged w (feed e ∷ cs) x =
    let a = feed_unchanged w e x.0 in
    let b = unprivileged_unchanged (after w (feed e)) cs x.1 in
    record { table = b.table ∙ a.table; password = b.password ∙ a.password; sessions = b.sessions ∙ a.sessions }
