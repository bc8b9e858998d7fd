-- Demand 2, over whole lists of calls: the password is that of the last start or change that was accepted, as it is stored, or that before the
-- list where neither came.
use Rattle.std.specs.Prelude as std
use Rattle.std.specs.Prelude.{ℕ, ◌≡◌, refl, List, [], ◌∷◌, Bool, true, false, cond, ◌&&◌, ◌||◌, length, take, drop, get_or, ltb, eqb}
use Rattle.std.proofs.Common.{sym, ap, ◌∙◌, eqb-true}
use Rattle.std.proofs.lemmas.Bool.{false≢true}
use Rattle.std.proofs.Math.Option.{Option, none, some}
use Rattle.frame.specs.Frame.{Outcome, frame, refused}
use Rattle.passwords.specs.Passwords.{is_same, stored}
use Rattle.sessions.specs.Sessions as sessions
use Rattle.directory.specs.Directory.{directory}
use Rattle.directory.specs.Lookup as lookup
use Rattle.directory.specs.DirectoryLaws.{verdict_fixed}
use Rattle.feeds.specs.System as feeds
use Rattle.feeds.specs.Marks.{outcome_of}
use Rattle.feeds.proofs.SystemLaws.{Fed, barred, done, fed}
use Rattle.replies.specs.Messages.{password_changed}
use Rattle.rules.specs.declared.Hub.{Hub}
use Rattle.rules.specs.Hub as rules
use Rattle.rules.proofs.Cases.{either, each_verdict, each_request}
use Rattle.demands.specs.Calls.{World, Call, start, enrol, close, finish, feed, after, after_all, is_change, new_password, replaced_by, started_with, password_by, password_by_all}

-- ---- serving an outcome

abbrev Kept : Hub → rules.Response → Type 0
Kept h r = r.hub.password ≡ h.password

enter-kept : (h : Hub) (l : ℕ) (d : List ℕ) → (rules.enter h l d).hub.password ≡ h.password
unfolding rules.enter
enter-kept h l d = either (λ (p : rules.Password). p.hub.password ≡ h.password) (is_same d h.password) _ _ refl refl

-- every request but password change leaves the password
request-kept : (h : Hub) (t : List ℕ) (l c : ℕ) (d : List ℕ) → eqb c rules.password_change ≡ false → Kept h (rules.request h t l c d)
unfolding rules.remove_nodes rules.virgin_state rules.mode_send
request-kept h t l c d e =
    each_request (Kept h) h t l c d (λ x. enter-kept h l d) (λ x. absurd (false≢true (sym e ∙ x)))
    refl refl refl refl refl refl refl refl

-- password change replaces it exactly on a line that is logged in, and by the right password
change_password : (h : Hub) (t : List ℕ) (l : ℕ) (d : List ℕ) → (rules.serve h t l (frame rules.password_change d)).hub.password
    ≡ replaced_by (cond (is_change h.password (rules.is_logged_in h l) d) (some (stored (drop rules.password_size d))) none) h.password
unfolding rules.serve rules.respond rules.request rules.change lookup.find directory
change_password h t l d =
    rw (verdict_fixed rules.password_change rules.change_size (length d) refl)
    (go (eqb (length d) rules.change_size) (rules.is_logged_in h l) (is_same (take rules.password_size d) h.password))
  where
    new : List ℕ
    new = stored (drop rules.password_size d)

    changed : Bool → rules.Password
    changed s = cond s (record { status = rules.correct; hub = rules.with_password h new }) (record { status = rules.incorrect; hub = h })

    go : (b i s : Bool)
        → (rules.by_verdict (cond b std.None (std.Some lookup.frame_error)) (rules.failure h t)
        (cond (i || false) (rules.reply (changed s).hub t (password_changed (changed s).status)) (rules.failure h t rules.not_logged_in))).hub.password
        ≡ replaced_by (cond (b && (i && s)) (some new) none) h.password
    go true true true = refl
    go true true false = refl
    go true false s = refl
    go false i s = refl

pub serve_password : (h : Hub) (t : List ℕ) (l : ℕ) (o : Outcome) → (rules.serve h t l o).hub.password ≡ replaced_by (new_password h.password (rules.is_logged_in h l) (some o)) h.password
unfolding new_password rules.serve rules.respond
serve_password h t l (refused n) = refl
serve_password h t l (frame c d) = go (eqb c rules.password_change) refl
  where
    go : (b : Bool) → eqb c rules.password_change ≡ b
        → (rules.serve h t l (frame c d)).hub.password
        ≡ replaced_by (cond (b && is_change h.password (rules.is_logged_in h l) d) (some (stored (drop rules.password_size d))) none) h.password
    go true e = rw (eqb-true c rules.password_change e) (change_password h t l d)
    go false e = each_verdict (Kept h) (lookup.verdict c (length d)) _ _ (λ x. refl) (either (Kept h) (rules.may_ask h.logins l c) _ _ (request-kept h t l c d e) refl)

-- ---- one call

feed_password : (w : World) (e : feeds.Entry)
    → (feeds.feed rules.hub w e).0.hub.password
    ≡ replaced_by (new_password w.hub.password (rules.is_logged_in w.hub e.line) (outcome_of (feeds.feed rules.hub w e).1.answer)) w.hub.password
unfolding feeds.settled feeds.serve_if feeds.returned new_password outcome_of
feed_password w e = go (fed rules.hub w e)
  where
    go : {x : World × feeds.Result} → Fed rules.hub w e x
        → x.0.hub.password ≡ replaced_by (new_password w.hub.password (rules.is_logged_in w.hub e.line) (outcome_of x.1.answer)) w.hub.password
    go (barred n) = refl
    go (done u s none q) = refl
    go (done u s (some o) q) = serve_password w.hub w.table e.line o

call_password : (w : World) (c : Call) → (after w c).hub.password ≡ password_by w.hub.password w c
unfolding after password_by
call_password w (start p) = go (rules.start_refusal w.table p)
  where
    go : (o : Option ℕ) → (rules.start_by o w.hub w.table p).hub.password ≡ started_with o p w.hub.password
    go none = refl
    go (some n) = refl
call_password w (enrol n type) = refl
call_password w (close k spare) = go (rules.close_refusal k)
  where
    go : (o : Option ℕ) → (rules.close_by o w.hub (get_or w.states k spare) k).hub.password ≡ w.hub.password
    go none = refl
    go (some n) = refl
call_password w (finish x room) = go (sessions.finish w.hub.slots x) (ltb room (length (rules.notice x)))
  where
    go : (o : Option sessions.Finished) (b : Bool) → (rules.finish_by o b w.hub x).hub.password ≡ w.hub.password
    go none b = refl
    go (some f) true = refl
    go (some f) false = refl
call_password w (feed e) = feed_password w e

-- ---- the theorem

pub password_exactly : (w : World) (cs : List Call) → (after_all w cs).hub.password ≡ password_by_all w.hub.password w cs
unfolding after_all password_by_all
password_exactly w [] = refl
password_exactly w (c ∷ cs) = password_exactly (after w c) cs ∙ ap (λ (p : List ℕ). password_by_all p (after w c) cs) (call_password w c)
