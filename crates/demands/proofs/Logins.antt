-- Demand 2, over whole lists of calls: a line is logged in exactly if it gave the right password after the last start and the last close
-- of that line, or was logged in before the list and neither came.
use Rattle.std.specs.Prelude as std
use Rattle.std.specs.Prelude.{ℕ, ◌<◌, ◌≡◌, refl, List, [], ◌∷◌, Bool, true, false, cond, not, ◌&&◌, ◌||◌, length, set, get_or, ltb, eqb}
use Rattle.std.proofs.Common.{sym, ap, ◌∙◌, arith, length-set, get_or-set_same, get_or-set_other, eqb-true, ne_eqb, ltb-false}
use Rattle.std.proofs.lemmas.Bool.{false≢true, eqb-false}
use Rattle.std.proofs.Math.Option.{Option, none, some}
use Rattle.std.proofs.lemmas.List.{get_or-replicate}
use Rattle.frame.specs.Frame.{Outcome, frame, refused}
use Rattle.sessions.specs.Sessions as sessions
use Rattle.directory.specs.Directory.{directory}
use Rattle.directory.specs.Lookup as lookup
use Rattle.directory.specs.DirectoryLaws.{verdict_fixed}
use Rattle.feeds.specs.System as feeds
use Rattle.feeds.specs.Marks.{outcome_of}
use Rattle.feeds.proofs.SystemLaws.{Fed, barred, done, fed}
use Rattle.rules.specs.declared.Hub.{Hub}
use Rattle.passwords.specs.Passwords.{is_same}
use Rattle.replies.specs.Messages.{password_entered}
use Rattle.rules.specs.Hub as rules
use Rattle.rules.proofs.Cases.{either, each_verdict, each_request}
use Rattle.demands.specs.Calls.{World, Call, start, enrol, close, finish, feed, after, after_all, is_password, unless_refused, logged_by, logged_by_all}

-- ---- serving an outcome

abbrev Kept : Hub → rules.Response → Type 0
Kept h r = r.hub.logins ≡ h.logins

change-kept : (h : Hub) (old new : List ℕ) → (rules.change h old new).hub.logins ≡ h.logins
unfolding rules.change
change-kept h old new = either (λ (p : rules.Password). p.hub.logins ≡ h.logins) (is_same old h.password) _ _ refl refl

-- every request but password enter leaves the logins
request-kept : (h : Hub) (t : List ℕ) (l c : ℕ) (d : List ℕ) → eqb c rules.password_enter ≡ false → Kept h (rules.request h t l c d)
unfolding rules.remove_nodes rules.virgin_state rules.mode_send
request-kept h t l c d e =
    each_request (Kept h) h t l c d (λ x. absurd (false≢true (sym e ∙ x))) (λ x. change-kept h _ _)
    refl refl refl refl refl refl refl refl

-- password enter logs its line in exactly by the right password
enter_logins : (h : Hub) (t : List ℕ) (l : ℕ) (d : List ℕ) → (rules.serve h t l (frame rules.password_enter d)).hub.logins
    ≡ cond (eqb (length d) rules.password_size && is_same d h.password) (set h.logins l 1) h.logins
unfolding rules.serve rules.respond rules.request rules.enter lookup.find directory
enter_logins h t l d = rw (verdict_fixed rules.password_enter rules.password_size (length d) refl) (go (eqb (length d) rules.password_size) (rules.is_logged_in h l) (is_same d h.password))
  where
    entered : Bool → rules.Password
    entered s = cond s (record { status = rules.correct; hub = rules.with_login h l }) (record { status = rules.incorrect; hub = h })

    go : (b i s : Bool)
        → (rules.by_verdict (cond b std.None (std.Some lookup.frame_error)) (rules.failure h t)
        (cond (i || true) (rules.reply (entered s).hub t (password_entered (entered s).status)) (rules.failure h t rules.not_logged_in))).hub.logins
        ≡ cond (b && s) (set h.logins l 1) h.logins
    go true true true = refl
    go true true false = refl
    go true false true = refl
    go true false false = refl
    go false i s = refl

pub serve_logins : (h : Hub) (t : List ℕ) (l : ℕ) (o : Outcome)
    → (rules.serve h t l o).hub.logins ≡ cond (is_password h (some o)) (set h.logins l 1) h.logins
unfolding is_password rules.serve rules.respond
serve_logins h t l (refused n) = refl
serve_logins h t l (frame c d) = go (eqb c rules.password_enter) refl
  where
    go : (b : Bool) → eqb c rules.password_enter ≡ b
        → (rules.serve h t l (frame c d)).hub.logins ≡ cond (b && (eqb (length d) rules.password_size && is_same d h.password)) (set h.logins l 1) h.logins
    go true e = rw (eqb-true c rules.password_enter e) (enter_logins h t l d)
    go false e = each_verdict (Kept h) (lookup.verdict c (length d)) _ _ (λ x. refl) (either (Kept h) (rules.may_ask h.logins l c) _ _ (request-kept h t l c d e) refl)

-- ---- one feed

feed_logins : (w : World) (e : feeds.Entry)
    → (feeds.feed rules.hub w e).0.hub.logins
    ≡ cond (is_password w.hub (outcome_of (feeds.feed rules.hub w e).1.answer)) (set w.hub.logins e.line 1) w.hub.logins
unfolding feeds.settled feeds.serve_if feeds.returned is_password outcome_of
feed_logins w e = go (fed rules.hub w e)
  where
    go : {x : World × feeds.Result} → Fed rules.hub w e x
        → x.0.hub.logins ≡ cond (is_password w.hub (outcome_of x.1.answer)) (set w.hub.logins e.line 1) w.hub.logins
    go (barred n) = refl
    go (done u s none q) = refl
    go (done u s (some o) q) = serve_logins w.hub w.table e.line o

-- ---- one call

set_logged : (ls : List ℕ) (k l v : ℕ) → l < length ls → rules.is_listed (set ls k v) l ≡ cond (eqb k l) (eqb v 1) (rules.is_listed ls l)
set_logged ls k l v h = go (eqb k l) refl
  where
    go : (b : Bool) → eqb k l ≡ b → rules.is_listed (set ls k v) l ≡ cond b (eqb v 1) (rules.is_listed ls l)
    go true e = ap (λ (n : ℕ). eqb n 1) (ap (λ (n : ℕ). get_or (set ls n v) l 0) (eqb-true k l e) ∙ get_or-set_same ls l v 0 h)
    go false e = ap (λ (n : ℕ). eqb n 1) (get_or-set_other ls k l v 0 (λ x. eqb-false k l e (sym x)))

-- there are four lines
abbrev Four : World → Type 0
Four w = length w.hub.logins ≡ rules.line_count

call_logged : (l : ℕ) (w : World) (c : Call) → Four w → l < rules.line_count
    → rules.is_logged_in (after w c).hub l ≡ logged_by l (rules.is_logged_in w.hub l) w c
unfolding after logged_by
call_logged l w (start p) four h = go (rules.start_refusal w.table p)
  where
    go : (o : Option ℕ) → rules.is_logged_in (rules.start_by o w.hub w.table p).hub l ≡ unless_refused o (rules.is_logged_in w.hub l)
    go none = ap (λ (n : ℕ). eqb n 1) (get_or-replicate rules.line_count l 0 0 h)
    go (some n) = refl
call_logged l w (enrol n type) four h = refl
call_logged l w (close k spare) four h = go (ltb k rules.line_count) refl
  where
    go : (b : Bool) → ltb k rules.line_count ≡ b
        → rules.is_logged_in (rules.close_by (rules.refuse_if (not b) rules.wrong_line none) w.hub (get_or w.states k spare) k).hub l
        ≡ cond (eqb k l) false (rules.is_logged_in w.hub l)
    go true e = set_logged w.hub.logins k l 0 (omega arith)
    go false e = rw (ne_eqb k l (λ x. omega (arith, ltb-false k rules.line_count e)))
call_logged l w (finish x room) four h = go (sessions.finish w.hub.slots x) (ltb room (length (rules.notice x)))
  where
    go : (o : Option sessions.Finished) (b : Bool) → rules.is_logged_in (rules.finish_by o b w.hub x).hub l ≡ rules.is_logged_in w.hub l
    go none b = refl
    go (some f) true = refl
    go (some f) false = refl
call_logged l w (feed e) four h =
    ap (λ (ls : List ℕ). rules.is_listed ls l) (feed_logins w e)
    ∙ go (is_password w.hub (outcome_of (feeds.feed rules.hub w e).1.answer)) (eqb e.line l) (set_logged w.hub.logins e.line l 1 (omega arith))
  where
    go : (p q : Bool) → rules.is_listed (set w.hub.logins e.line 1) l ≡ cond q true (rules.is_logged_in w.hub l)
        → rules.is_listed (cond p (set w.hub.logins e.line 1) w.hub.logins) l ≡ cond (q && p) true (rules.is_logged_in w.hub l)
    go true true x = x
    go true false x = x
    go false true x = refl
    go false false x = refl

call_four : (w : World) (c : Call) → Four w → Four (after w c)
unfolding after
call_four w (start p) four = go (rules.start_refusal w.table p)
  where
    go : (o : Option ℕ) → length (rules.start_by o w.hub w.table p).hub.logins ≡ rules.line_count
    go none = refl
    go (some n) = four
call_four w (enrol n type) four = four
call_four w (close k spare) four = go (rules.close_refusal k)
  where
    go : (o : Option ℕ) → length (rules.close_by o w.hub (get_or w.states k spare) k).hub.logins ≡ rules.line_count
    go none = length-set w.hub.logins k 0 ∙ four
    go (some n) = four
call_four w (finish x room) four = go (sessions.finish w.hub.slots x) (ltb room (length (rules.notice x)))
  where
    go : (o : Option sessions.Finished) (b : Bool) → length (rules.finish_by o b w.hub x).hub.logins ≡ rules.line_count
    go none b = four
    go (some f) true = four
    go (some f) false = four
call_four w (feed e) four = ap length (feed_logins w e) ∙ go (is_password w.hub (outcome_of (feeds.feed rules.hub w e).1.answer))
  where
    go : (p : Bool) → length (cond p (set w.hub.logins e.line 1) w.hub.logins) ≡ rules.line_count
    go true = length-set w.hub.logins e.line 1 ∙ four
    go false = four

-- ---- the theorem

pub logged_exactly : (l : ℕ) (w : World) (cs : List Call) → Four w → l < rules.line_count
    → rules.is_logged_in (after_all w cs).hub l ≡ logged_by_all l (rules.is_logged_in w.hub l) w cs
unfolding after_all logged_by_all
logged_exactly l w [] four h = refl
logged_exactly l w (c ∷ cs) four h =
    logged_exactly l (after w c) cs (call_four w c four) h ∙ ap (λ (b : Bool). logged_by_all l b (after w c) cs) (call_logged l w c four h)
