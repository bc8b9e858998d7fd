-- Calls that keep their promises do what the definitions do, records as taken and rooms by their length; and any list of calls can be made.
use Rattle.std.specs.Prelude.{ℕ, ◌≡◌, refl, List, [], ◌∷◌, map, Bool, true, false, cond, not, ◌&&◌, length, set, eqb, ltb}
use Rattle.std.proofs.Common.{sym, ap, ap₂, ◌∙◌, true≢false}
use Rattle.std.proofs.Math.Option.{Option, none, some}
use Rattle.std.proofs.Math.ListN.{get_or-map}
use Rattle.frame.specs.Reader.{State, read, taken}
use Rattle.sessions.specs.Search.{any}
use Rattle.sessions.specs.Sessions as sessions
use Rattle.feeds.specs.System as system
use Rattle.feeds.specs.Marks.{outcome_of, unmarked}
use Rattle.feeds.specs.Service.{entry_of, world_of, result_of, record_for}
use Rattle.feeds.proofs.ServiceLaws.{map-set, promise_feed}
use Rattle.rules.specs.declared.Hub.{Hub}
use Rattle.rules.specs.Hub as rules
use Rattle.rules.proofs.PromiseLaws.{feeds_promise}
use Rattle.demands.proofs.Kept.{start-any, enrol-any, close-any, finish-any, feed-any}
use Rattle.demands.specs.Calls as calls
use Rattle.demands.specs.Calls.{World, is_password, unless_refused, new_password, replaced_by, started_with, after, after_all}
use Rattle.demands.specs.Steps.{Memory, Step, start, enrol, close, finish, feed, Return, line_record, Made, starts, enrols, closes, finishes, feeds, Steps, stop, next, refusal, finish_tells, feed_tells, refusal_told, is_refusal, is_refused, is_privileged, Unprivileged, logged_by, logged_by_all, password_by, password_by_all, call_of}

-- ---- what is left

-- equal parts make equal worlds
same-world : {h k : Hub} {t : List ℕ} {ss vs : List State} → h ≡ k → ss ≡ vs → ◌≡◌ {A = World} (record { hub = h; table = t; states = ss }) (record { hub = k; table = t; states = vs })
same-world a b = rw (a, b)

-- a call leaves what the definition's leaves
pub made_after : {m v : Memory} {s : Step} {o : Return} → Made m s o v → world_of v ≡ after (world_of m) (call_of s)
unfolding after call_of world_of entry_of
made_after (starts {m} a x) = ap (λ (z : rules.Started). record { hub = z.hub; table = z.table; states = map taken m.records }) x
made_after (enrols {m} a x) = ap (λ (z : rules.Enrolled). record { hub = m.hub; table = z.table; states = map taken m.records }) x
made_after (closes {m} {l} {spare} {e = e} x) =
    let s = map-set taken m.records l e ∙ ap (set (map taken m.records) l) x.state in
    rw (get_or-map taken m.records l spare) (same-world x.hub s)
made_after (finishes {m} x) = ap (λ (h : Hub). record { hub = h; table = m.table; states = map taken m.records }) x.hub
made_after (feeds {m} {g} x) = ap (λ (z : World × system.Result). z.0) (sym (promise_feed m g (feeds_promise x)))

-- so do calls one after another
pub steps_after : {m e : Memory} {ss : List Step} {os : List Return} → Steps m ss os e → world_of e ≡ after_all (world_of m) (map call_of ss)
unfolding after_all
steps_after stop = refl
steps_after (next {ss = ss} x rest) = steps_after rest ∙ ap (λ (w : World). after_all w (map call_of ss)) (made_after x)

-- ---- what is answered

-- start, enrol and close tell the refusal that applies
start-refusal : (h : Hub) (t p : List ℕ) → (rules.start h t p).refusal ≡ rules.start_refusal t p
start-refusal h t p = go (rules.start_refusal t p)
  where
    go : (r : Option ℕ) → (rules.start_by r h t p).refusal ≡ r
    go none = refl
    go (some n) = refl

enrol-refusal : (t : List ℕ) (n type : ℕ) → (rules.enrol t n type).refusal ≡ rules.enrol_refusal t n
enrol-refusal t n type = go (rules.enrol_refusal t n)
  where
    go : (r : Option ℕ) → (rules.enrol_by r t n type).refusal ≡ r
    go none = refl
    go (some k) = refl

close-refusal : (h : Hub) (s : State) (l : ℕ) → (rules.close h s l).refusal ≡ rules.close_refusal l
close-refusal h s l = go (rules.close_refusal l)
  where
    go : (r : Option ℕ) → (rules.close_by r h s l).refusal ≡ r
    go none = refl
    go (some n) = refl

-- a call tells the refusal that applies, and none where none does
pub made-refusal : {m v : Memory} {s : Step} {o : Return} → Made m s o v → refusal_told o ≡ refusal m s
unfolding refusal refusal_told finish_tells feed_tells sessions.finish system.call system.decided system.settled
made-refusal (starts {m} {p} a x) = ap (λ (z : rules.Started). z.refusal) x ∙ start-refusal m.hub m.table p
made-refusal (enrols {m} {n} {type} a x) = ap (λ (z : rules.Enrolled). z.refusal) x ∙ enrol-refusal m.table n type
made-refusal (closes {m} {l} {spare} x) = x.refusal ∙ close-refusal m.hub (taken (line_record m l spare)) l
made-refusal (finishes {m} {x} {room} y) = ap finish_tells y.answer ∙ go (ltb (length room) (length (rules.notice x))) (any (sessions.is_numbered x) (sessions.slots_of m.hub.slots)) _
  where
    go : (a b : Bool) (f : sessions.Finished)
        → finish_tells (rules.finish_by (cond b (some f) none) a m.hub x).answer ≡ rules.refuse_if (not b) sessions.not_open (rules.refuse_if a rules.short_room none)
    go a false f = refl
    go true true f = refl
    go false true f = refl
made-refusal (feeds {m} {g} x) = ap feed_tells x.answer ∙ go (rules.feed_refusal m.hub m.table (taken (record_for rules.hub m g)) g.line g.bytes (length g.room))
  where
    s : State
    s = taken (record_for rules.hub m g)

    go : (r : Option ℕ) → feed_tells (system.decided rules.hub m.hub m.table g.line s (read s g.bytes) r).result.answer ≡ r
    go none = refl
    go (some n) = refl

-- where a refused call leaves what is kept it can be left out
pub steps_without : ((m v : Memory) (s : Step) (o : Return) → Made m s o v → (n : ℕ) → refusal_told o ≡ some n → v ≡ m)
    → {m e : Memory} {ss : List Step} {os : List Return} → Steps m ss os e → Steps m (unmarked (map is_refused os) ss) (unmarked (map is_refused os) os) e
unfolding unmarked is_refusal
steps_without left stop = stop
steps_without left (next {m} {v} {e} {s} {ss} {o} {os} x rest) = go (refusal_told o) refl (steps_without left rest)
  where
    R : List Bool
    R = map is_refused os

    go : (r : Option ℕ) → refusal_told o ≡ r → Steps v (unmarked R ss) (unmarked R os) e
        → Steps m (unmarked (is_refusal r ∷ R) (s ∷ ss)) (unmarked (is_refusal r ∷ R) (o ∷ os)) e
    go none p y = next x y
    go (some n) p y = rw (← left m v s o x n p) y

-- ---- logins

-- a call logs in and out as the definition's does
made_logged : (l : ℕ) (b : Bool) {m v : Memory} {s : Step} {o : Return} (x : Made m s o v) → logged_by l b x ≡ calls.logged_by l b (world_of m) (call_of s)
unfolding logged_by calls.logged_by call_of world_of entry_of result_of refusal refusal_told
made_logged l b (starts {m} {p} a {h} {t} x) = ap (λ (r : Option ℕ). unless_refused r b) (made-refusal (starts {m = m} {p = p} a {h = h} {t = t} x))
made_logged l b (enrols a x) = refl
made_logged l b (closes x) = refl
made_logged l b (finishes x) = refl
made_logged l b (feeds {m} {g} x) =
    ap (λ (z : World × system.Result). cond (eqb g.line l && is_password m.hub (outcome_of z.1.answer)) true b) (sym (promise_feed m g (feeds_promise x)))

-- so do calls one after another
pub steps_logged : (l : ℕ) (b : Bool) {m e : Memory} {ss : List Step} {os : List Return} (x : Steps m ss os e)
    → logged_by_all l b x ≡ calls.logged_by_all l b (world_of m) (map call_of ss)
unfolding logged_by_all calls.logged_by_all
steps_logged l b stop = refl
steps_logged l b (next {ss = ss} x rest) =
    steps_logged l (logged_by l b x) rest ∙ ap₂ (λ (c : Bool) (w : World). calls.logged_by_all l c w (map call_of ss)) (made_logged l b x) (made_after x)

-- ---- the password

made_password : (before : List ℕ) {m v : Memory} {s : Step} {o : Return} (x : Made m s o v) → password_by before x ≡ calls.password_by before (world_of m) (call_of s)
unfolding password_by calls.password_by call_of world_of entry_of result_of refusal refusal_told
made_password before (starts {m} {p} a {h} {t} x) = ap (λ (r : Option ℕ). started_with r p before) (made-refusal (starts {m = m} {p = p} a {h = h} {t = t} x))
made_password before (enrols a x) = refl
made_password before (closes x) = refl
made_password before (finishes x) = refl
made_password before (feeds {m} {g} x) =
    ap (λ (z : World × system.Result). replaced_by (new_password before (rules.is_logged_in m.hub g.line) (outcome_of z.1.answer)) before) (sym (promise_feed m g (feeds_promise x)))

pub steps_password : (p : List ℕ) {m e : Memory} {ss : List Step} {os : List Return} (x : Steps m ss os e)
    → password_by_all p x ≡ calls.password_by_all p (world_of m) (map call_of ss)
unfolding password_by_all calls.password_by_all
steps_password p stop = refl
steps_password p (next {ss = ss} x rest) =
    steps_password (password_by p x) rest ∙ ap₂ (λ (q : List ℕ) (w : World). calls.password_by_all q w (map call_of ss)) (made_password p x) (made_after x)

-- ---- privileged calls

-- calls that are not privileged are not so as the definitions'
pub steps_unprivileged : {m e : Memory} {ss : List Step} {os : List Return} (x : Steps m ss os e) → Unprivileged x → calls.Unprivileged (world_of m) (map call_of ss)
unfolding is_privileged call_of world_of entry_of
steps_unprivileged stop u = tt
steps_unprivileged (next (starts a x) rest) u = absurd (true≢false u.0)
steps_unprivileged (next (enrols a x) rest) u = absurd (true≢false u.0)
steps_unprivileged (next (closes x) rest) u = absurd (true≢false u.0)
steps_unprivileged (next (finishes x) rest) u = absurd (true≢false u.0)
steps_unprivileged (next (feeds {m} {g} x) rest) u = (u.0, rw (← made_after (feeds {m = m} {g = g} x)) (steps_unprivileged rest u.1))

-- ---- any list of calls can be made

-- any call
pub made-any : (m : Memory) (s : Step) → (o : Return) × (v : Memory) × Made m s o v
made-any m (start p) = let (a, h, t, x) = start-any m.hub m.table p in (_, _, starts a x)
made-any m (enrol n type) = let (a, t, x) = enrol-any m.table n type in (_, _, enrols a x)
made-any m (close l spare) = let (a, h, e, x) = close-any m.hub (line_record m l spare) l in (_, _, closes x)
made-any m (finish y room) = let (a, h, left, x) = finish-any m.hub y room in (_, _, finishes x)
made-any m (feed g) = let (a, h, t, e, left, x) = feed-any m.hub m.table (record_for rules.hub m g) g.line g.bytes g.room in (_, _, feeds x)

-- whatever is kept at the start and lent to each
pub steps_any : (m : Memory) (ss : List Step) → (os : List Return) × (e : Memory) × Steps m ss os e
steps_any m [] = ([], m, stop)
steps_any m (s ∷ ss) =
    let (o, v, x) = made-any m s in
    let (os, e, y) = steps_any v ss in
    (o ∷ os, e, next x y)
