-- Calls one behind the other.
use Rattle.std.proofs.Common.{arith, ℕ, ◌≡◌, ◌<◌, ◌^◌, List, ◌++◌, sym, ap, subst, append_assoc, append-nil, take}
use Rattle.frame.specs.Reader.{State}
use Rattle.lister.specs.declared.Listed.{Listed}
use Rattle.frame.specs.Reader.{taken}
use Rattle.lister.specs.Lists.{Lists, Calls, done, next}

-- the same calls, of bytes and a text that are equal
same_calls : {s e : State} {k j : ℕ} {u v t x : List ℕ} → u ≡ v → t ≡ x → Calls s k u t e j → Calls s k v x e j
same_calls {s} {e} {k} {j} {u} {v} {t} {x} p q c = subst (λ (l : List ℕ). Calls s k l x e j) p (subst (λ (l : List ℕ). Calls s k u l e j) q c)

pub calls_append : {s e f : State} {k j i : ℕ} {u v t x : List ℕ} → Calls s k u t e j → Calls e j v x f i → Calls s k (u ++ v) (t ++ x) f i
calls_append done d = d
calls_append {v = v} {x = x} (next {u = u} {text = text} w before after r y rest) d =
    same_calls (sym (append_assoc (take r.used w) u v)) (sym (append_assoc (take r.written after) text x))
    (next w before after r y (calls_append rest d))

-- one call more
pub calls_more : {s e : State} {k j : ℕ} {u t : List ℕ} (w before after : List ℕ) (r : Listed) → Calls s k u t e j → Lists e j w before after r
    → Calls s k (u ++ take r.used w) (t ++ take r.written after) (taken r.reading) r.left
calls_more {u = u} {t = t} w before after r c x =
    same_calls (ap (λ (l : List ℕ). u ++ l) (append-nil (take r.used w))) (ap (λ (l : List ℕ). t ++ l) (append-nil (take r.written after)))
    (calls_append c (next w before after r x done))

-- what the last of them left fits 64 bits, where what the first found does
pub calls_fit : {s e : State} {k j : ℕ} {u t : List ℕ} → Calls s k u t e j → k < 2 ^ 64 → j < 2 ^ 64
calls_fit done h = h
calls_fit (next w before after r x rest) h = calls_fit rest (let l = x.left in omega arith)
