-- A text that fits, one that does not, and two one behind the other.
use Rattle.std.specs.Prelude.{ℕ, ◌+◌, ◌≤◌, ◌<◌, ◌≡◌, refl, List, ◌++◌, Bool, true, false, cond, length, leb}
use Rattle.std.proofs.Common.{arith, length-append, leb-true, le-leb}
use Rattle.std.proofs.lemmas.List.Edits.{sets}
use Rattle.std.proofs.lemmas.Bool.{lt-leb}
use Rattle.memory.specs.Wrote.{Wrote}
use Rattle.memory.specs.WroteLaws.{then, kept}
use Rattle.text.specs.Appended.{Memory, appended, Leaves}

pub appended-whole : (l : List ℕ) (at : ℕ) (text : List ℕ) → at + length text ≤ length l
    → appended l at text ≡ record { bytes = sets l at text; place = at + length text }
unfolding appended
appended-whole l at text h = rw (le-leb (at + length text) (length l) h)

pub appended-none : (l : List ℕ) (at : ℕ) (text : List ℕ) → length l < at + length text → appended l at text ≡ record { bytes = l; place = at }
unfolding appended
appended-none l at text h = rw (lt-leb (at + length text) (length l) h)

-- the place behind what was appended lies within the memory
pub appended_within : (l : List ℕ) (at : ℕ) (text : List ℕ) → at ≤ length l → (appended l at text).place ≤ length l
unfolding appended
appended_within l at text h = go (leb (at + length text) (length l)) refl
  where
    go : (t : Bool) → leb (at + length text) (length l) ≡ t
        → (cond {A = Memory} t (record { bytes = sets l at text; place = at + length text }) (record { bytes = l; place = at })).place ≤ length l
    go true e = leb-true (at + length text) (length l) e
    go false e = h

-- bytes stored are a text appended, where they fit
pub leaves-whole : {l m : List ℕ} {at next : ℕ} {text : List ℕ} → Wrote l at text m next → at + length text ≤ length l → Leaves (appended l at text) m next
leaves-whole {l} {m} {at} {next} {text} w h = rw (appended-whole l at text h) (record { bytes = w.content; place = w.place })

-- a text that fits was stored
pub leaves_wrote : {l m : List ℕ} {at next : ℕ} {text : List ℕ} → at + length text ≤ length l → Leaves (appended l at text) m next → Wrote l at text m next
leaves_wrote {l} {m} {at} {next} {text} h x =
    let y = rw (appended-whole l at text h) at x in
    record { content = y.bytes; place = y.place }

-- texts appended one behind the other are stored, where they fit together
pub fitting-first : {l m : List ℕ} {at a : ℕ} {xs : List ℕ} → Leaves (appended l at xs) m a → at + length xs ≤ length l → Wrote l at xs m a
fitting-first x h = leaves_wrote h x

pub fitting_then : {l m n : List ℕ} {at a e : ℕ} {xs : List ℕ} (ys : List ℕ) → (at + length xs ≤ length l → Wrote l at xs m a) → Leaves (appended m a ys) n e
    → at + length (xs ++ ys) ≤ length l → Wrote l at (xs ++ ys) n e
fitting_then {l} {m} {n} {at} {a} {e} {xs} ys front x h =
    let long = length-append xs ys in
    let w = front (omega arith) in
    then w (leaves_wrote (omega (arith, w.place, kept w)) x)

pub leaves_none : (l : List ℕ) (at : ℕ) (text : List ℕ) → length l < at + length text → Leaves (appended l at text) l at
leaves_none l at text h = rw (appended-none l at text h) (record { bytes = refl; place = refl })
