-- What the directory's rule and its lookup come to.
use Rattle.std.specs.Prelude.{ℕ, ◌<◌, ◌≡◌, refl, ◌↔◌, Bool, true, false, cond, ◌&&◌, length, T, leb, eqb, Option, Some, None}
use Rattle.std.proofs.Common.{sym, ◌∙◌, arith, leb-true, le-leb, eqb-true}
use Rattle.std.proofs.lemmas.Bool.{eqb-false}
use Rattle.std.proofs.lemmas.Option.{none-some}
use Rattle.directory.specs.declared.Entry.{Entry}
use Rattle.directory.specs.Directory.{count, entry, directory}
use Rattle.directory.specs.Lookup.{find, in_range, unknown_command, frame_error, verdict_of, verdict, Stands, Allowed}
use Rattle.directory.specs.LookupLaws.{find_there, ascending_found, ascending_once}
use Rattle.directory.specs.Rule.{ruled, Sound, Ascending}
use Rattle.directory.specs.RuleLaws.{ruled-sound, ruled_ascending}

pub directory-count : length directory ≡ count
unfolding directory
directory-count = refl

-- more than a hundred entries
pub directory_many : 100 < length directory
directory_many = omega (arith, directory-count)

-- ---- the rule, computed once, and carried to each entry

directory-ruled : T (ruled 0 directory)
unfolding directory ruled
directory-ruled = tt

pub directory-sound : (e : Entry) → Stands e → Sound e
directory-sound e s = ruled-sound 0 directory directory-ruled s.place e s.there

pub directory_ascending : Ascending directory
directory_ascending = ruled_ascending 0 directory directory-ruled

-- at most one entry has a number
pub directory_once : (d e : Entry) (x : Stands d) (y : Stands e) → d.number ≡ e.number → x.place ≡ y.place
directory_once d e x y same = ascending_once directory directory_ascending x.place y.place d e x.there y.there same

-- ---- a command is found exactly if it stands in the directory, and what is found is its own entry

pub found_exactly : (command : ℕ) (e : Entry) → (find command directory ≡ Some e) ↔ (Stands e × (e.number ≡ command))
found_exactly command e = (
  λ h. let r = find_there command directory e h in (record { place = r.0; there = r.1.0 }, r.1.1),
  λ s. rw (← s.1) (ascending_found directory directory_ascending s.0.place e s.0.there),
)

-- ---- verdicts

pub verdict_found : (command len : ℕ) (e : Entry) → find command directory ≡ Some e → verdict command len ≡ cond (in_range e len) None (Some frame_error)
unfolding verdict verdict_of
verdict_found command len e h = rw h

pub unknown_exactly : (command len : ℕ) → (verdict command len ≡ Some unknown_command) ↔ ((e : Entry) → Stands e → e.number ≡ command → ⊥)
unfolding verdict verdict_of
unknown_exactly command len = (
  λ u e s n. never (in_range e len) (sym (verdict_found command len e ((found_exactly command e).1 (s, n))) ∙ u),
  λ alone. go alone (find command directory) refl,
)
  where
    never : (t : Bool) → cond t None (Some frame_error) ≡ Some unknown_command → ⊥
    never true h = none-some unknown_command h
    never false h = cc

    go : ((e : Entry) → Stands e → e.number ≡ command → ⊥) → (o : Option Entry) → find command directory ≡ o → verdict_of o len ≡ Some unknown_command
    go alone None h = refl
    go alone (Some e) h = let s = (found_exactly command e).0 h in absurd (alone e s.0 s.1)

pub fits_exactly : (command len : ℕ) → (verdict command len ≡ None) ↔ Allowed command len
unfolding verdict verdict_of
fits_exactly command len = (
  λ h. go (find command directory) refl h,
  λ a.
      verdict_found command len a.entry ((found_exactly command a.entry).1 (a.stands, a.number))
      ∙ rw (le-leb a.entry.least len a.least, le-leb len a.entry.greatest a.greatest),
)
  where
    within : (e : Entry) (t u : Bool) → leb e.least len ≡ t → leb len e.greatest ≡ u → find command directory ≡ Some e
        → cond (t && u) None (Some frame_error) ≡ None → Allowed command len
    within e true true p q h f =
        let s = (found_exactly command e).0 h in
        record { entry = e; stands = s.0; number = s.1; least = leb-true e.least len p; greatest = leb-true len e.greatest q }
    within e true false p q h f = absurd (none-some frame_error (sym f))
    within e false u p q h f = absurd (none-some frame_error (sym f))

    go : (o : Option Entry) → find command directory ≡ o → verdict_of o len ≡ None → Allowed command len
    go None h f = absurd (none-some unknown_command (sym f))
    go (Some e) h f = within e (leb e.least len) (leb len e.greatest) refl refl h f

-- where the entry names one length, data fit exactly if they have that length
pub verdict_fixed : (command size len : ℕ) → find command directory ≡ Some (entry command size size) → verdict command len ≡ cond (eqb len size) None (Some frame_error)
verdict_fixed command size len h = verdict_found command len (entry command size size) h ∙ go (eqb len size) refl (leb size len) refl (leb len size) refl
  where
    go : (b : Bool) → eqb len size ≡ b → (t : Bool) → leb size len ≡ t → (u : Bool) → leb len size ≡ u → cond (t && u) None (Some frame_error) ≡ cond b None (Some frame_error)
    go true e t p u q =
        let n : len ≡ size = eqb-true len size e in
        rw (← p, ← q, le-leb size len (omega arith), le-leb len size (omega arith))
    go false e true p true q = absurd (eqb-false len size e (omega (arith, leb-true size len p, leb-true len size q)))
    go false e true p false q = refl
    go false e false p u q = refl

-- so data that fit have that length
pub fits_fixed : (command size len : ℕ) → find command directory ≡ Some (entry command size size) → verdict command len ≡ None → len ≡ size
fits_fixed command size len h f = go (eqb len size) refl (sym (verdict_fixed command size len h) ∙ f)
  where
    go : (b : Bool) → eqb len size ≡ b → cond b None (Some frame_error) ≡ None → len ≡ size
    go true e q = eqb-true len size e
    go false e q = absurd (none-some frame_error (sym q))
