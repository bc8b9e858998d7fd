-- A list that passes the test: its entries one by one, and two by two.
use Rattle.std.specs.Prelude.{ℕ, zero, suc, ◌≤◌, ◌≡◌, List, [], ◌∷◌, Bool, true, false, ◌&&◌, T, leb, Some, slice_get}
use Rattle.std.proofs.Common.{le_trans, le_of_lt, le_of_suc-le-suc, not-suc-le-zero, leb→le}
use Rattle.std.proofs.lemmas.Option.{none-some, same_Some}
use Rattle.directory.specs.declared.Entry.{Entry}
use Rattle.directory.specs.Rule.{max_command, max_data, sound, ruled, Sound, Ascending}

both : (a b : Bool) → T (a && b) → T a × T b
both true b t = (tt, t)
both false b t = absurd t

passed_sound : (e : Entry) → T (sound e) → Sound e
passed_sound e t =
    let b = both (leb e.number max_command) (leb e.least e.greatest && leb e.greatest max_data) t in
    let c = both (leb e.least e.greatest) (leb e.greatest max_data) b.1 in
    record {
      number = leb→le e.number max_command b.0;
      range = leb→le e.least e.greatest c.0;
      limit = leb→le e.greatest max_data c.1;
    }

-- what the test says of the first entry, and that the rest passes it
record Passed (low : ℕ) (e : Entry) (es : List Entry) : Type 0 where
  from : low ≤ e.number
  alone : Sound e
  rest : T (ruled (suc e.number) es)

passed : (low : ℕ) (e : Entry) (es : List Entry) → T (ruled low (e ∷ es)) → Passed low e es
unfolding ruled
passed low e es t =
    let b = both (leb low e.number) (sound e && ruled (suc e.number) es) t in
    let c = both (sound e) (ruled (suc e.number) es) b.1 in
    record { from = leb→le low e.number b.0; alone = passed_sound e c.0; rest = c.1 }

pub ruled-from : (low : ℕ) (es : List Entry) → T (ruled low es) → (k : ℕ) (e : Entry) → slice_get es k ≡ Some e → low ≤ e.number
ruled-from low [] t k e h = absurd (none-some e h)
ruled-from low (x ∷ es) t zero e h = rw (← same_Some x e h) (passed low x es t).from
ruled-from low (x ∷ es) t (suc k) e h =
    le_trans (passed low x es t).from (le_of_lt (ruled-from (suc x.number) es (passed low x es t).rest k e h))

pub ruled-sound : (low : ℕ) (es : List Entry) → T (ruled low es) → (k : ℕ) (e : Entry) → slice_get es k ≡ Some e → Sound e
ruled-sound low [] t k e h = absurd (none-some e h)
ruled-sound low (x ∷ es) t zero e h = rw (← same_Some x e h) (passed low x es t).alone
ruled-sound low (x ∷ es) t (suc k) e h = ruled-sound (suc x.number) es (passed low x es t).rest k e h

pub ruled_ascending : (low : ℕ) (es : List Entry) → T (ruled low es) → Ascending es
ruled_ascending low [] t j k d e g h l = absurd (none-some d g)
ruled_ascending low (x ∷ es) t j zero d e g h l = absurd (not-suc-le-zero l)
ruled_ascending low (x ∷ es) t zero (suc k) d e g h l =
    rw (← same_Some x d g) (ruled-from (suc x.number) es (passed low x es t).rest k e h)
ruled_ascending low (x ∷ es) t (suc j) (suc k) d e g h l =
    ruled_ascending (suc x.number) es (passed low x es t).rest j k d e g h (le_of_suc-le-suc l)
