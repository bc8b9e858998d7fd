-- Laws of finishing a session.
use Prim.Native.Nat.{ℕ, ◌≤◌, ◌<◌}
use Rattle.std.specs.Prelude.{Ok, Err}
use mathlib.Core.Path.{◌≡◌, ap}
use mathlib.Core.List.{List, ◌++◌}
use mathlib.Core.Option.{some}
use lib.ListN.{length, drop}
use borrow.Author.Tests.{lt-ltb, le-ltb}
use Rattle.sessions.specs.Sessions as sessions
use Rattle.sessions.specs.SessionLaws.{finish-told}
use Rattle.rules.specs.declared.Hub.{Hub}
use Rattle.rules.specs.declared.CallRefusal.TheVariants as cause
use Rattle.rules.specs.Hub.{with_slots, finished_on, notice}
use Rattle.rules.specs.Promises.{Finishes}

module _ (h : Hub) (x : ℕ) (space : List ℕ) where
  module _ (l : ℕ) (told : sessions.told (sessions.finish h.slots x) ≡ sessions.on_line l) where
    abbrev ss : List ℕ
    ss = sessions.left_by (sessions.finish h.slots x) h.slots

    o : sessions.finish h.slots x ≡ some (record { line = l; slots = ss })
    o = finish-told h.slots x l told

    -- one that is, in room shorter than the notice
    pub finish_short : length space < length (notice x) → Finishes h x space (Err cause.ShortRoom) h space
    finish_short e =
        let k = lt-ltb (length space) (length (notice x)) e in
        record { answer = rw (o, k); hub = rw (o, k); room = rw (o, k) }

    -- and in room for it
    pub finish-done : (n : ℕ) (left : List ℕ) → length (notice x) ≤ length space → n ≡ length (notice x) → left ≡ notice x ++ drop (length (notice x)) space
        → Finishes h x space (Ok (record { line = l; len = n })) (with_slots h ss) left
    finish-done n left e len room =
        let k = le-ltb (length space) (length (notice x)) e in
        record { answer = rw (o, k) (ap (finished_on l) len); hub = rw (o, k); room = rw (o, k) room }
