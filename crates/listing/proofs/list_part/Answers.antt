-- A call on the rest uses at least one byte: there is one, and the buffer has room for a line. What it used moves from the rest, and what it
-- wrote is appended.
use Rattle.std.proofs.Common.{arith, rules, refl, ◌≡◌, ◌-◌, ◌<◌, ◌++◌, ◌∙◌, List, [], ℕ, sym, ap, length, take, drop, append_assoc, take-append-drop}
use Rattle.std.proofs.lemmas.List.{take_rest}
use Rattle.std.proofs.KnownBytes.{Appends-nil, Appends-trans}
use Rattle.lister.specs.Lists.{done}
use Rattle.lister.specs.ListingLaws.{lists_some}
use Rattle.listing.proofs.CallsLaws.{calls_more}
use Rattle.listing.proofs.list_part.Goals as goal

moves_front : (all used rest : List ℕ) (n : ℕ) → all ≡ used ++ rest → all ≡ (used ++ take n rest) ++ take (length rest - n) (drop n rest)
moves_front all used rest n e =
    e ∙ ap (λ (l : List ℕ). used ++ l) (sym (take-append-drop n rest)) ∙ sym (append_assoc used (take n rest) (drop n rest))
    ∙ ap (λ (l : List ℕ). (used ++ take n rest) ++ l) (sym (take_rest rest n))

pub loop-rest-init : goal.loop-rest-init
loop-rest-init g c = ([], refl, ([], done, Appends-nil _))

pub loop-rest-preserved : goal.loop-rest-preserved
loop-rest-preserved g c =
    let (used, split, part) = c.loop-rest.invariant in
    let (text, calls, appended) = part in
    let r = c.list-listed.result in
    let rest = c.loop-rest.rest.now in (
      used ++ take r.used rest,
      moves_front _ used rest r.used split,
      (
        text ++ take r.written c.list-listed.new.out,
        calls_more _ _ _ _ calls c.list-listed.ensures,
        Appends-trans _ _ _ _ _ appended c.in_ok-write_all.ensures.bytes,
      ),
    )

pub loop-rest-smaller : goal.loop-rest-smaller
loop-rest-smaller g c =
    let used : 0 < c.list-listed.result.used = lists_some _ _ _ _ _ _ (omega arith) (search rules) c.list-listed.ensures in
    omega arith
