-- At the input's end all of it was used by calls, so that what they wrote, and the last line, are the listing of the whole.
use Rattle.std.proofs.Common.{arith, rules, OnOk, Result, Ok, Err, ◌≡◌, ◌<◌, ◌^◌, ◌++◌, ◌∙◌, List, [], ℕ, sym, ap, subst, take, append-nil}
use Rattle.std.specs.Io.KnownBytes.{Appends, Consumes}
use Rattle.std.proofs.KnownBytes.{Appends-nil, Appends-trans, Consumes-nil, Consumes-trans, Consumes-whole}
use Rattle.frame.specs.Line.{emptied-taken}
use Rattle.frame.specs.Reader.{State, emptied, taken}
use Rattle.lister.specs.Listing.{left_after, listing}
use Rattle.lister.specs.Lists.{Calls, done}
use Rattle.lister.specs.Whole.{whole}
use Rattle.listing.proofs.CallsLaws.{calls_append, calls_fit}
use Rattle.listing.proofs.list_all.Goals as goal

-- what follows from what an Ok says, an Ok says
ok_then : {A E P Q : Type 0} (r : Result A E) → (P → Q) → OnOk r P → OnOk r Q
ok_then (Ok x) f p = f p
ok_then (Err e) f p = p

pub loop-init : goal.loop-init
loop-init g c = (
  [],
  Consumes-nil _,
  ([], subst (λ (s : State). Calls emptied 0 [] [] s 0) (sym (ap taken c.emptied.ensures ∙ emptied-taken)) done, Appends-nil _),
)

pub loop-preserved : goal.loop-preserved
loop-preserved g c =
    let (used, consumed, part) = c.loop.invariant in
    let (text, calls, appended) = part in
    let (got, end) = c.in_ok-n.ensures.bytes in
    let (more, calls', appended') = c.in_ok-state.ensures in (
      used ++ take c.in_ok-n.n c.read.new.buf,
      Consumes-trans _ _ _ _ _ consumed got,
      (text ++ more, calls_append calls calls', Appends-trans _ _ _ _ _ appended appended'),
    )

pub returns-then-n-eq0 : goal.returns-then-n-eq0
returns-then-n-eq0 g c =
    let (used, consumed, part) = c.loop.invariant in
    let (text, calls, appended) = part in
    let (got, end) = c.in_ok-n.ensures.bytes in
    let none = c.if-n-eq0.true in
    let all : used ++ take c.in_ok-n.n c.read.new.buf ≡ used = ap (λ (k : ℕ). used ++ take k c.read.new.buf) none ∙ append-nil used in
    let read = subst (λ (l : List ℕ). Consumes (g.R.Read.remaining c.args.input.now) (g.R.Read.remaining c.read.new.self) l) all
    (Consumes-trans _ _ _ _ _ consumed got) in
    ok_then c.finish.result
    (λ last. Consumes-whole _ _ _
    (λ w. left_after 0 w < 2 ^ 64 → Appends (g.W.Write.contents c.args.output.now) (g.W.Write.contents c.finish.new.output) (listing w))
    read (end none (search rules))
    (λ few. subst (λ (l : List ℕ). Appends (g.W.Write.contents c.args.output.now) (g.W.Write.contents c.finish.new.output) l)
    (whole calls (calls_fit calls (omega arith)) few) (Appends-trans _ _ _ _ _ appended last)))
    c.finish.ensures
