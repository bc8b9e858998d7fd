use Rattle.std.proofs.Common.{◌-◌, ◌≡◌, length}
use Rattle.frame.specs.Reader.{taken_as}
use Rattle.lister.specs.ListingLaws.{Going}
use Rattle.lister.proofs.capture.list.Given as goal

-- What was used and written so far is what the definition gives of those bytes. A call on the rest uses at least one byte more, and its
-- line fits, for there is room for any line.
abbrev pub invariant-loop-at : goal.invariant-loop-at
invariant-loop-at l = record {
  going : Going (taken_as l.initial.bytes l.initial.cursor.count l.initial.cursor.mode) l.wire l.initial.page.out.now l.page.out.now l.bytes l.cursor l.at l.page.at;
  same : l.page.out.ghost_name ≡ l.initial.page.out.ghost_name;
}

abbrev pub decreases-loop-at : goal.decreases-loop-at
decreases-loop-at l = length l.wire - l.at
