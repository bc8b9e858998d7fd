use Rattle.std.proofs.Common.{refl, arith}
use Rattle.lister.specs.LinesLaws.{frame_line_short, refused_line_short}
use Rattle.lister.specs.ListingLaws.{leaves_nothing}
use Rattle.lister.proofs.outcome.outcome_line.Goals as goal

pub returns-in-Nothing : goal.returns-in-Nothing
returns-in-Nothing c = rw c.in-Nothing.is (record { line = record { same = refl; leaves = leaves_nothing _ _ }; short = omega arith })

pub returns-in-Frame : goal.returns-in-Frame
returns-in-Frame c = rw c.in-Frame.is (record { line = c.frame_line.ensures; short = frame_line_short _ _ (omega arith) })

pub returns-in-Refused : goal.returns-in-Refused
returns-in-Refused c =
    rw c.in-Refused.is
    (record {
      line = rw c.number.ensures at c.refused_line.ensures;
      short = refused_line_short _ _ (omega (arith, c.number.ensures)) (omega arith) (omega arith);
    })
