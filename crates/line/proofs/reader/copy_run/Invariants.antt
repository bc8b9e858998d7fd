use Rattle.line.specs.declared.Mode.TheVariants.{Plain}
use Rattle.line.specs.Step.{Runs}
use Rattle.line.proofs.reader.copy_run.Given as goal

-- What the bytes stored so far promise is what the function promises; one more byte that goes as it is keeps it.
abbrev pub invariant-loop-run : goal.invariant-loop-run
invariant-loop-run l = Runs Plain l.initial.bytes l.count l.wire l.at l.bytes l.run
