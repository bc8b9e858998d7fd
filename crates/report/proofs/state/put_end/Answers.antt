use Rattle.std.proofs.Common.{◌≡◌, refl, [], arith}
use Rattle.line.specs.declared.FaultAt.{FaultAt}
use Rattle.line.specs.declared.Mode.{Mode}
use Rattle.line.specs.declared.Mode.TheVariants.{Plain, Escaped, Skipping}
use Rattle.text.specs.Text.{ascii}
use Rattle.text.specs.BuiltLaws.{built_word, built_more, built_all}
use Rattle.text.specs.Places.{places_word}
use Rattle.text.specs.PlacesLaws.{places_word_short}
use Rattle.report.specs.Report.{placed_size}
use Rattle.report.specs.State.{mode_places}
use Rattle.report.proofs.state.put_end.Goals as goal
use Rattle.report.proofs.state.put_end.Goals.{in-Skipping, in_default}

-- only a reading that skips has places
no_places : (m : Mode) → ((x : FaultAt) → m ≡ Skipping x → ⊥) → mode_places m ≡ []
unfolding mode_places
no_places Plain h = refl
no_places Escaped h = refl
no_places (Skipping x) h = absurd (h x refl)

pub returns : goal.returns
unfolding mode_places ascii
returns c =
    elim c.match-mode.branch [
      | in-Skipping w ↦
          let p = w.in-Skipping.fault.at in
          rw w.in-Skipping.is
          (built_all {size = placed_size} (omega arith)
          (built_word (ascii "\n") (omega arith) (rw w.behind-is at c.append.ensures.leaves)
          (built_more (places_word p) 45 (places_word_short p (omega arith) (omega arith)) (omega arith) w.append_places.ensures.leaves c.requires)))
      | in_default w ↦
          rw (no_places c.args.mode w.in_default.not-Skipping)
          (built_all {size = placed_size} (omega arith) (built_word (ascii "\n") (omega arith) (rw w.behind-is at c.append.ensures.leaves) c.requires))
    ]
