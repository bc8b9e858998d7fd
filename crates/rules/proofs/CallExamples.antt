-- The numbers of the refusals, computed.
use Rattle.std.specs.Prelude.{◌≡◌, refl, [], ◌∷◌, map}
use Rattle.rules.specs.declared.CallRefusal.TheVariants as cause
use Rattle.rules.specs.Answers.{number}

numbers : map number (cause.WrongTable ∷ cause.WrongLine ∷ cause.ShortRoom ∷ cause.WrongNode ∷ cause.NodeInUse ∷ cause.NotOpen ∷ cause.WrongPassword ∷ [])
    ≡ 7 ∷ 8 ∷ 9 ∷ 11 ∷ 12 ∷ 13 ∷ 14 ∷ []
numbers = refl
