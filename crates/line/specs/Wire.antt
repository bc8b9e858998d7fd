-- RFC 1055: the special bytes, and the sender's escaping.
use Rattle.std.specs.Prelude.{ℕ, List, [], ◌∷◌, cond, eqb}

abbrev pub END : ℕ
END = 192

abbrev pub ESC : ℕ
ESC = 219

-- what follows an ESC that stands for END, or for ESC
abbrev pub ESC-END : ℕ
ESC-END = 220

abbrev pub ESC-ESC : ℕ
ESC-ESC = 221

-- C0 is sent as DB DC, and DB as DB DD; all other values go as they are
unfoldable pub escape : List ℕ → List ℕ
escape [] = []
escape (b ∷ h) = cond (eqb b END) (ESC ∷ ESC-END ∷ escape h) (cond (eqb b ESC) (ESC ∷ ESC-ESC ∷ escape h) (b ∷ escape h))
