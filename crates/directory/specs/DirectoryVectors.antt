-- The commands that document 01 names, and lengths at the edges of a range.
use Rattle.std.specs.Prelude.{◌≡◌, refl, List, [], ◌∷◌, map, Some, None}
use Rattle.directory.specs.declared.Entry.{Entry}
use Rattle.directory.specs.Directory.{entry, directory}
use Rattle.directory.specs.Lookup.{find, verdict_of, verdict}

-- the served requests, their replies and notices, and the error frame
named : List Entry
named =
    entry 0x3000 32 32 ∷ entry 0x3001 1 1
    ∷ entry 0x3002 64 64 ∷ entry 0x3003 1 1
    ∷ entry 0x0200 1 1 ∷ entry 0x0201 2 2 ∷ entry 0x0210 124 124
    ∷ entry 0x0206 2 2 ∷ entry 0x0207 2 2
    ∷ entry 0x0208 65 65 ∷ entry 0x0209 2 2
    ∷ entry 0x020D 4 4 ∷ entry 0x020E 2 2
    ∷ entry 0x0106 26 26 ∷ entry 0x0107 1 1
    ∷ entry 0x0108 0 0 ∷ entry 0x0109 0 0
    ∷ entry 0x0320 31 31 ∷ entry 0x0321 3 3 ∷ entry 0x0304 2 2
    ∷ entry 0x0000 1 1
    ∷ []

named_found : map (λ (e : Entry). find e.number directory) named ≡ map Some named
unfolding find directory named
named_found = refl

-- the first and the last command; 0102 has layouts of 2 bytes and of 13 to 112, 0411 of 71 to 247; 020A and 020B left the list in version 3.17
edges :
    verdict 0x0000 1 ∷ verdict 0x3004 32
    ∷ verdict 0x0102 1 ∷ verdict 0x0102 2 ∷ verdict 0x0102 112 ∷ verdict 0x0102 113
    ∷ verdict 0x0411 70 ∷ verdict 0x0411 71 ∷ verdict 0x0411 247 ∷ verdict 0x0411 248
    ∷ verdict 0x020A 2 ∷ verdict 0x020B 2
    ∷ []
    ≡ None ∷ None
    ∷ Some 2 ∷ None ∷ None ∷ Some 2
    ∷ Some 2 ∷ None ∷ None ∷ Some 2
    ∷ Some 1 ∷ Some 1
    ∷ []
unfolding verdict verdict_of find directory
edges = refl
