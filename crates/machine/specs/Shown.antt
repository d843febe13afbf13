-- How registers and markers are written.
use Rattle.std.specs.Prelude.{ℕ, List, [], ◌∷◌, ◌++◌, codes, decimal}
use Rattle.std.specs.Int.{from_bool}
use Rattle.machine.specs.declared.registers.Registers.{Registers}

-- numbers, and a space between two
abbrev pub spaced : ℕ → List ℕ → List ℕ
spaced n [] = decimal n
spaced n (m ∷ ms) = decimal n ++ (codes " " ++ spaced m ms)

-- A B X Y Z S L, and then FM N ZR OF CA as 0 or 1
abbrev pub registers_written : Registers → List ℕ
registers_written r = spaced r.a (r.b ∷ r.x ∷ r.y ∷ r.z ∷ r.s ∷ r.l ∷ from_bool r.fm ∷ from_bool r.n ∷ from_bool r.zr ∷ from_bool r.of ∷ from_bool r.ca ∷ [])
