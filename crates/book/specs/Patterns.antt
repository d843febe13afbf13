use Rattle.std.specs.Prelude.{ℕ, ◌+◌, ◌-◌, ◌*◌, ◌/◌, ◌^◌, Bool, false, ◌&&◌, ◌||◌, List, [], ◌∷◌, length, is_some, Some, None, Option, ◌==◌, nat_le, if◌then◌else◌}
use Rattle.std.specs.List.{enumerate_from, list_all, list_any}
use Rattle.isa.specs.declared.format.Format.{Format}
use Rattle.isa.specs.declared.format.Format.TheVariants.{A1, A2, A3, A4, A5, L, B}
use Rattle.text.specs.Search.{Bytes}

-- A1 to A5 stand at the places 0 to 4
abbrev pub place_of : Format → Option ℕ
place_of A1 = Some 0
place_of A2 = Some 1
place_of A3 = Some 2
place_of A4 = Some 3
place_of A5 = Some 4
place_of L = None
place_of B = None

-- how many characters the pattern of a place has: 2, 1, 4, 3 and 4
abbrev pub length_at : ℕ → ℕ
length_at i = if i == 0 then 2 else if i == 1 then 1 else if i == 3 then 3 else 4

-- the characters 0 and 1 that follow the number n
abbrev pub bits : ℕ → Bytes → Option ℕ
bits n [] = Some n
bits n (d ∷ ds) = if d == 48 then bits (n * 2) ds else if d == 49 then bits (n * 2 + 1) ds else None

abbrev pub pattern_of : ℕ → Bytes → Option ℕ
pattern_of len s = if length s == len then bits 0 s else None

-- the pattern v of place f begins the pattern u of place g
abbrev pub begins : ℕ → ℕ → ℕ → ℕ → Bool
begins f v g u = nat_le (length_at f) (length_at g) && u / 2 ^ (length_at g - length_at f) == v

-- the pattern v of place f cannot stand beside what place g has
abbrev pub meets : ℕ → ℕ → ℕ → Option ℕ → Bool
meets f v g None = false
meets f v g (Some u) = f == g || (begins f v g u || begins g u f v)

-- nor beside one of the patterns from place g on
abbrev pub clashes : ℕ → ℕ → ℕ → List (Option ℕ) → Bool
clashes f v g ps = list_any (λ p. meets f v p.0 p.1) (enumerate_from g ps)

abbrev pub every : List (Option ℕ) → Bool
every ps = list_all is_some ps
