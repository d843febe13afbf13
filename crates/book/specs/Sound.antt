use Rattle.std.specs.Prelude.{ℕ, ◌+◌, ◌^◌, Bool, true, not, ◌&&◌, ◌||◌, List, [], ◌∷◌, Some, None, Option, ◌==◌, nat_le, nat_lt}
use Rattle.isa.specs.declared.name.Name.{Name}
use Rattle.isa.specs.Names.{rank}
use Rattle.book.specs.declared.tables.Tables.{Tables}
use Rattle.book.specs.Rows.{has_name}
use Rattle.book.specs.Patterns.{length_at, clashes}

abbrev pub between : ℕ → ℕ → ℕ → Bool
between low high k = nat_le low k && nat_le k high

-- numbers under which the whole words and BITL lie
abbrev pub reserved : ℕ → Bool
reserved k = k == 18 || (k == 22 || (k == 23 || (k == 39 || k == 55)))

-- a number and a name that go together under each letter; by rank the A names come first, then those of L
-- and of B
abbrev pub legal_a : ℕ → Name → Bool
legal_a k n = between 16 63 k && between 0 30 (rank n)

abbrev pub legal_l : ℕ → Name → Bool
legal_l k n = between 16 63 k && (not (reserved k) && between 31 43 (rank n))

abbrev pub legal_b : ℕ → Name → Bool
legal_b k n = between 1 3 k && between 44 45 (rank n)

abbrev pub entry : {X : Type 0} → (ℕ → X → Bool) → ℕ → Option X → Bool
entry legal k None = true
entry legal k (Some x) = legal k x

-- every entry from the number k on is legal
abbrev pub entries : {X : Type 0} → (ℕ → X → Bool) → ℕ → List (Option X) → Bool
entries legal k [] = true
entries legal k (e ∷ t) = entry legal k e && entries legal (k + 1) t

abbrev pub alone : Option Name → List (Option Name) → Bool
alone None t = true
alone (Some n) t = not (has_name n t)

-- no name stands twice
abbrev pub apart : List (Option Name) → Bool
apart [] = true
apart (e ∷ t) = alone e t && apart t

-- a pattern has the length of its place
abbrev pub legal_pattern : ℕ → ℕ → Bool
legal_pattern i v = nat_lt v (2 ^ length_at i)

abbrev pub free : ℕ → Option ℕ → List (Option ℕ) → Bool
free i None ps = true
free i (Some v) ps = not (clashes i v (i + 1) ps)

-- none of the patterns from place i on begins another
abbrev pub parted : ℕ → List (Option ℕ) → Bool
parted i [] = true
parted i (p ∷ ps) = free i p ps && parted (i + 1) ps

-- numbers and names are legal, no name stands twice, patterns have their lengths, and none begins another
abbrev pub sound : Tables → Bool
sound t =
    (entries legal_a 0 t.a && apart t.a)
    && ((entries legal_l 0 t.l && apart t.l)
    && ((entries legal_b 0 t.b && apart t.b)
    && (entries legal_pattern 0 t.patterns && parted 0 t.patterns)))
