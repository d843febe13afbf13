-- What is read of a store's bytes.
use Rattle.std.specs.Prelude.{ℕ, ◌+◌, ◌-◌, ◌%◌, List, [], ◌∷◌, slice_index}

-- the two bytes of the halfword in which an address lies
abbrev pub pair_at : List ℕ → ℕ → List ℕ
pair_at bytes at = slice_index bytes (at - at % 2) ∷ slice_index bytes (at - at % 2 + 1) ∷ []
