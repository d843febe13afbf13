-- Bytes of a text, and the parts between them.
use Rattle.std.specs.Prelude.{ℕ, Bool, List, length, Some, None, Option, ◌==◌, nat_lt, if◌then◌else◌}
use Rattle.std.specs.List.{position_or_len, before_first, after_first, slice_split}
use Rattle.std.specs.Borrow.{Bor}

abbrev pub Bytes : Type 0
Bytes = List ℕ

abbrev pub empty : Bytes → Bool
empty s = length s == 0

-- the place of the first b, or the length
abbrev pub place_of : ℕ → Bytes → ℕ
place_of b s = position_or_len (λ x. x == b) s

-- what stands before the first b, and after it
abbrev pub cut_at : ℕ → Bytes → Option (Bytes × Bytes)
cut_at b s =
    if nat_lt (place_of b s) (length s)
    then Some (before_first (λ x. x == b) s, after_first (λ x. x == b) s)
    else None

-- the parts of a text, which each b ends but the last
abbrev pub parts : ℕ → Bytes → List Bytes
parts b s = slice_split (λ x. x == b) s

-- the bytes that two borrowed parts hold
abbrev pub pair : Option (Bor Bytes × Bor Bytes) → Option (Bytes × Bytes)
pair None = None
pair (Some p) = Some (p.0.now, p.1.now)
