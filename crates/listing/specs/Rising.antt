-- Addresses rise.
use Rattle.std.specs.Prelude.{ℕ, ◌<◌, ◌≤◌, Some, None, Ok, Err, Option, Result}
use Rattle.listing.specs.declared.placed.Placed.{Placed}

abbrev pub OnPlaced : Option Placed → Type 0 → Type 0
OnPlaced None P = Unit {0}
OnPlaced (Some p) P = P

-- a halfword that is placed moves the end from e to a higher e'
abbrev pub Rises : {E : Type 0} → Result (Option Placed) E → ℕ → ℕ → Type 0
Rises (Err f) e e' = Unit {0}
Rises (Ok o) e e' = OnPlaced o ((e < e') × (e' ≤ 65537))
