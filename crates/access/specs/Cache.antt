-- How a turn asks: of all bytes at once, and first the grant that most likely has them.
use Rattle.std.specs.Prelude.{◌≡◌, ◌≤◌, ℕ, Bool, true, Some}
use Rattle.std.specs.List.{list_any}
use Rattle.access.specs.Access.{covers_all}
use Rattle.access.specs.declared.kind.Kind.TheVariants as kind
use Rattle.access.specs.declared.kind.Use.{Use}
use Rattle.access.specs.declared.rights.Grant.{Grant}
use Rattle.access.specs.declared.rights.Rights.{Rights}

-- some grant has all the bytes from a to b
abbrev pub spans : Rights → Use → ℕ → ℕ → Bool
spans rights u a b = list_any (λ g. covers_all g u a b) rights.grants

-- what bytes the grant has, some grant of the rights has
abbrev pub IsAmong : Grant → Rights → Type 0
IsAmong grant rights =
    (u : Use) (a b : ℕ) → a ≤ b → covers_all (Some grant) u a b ≡ true → spans rights u a b ≡ true

-- a grant that has none
abbrev pub no_bytes : Grant
no_bytes = record { kind = kind.Read; first = 1; last = 0 }
