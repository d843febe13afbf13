-- The status that a program ends with.
use Rattle.std.specs.Prelude.{ℕ, Ok, Err, Result}

-- 1 where it failed
abbrev pub status_of : {E : Type 0} → Result (Unit {0}) E → ℕ
status_of (Ok u) = 0
status_of (Err e) = 1
