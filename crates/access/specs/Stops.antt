-- Each stop's number, with its values.
use Rattle.std.specs.Prelude.{ℕ, Some, None, Ok, Err, Option, Result}
use Rattle.access.specs.declared.stop.Access.{Access}
use Rattle.access.specs.declared.stop.Cause.{Cause}
use Rattle.access.specs.declared.stop.Cause.TheVariants.{Undefined, Denied, Halt, Floating, NoPattern}
use Rattle.access.specs.declared.stop.Place.{Place}
use Rattle.access.specs.declared.stop.Place.TheVariants.{Fetch, Pointer, Operand}
use Rattle.access.specs.declared.stop.Stop.{Stop}

abbrev pub place_number : Place → ℕ
place_number Fetch = 1
place_number Pointer = 2
place_number Operand = 3

abbrev pub cause_number : Cause → ℕ
cause_number Undefined = 1
cause_number (Denied p e) = 2
cause_number Halt = 3
cause_number Floating = 4
cause_number NoPattern = 5

-- what cause 2 adds: the place, the access, and the lowest byte refused
abbrev pub denied : Cause → Option (ℕ × Access × ℕ)
denied Undefined = None
denied (Denied p e) = Some (place_number p, e.access, e.byte)
denied Halt = None
denied Floating = None
denied NoPattern = None

-- a stop as it is told: the cause's number, the instruction's address, and what cause 2 adds
abbrev pub told : Stop → ℕ × ℕ × Option (ℕ × Access × ℕ)
told t = (cause_number t.cause, t.address, denied t.cause)

abbrev pub told_of : Result (Unit {0}) Stop → Result (Unit {0}) (ℕ × ℕ × Option (ℕ × Access × ℕ))
told_of (Ok u) = Ok u
told_of (Err t) = Err (told t)
