-- How a stop is written.
use Rattle.std.specs.Prelude.{ℕ, List, [], ◌++◌, Some, None, Option, codes, decimal}
use Rattle.access.specs.declared.stop.Access.{Access}
use Rattle.access.specs.declared.stop.Access.TheVariants.{Read, Write}
use Rattle.access.specs.declared.stop.Stop.{Stop}
use Rattle.access.specs.Stops.{cause_number, denied}

abbrev pub access_written : Access → List ℕ
access_written Read = codes "read"
access_written Write = codes "write"

-- what cause 2 adds
abbrev pub denied_written : Option (ℕ × Access × ℕ) → List ℕ
denied_written None = []
denied_written (Some (place, access, byte)) = codes " " ++ (decimal place ++ (codes " " ++ (access_written access ++ (codes " " ++ decimal byte))))

-- the cause's number, the instruction's address, and what cause 2 adds
abbrev pub stop_written : Stop → List ℕ
stop_written t = decimal (cause_number t.cause) ++ (codes " " ++ (decimal t.address ++ denied_written (denied t.cause)))
