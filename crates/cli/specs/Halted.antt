-- How a run is seen to have ended by itself.
use Rattle.std.specs.Prelude.{Bool, true, false, Option, None, Some}
use Rattle.access.specs.declared.stop.Cause.{Cause}
use Rattle.access.specs.declared.stop.Cause.TheVariants.{Halt}
use Rattle.access.specs.declared.stop.Stop.{Stop}

abbrev pub is_halt : Cause → Bool
is_halt Halt = true
is_halt _ = false

-- the program's HRK ended the run
abbrev pub halt_ended : Option Stop → Bool
halt_ended None = false
halt_ended (Some s) = is_halt s.cause
