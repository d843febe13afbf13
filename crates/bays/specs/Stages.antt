-- The stages of a bay.
use Rattle.std.specs.Prelude.{Bool, true, false, Some, None, Option}
use Rattle.bays.specs.declared.stage.Stage.{Stage}
use Rattle.bays.specs.declared.stage.Stage.TheVariants.{Preparing, Sealed}

-- a free bay is at no stage
abbrev pub at_stage : Stage → Option Stage → Bool
at_stage s None = false
at_stage Preparing (Some Preparing) = true
at_stage Preparing (Some Sealed) = false
at_stage Sealed (Some Preparing) = false
at_stage Sealed (Some Sealed) = true

abbrev pub is_free : Option Stage → Bool
is_free None = true
is_free (Some s) = false
