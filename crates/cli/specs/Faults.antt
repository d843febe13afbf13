-- How a fault is told with its file.
use Rattle.std.specs.Prelude.{◌≡◌, ℕ, List}
use Rattle.std.specs.String.{string_bytes}
use Rattle.cli.specs.declared.failure.Failure.{Failure}
use Rattle.cli.specs.declared.failure.Failure.TheVariants.{File, Memory, System}
use Rattle.cli.specs.declared.failure.Fault.{Fault}
use Rattle.cli.specs.declared.failure.Fault.TheVariants as fault

-- that fault of the file of that name, unless there is no memory for the name
abbrev pub IsOfFile : List ℕ → Fault → Failure → Type 0
IsOfFile name said (File file told) = (string_bytes file ≡ name) × (told ≡ said)
IsOfFile name said (Memory e) = Unit {0}
IsOfFile name said _ = ⊥

-- what the system said, as a fault of the file of that name; another failure stays as it was
abbrev pub IsAbout : List ℕ → Failure → Failure → Type 0
IsAbout name (System e) told = IsOfFile name (fault.System e) told
IsAbout name was told = told ≡ was
