-- The check before a store is made.
use Rattle.std.specs.Prelude.{ℕ, Ok, Err, Result, ◌==◌, if◌then◌else◌}
use Rattle.store.specs.declared.check.SizeError.{SizeError}
use Rattle.store.specs.declared.check.SizeError.TheVariants.{Size}

-- each refusal's number
abbrev pub number : SizeError → ℕ
number Size = 8

-- memory of so many bytes
abbrev pub size_check : ℕ → Result (Unit {0}) SizeError
size_check bytes = if bytes == 65536 then Ok tt else Err Size
