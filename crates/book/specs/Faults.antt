use Rattle.std.specs.Prelude.{ℕ}
use Rattle.book.specs.declared.fault.Fault.{Fault}
use Rattle.book.specs.declared.fault.Fault.TheVariants.{Fields, Name, Value, Repeated, Missing}

-- the number of each refusal
abbrev pub fault_number : Fault → ℕ
fault_number Fields = 11
fault_number Name = 12
fault_number Value = 13
fault_number Repeated = 14
fault_number Missing = 15
