-- One step: fetch a halfword at s, add 2 to s, and obey what the word reads as.
use Rattle.std.specs.Prelude.{ℕ, ◌+◌, ◌/◌, ◌%◌, Bool, true, false, cond, ◌&&◌, List, ℤ, Some, None, Ok, Err, Option, Result, slice_set}
use Rattle.std.specs.Int.{w16}
use mir.Val.{of_z}
use Rattle.isa.specs.declared.format.Format.{Format}
use Rattle.isa.specs.declared.format.Format.TheVariants.{A1, A2, A3, A4, A5, L, B}
use Rattle.isa.specs.declared.name.Name.{Name}
use Rattle.isa.specs.declared.reading.Reading.{Reading}
use Rattle.isa.specs.declared.reading.Reading.TheVariants.{Undefined, NoPattern, Defined}
use Rattle.access.specs.Access.{Sight, sight}
use Rattle.access.specs.declared.rights.Rights.{Rights}
use Rattle.access.specs.declared.stop.Cause.{Cause}
use Rattle.access.specs.declared.stop.Cause.TheVariants as cause
use Rattle.access.specs.declared.stop.Stop.{Stop}
use Rattle.machine.specs.Act.{Act, fail, perform, ◌>>=◌}
use Rattle.machine.specs.Instructions.{executed}
use Rattle.machine.specs.Plan.{fetch}
use Rattle.machine.specs.Registers.{advanced}
use Rattle.machine.specs.Act.{Effect}
use Rattle.machine.specs.declared.pending.Pending.{Pending}
use Rattle.machine.specs.declared.pending.Pending.TheVariants.{Byte, Halfword, Fullword}
use Rattle.machine.specs.declared.mode.Mode.{Mode}
use Rattle.machine.specs.declared.registers.Registers.{Registers}

-- D as 16 bits
abbrev pub mode : Format → ℕ → ℤ → Mode
mode f m d = record { format = f; m = m; d = of_z w16 d }

abbrev pub format_a : Format → Bool
format_a A1 = true
format_a A2 = true
format_a A3 = true
format_a A4 = true
format_a A5 = true
format_a L = false
format_a B = false

-- format A needs integer mode
abbrev pub defined : Name → Mode → Registers → Act
defined n t r = cond (format_a t.format && r.fm) (fail cause.Floating) (executed n t r)

abbrev pub begun : Reading → Registers → Act
begun NoPattern r = fail cause.NoPattern
begun Undefined r = fail cause.Undefined
begun (Defined n f m d) r = defined n (mode f m d) r

-- under a book, which reads each word
abbrev pub planned : (ℕ → Reading) → Registers → Act
planned reads r = do
  w ← fetch r.s
  begun (reads w) (advanced r)

-- a stop has the address of the instruction, s before the step
abbrev pub stopped : {T : Type 0} → ℕ → Result T Cause → Result T Stop
stopped s (Ok x) = Ok x
stopped s (Err c) = Err (record { cause = c; address = s })

abbrev pub stepped : (ℕ → Reading) → Registers → Sight → Result Effect Stop
stepped reads r v = stopped r.s (perform v (planned reads r))

-- an item that is written
abbrev pub half_into : List ℕ → ℕ → ℕ → List ℕ
half_into bs at v = slice_set (slice_set bs at (v / 256)) ((at + 1) % 65536) (v % 256)

abbrev pub into : List ℕ → Pending → List ℕ
into bs (Byte at v) = slice_set bs at v
into bs (Halfword at v) = half_into bs at v
into bs (Fullword at v) = half_into (half_into bs at (v / 65536)) ((at + 2) % 65536) (v % 65536)

-- what a step writes
abbrev pub committed : List ℕ → Option Pending → List ℕ
committed bs None = bs
committed bs (Some p) = into bs p

-- what a step answers, and the registers and bytes after it
pub record StepEnd : Type 0 where
  pub answer : Result (Unit {0}) Stop
  pub registers : Registers
  pub bytes : List ℕ

abbrev pub step_end : Result (Unit {0}) Stop → Registers → List ℕ → StepEnd
step_end a r bs = record { answer = a; registers = r; bytes = bs }

-- a stop alters nothing
abbrev pub end_of : Registers → List ℕ → Result Effect Stop → StepEnd
end_of r bs (Ok e) = step_end (Ok tt) e.registers (committed bs e.pending)
end_of r bs (Err t) = step_end (Err t) r bs

abbrev pub step_of : (ℕ → Reading) → Rights → Registers → List ℕ → StepEnd
step_of reads rights r bs = end_of r bs (stepped reads r (sight rights bs))
