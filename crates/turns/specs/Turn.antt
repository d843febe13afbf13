-- A turn: steps up to a budget, or up to a stop.
use Rattle.std.specs.Prelude.{ℕ, zero, suc, ◌+◌, List, Some, None, Ok, Err, Result}
use Rattle.isa.specs.declared.reading.Reading.{Reading}
use Rattle.access.specs.Access.{sight}
use Rattle.access.specs.declared.rights.Rights.{Rights}
use Rattle.access.specs.declared.stop.Stop.{Stop}
use Rattle.machine.specs.declared.registers.Registers.{Registers}
use Rattle.turns.specs.Step.{committed, stepped}
use Rattle.turns.specs.declared.turning.Turned.{Turned}

-- a turn's answer: its steps, all spent, or those before a stop
abbrev pub all_spent : ℕ → Turned
all_spent k = record { steps = k; stop = None }

abbrev pub stopped_after : ℕ → Stop → Turned
stopped_after k t = record { steps = k; stop = Some t }

-- a turn's answer, and what registers and bytes are after it
pub record Run : Type 0 where
  pub registers : Registers
  pub bytes : List ℕ
  pub turned : Turned

abbrev pub run_end : Registers → List ℕ → Turned → Run
run_end r bs t = record { registers = r; bytes = bs; turned = t }

-- at most n more steps, after k
abbrev pub run : (ℕ → Reading) → Rights → ℕ → ℕ → Registers → List ℕ → Run
run reads rights zero k r bs = run_end r bs (all_spent k)
run reads rights (suc n) k r bs = elim (stepped reads r (sight rights bs)) [ Ok e ↦ run reads rights n (k + 1) e.registers (committed bs e.pending) | Err t ↦ run_end r bs (stopped_after k t) ]

abbrev pub met_after : {T : Type 0} → ℕ → Result T Stop → Result T Turned
met_after k (Ok x) = Ok x
met_after k (Err t) = Err (stopped_after k t)

-- the answer of a turn of n steps, by the stop that it met and the steps before
abbrev pub turned_by : ℕ → Result (Unit {0}) Turned → Turned
turned_by n (Ok u) = all_spent n
turned_by n (Err t) = t
