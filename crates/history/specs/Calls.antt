-- The nine calls, and what they can answer.
use Rattle.std.specs.Prelude.{ℕ, List, Some, None, Ok, Err, Option, Result}
use Rattle.bays.specs.Refusals.{number}
use Rattle.bays.specs.declared.refusal.Refusal.{Refusal}
use Rattle.bays.specs.declared.stage.Stage.{Stage}
use Rattle.access.specs.Stops as stops
use Rattle.access.specs.declared.rights.Grant.{Grant}
use Rattle.machine.specs.declared.registers.Registers.{Registers}
use Rattle.access.specs.declared.stop.Access.{Access}
use Rattle.access.specs.declared.stop.Stop.{Stop}

-- calls that act on their bay's own registers and granted bytes: load at an address, set, turn, look, copy so many
pub data Own : Type 0 where
  load : ℕ → List ℕ → Own
  set_all : Registers → Own
  turn : ℕ → Own
  look : Own
  copy : ℕ → ℕ → Own

-- calls that go by the stages and grants of all bays
pub data Shared : Type 0 where
  open_bay : Shared
  grant : Grant → Shared
  seal : Shared
  close : Shared

pub data Act : Type 0 where
  own : Own → Act
  shared : Shared → Act

-- a call names a bay; its handle has a stage (open has no handle, and its stage says nothing)
pub record Call : Type 0 where
  pub bay : ℕ
  pub held : Stage
  pub act : Act

abbrev pub call : ℕ → Stage → Act → Call
call k s c = record { bay = k; held = s; act = c }

-- a stop by its cause's number, the instruction's address, and what cause 2 adds
abbrev pub ToldStop : Type 0
ToldStop = ℕ × ℕ × Option (ℕ × Access × ℕ)

abbrev pub stop_told : Option Stop → Option ToldStop
stop_told None = None
stop_told (Some t) = Some (stops.told t)

-- the refusal's number, or what is handed out; a turn without a stop is spent
pub data Answer : Type 0 where
  refused : ℕ → Answer
  done : Answer
  turned : ℕ → Option ToldStop → Answer
  shown : Registers → Option ToldStop → Answer
  copied : List ℕ → Answer

-- what a call of the code returns, as an answer
abbrev pub answered : {A E : Type 0} → (A → Answer) → (E → Refusal) → Result A E → Answer
answered f g (Ok x) = f x
answered f g (Err e) = refused (number (g e))
