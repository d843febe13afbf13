-- What the replies to a record's requests come to, and that this is the run of the job's rules.
use Rattle.std.specs.Prelude.{◌≡◌, ℕ, ◌+◌, ◌-◌, ◌*◌, ◌^◌, ◌<◌, ◌++◌, Bool, true, false, T, min, List, [], ◌∷◌, length, Some, None, Option}
use Rattle.access.specs.Access.{within}
use Rattle.access.specs.declared.kind.Use.TheVariants.{Load, Copy}
use Rattle.bays.specs.Bays.{bay_at}
use Rattle.bays.specs.declared.stage.Stage.TheVariants.{Sealed}
use Rattle.book.specs.Readings.{reading}
use Rattle.history.specs.Calls.{Act, Answer, ToldStop, copied, done, refused, shown, stop_told, turned}
use Rattle.history.specs.Hall.{Hall}
use Rattle.job.specs.Ran.{recorded}
use Rattle.job.specs.declared.job.Job.{Job}
use Rattle.job.specs.declared.run.Ran.{Ran}
use Rattle.machine.specs.declared.registers.Registers.{Registers}
use Rattle.session.specs.Serve.{serve}
use Rattle.store.specs.Bulk.{taken}
use Rattle.turns.specs.Turn.{Run}
use Rattle.recover.specs.Records.{record_asks}

-- how a run ended so far, and the results with its output
pub record Noted : Type 0 where
  pub steps : ℕ
  pub registers : Registers
  pub stop : Option ToldStop
  pub results : List ℕ

abbrev pub noting : Ran → List ℕ → Noted
noting ran results =
    record { steps = ran.steps; registers = ran.registers; stop = stop_told ran.stop; results = results }

abbrev pub begun : Registers → List ℕ → Noted
begun r results = record { steps = 0; registers = r; stop = None; results = results }

-- one reply more; the steps end at the greatest number of 32 bits
abbrev pub noted : Option Answer → Noted → Noted
noted None m = m
noted (Some (refused e)) m = m
noted (Some done) m = m
noted (Some (turned k t)) m = record m { steps = min (m.steps + k) (2 ^ 32 - 1) }
noted (Some (shown r t)) m = record m { registers = r; stop = t }
noted (Some (copied bs)) m = record m { results = m.results ++ bs }

-- a turn that ended by a stop, or met one that stands
abbrev pub is_stop : Option Answer → Bool
is_stop (Some (turned k (Some t))) = true
is_stop (Some (turned k None)) = false
is_stop (Some (refused e)) = false
is_stop (Some done) = false
is_stop (Some (shown r t)) = false
is_stop (Some (copied bs)) = false
is_stop None = false

-- what was noted, and the hall after it
pub record RecordEnd : Type 0 where
  pub noted : Noted
  pub hall : Hall

abbrev pub record_end : Noted → Hall → RecordEnd
record_end m H = record { noted = m; hall = H }

-- calls of bays that are asked for one after the other
abbrev pub asked_all : List (ℕ × Act) → Noted → Hall → RecordEnd
asked_all [] m H = record_end m H
asked_all (q ∷ qs) m H = asked_all qs (noted (serve q.0 q.1 H).reply m) (serve q.0 q.1 H).hall

abbrev pub record_run : Job → List ℕ → List ℕ → Hall → RecordEnd
record_run j counts results H = asked_all (record_asks j counts) (begun j.registers results) H

-- the job's bay is sealed and has the job's rights
pub record Ready (j : Job) (H : Hall) : Type 0 where
  pub stage : (bay_at H.bays j.number).stage ≡ Some Sealed
  pub rights : (bay_at H.bays j.number).rights ≡ j.rights

-- by the job's rights a record of that length may be loaded, and the output copied
pub record Reached (j : Job) (n : ℕ) : Type 0 where
  pub input : T (within j.rights Load j.input.address n)
  pub output : T (within j.rights Copy j.output.address (2 * j.output.halfwords))

-- a record's run comes to what the rules make of the job and the record over the store's bytes: its
-- steps, registers and stop; the results, with the bytes in the job's output after them; and the
-- store. The bay stays ready for the next
pub record ComesTo (j : Job) (before : List ℕ) (w : Run) (end : RecordEnd) : Type 0 where
  pub steps : end.noted.steps ≡ w.turned.steps
  pub registers : end.noted.registers ≡ w.registers
  pub stop : end.noted.stop ≡ stop_told w.turned.stop
  pub results : end.noted.results ≡ before ++ taken w.bytes j.output.address (2 * j.output.halfwords)
  pub bytes : end.hall.bytes ≡ w.bytes
  pub ready : Ready j end.hall

abbrev pub RunsByTheRules : Type 0
RunsByTheRules =
    (j : Job) (counts results : List ℕ) (H : Hall)
    → Ready j H → Reached j (length counts) → j.turns.count * j.turns.budget < 2 ^ 32
    → ComesTo j results (recorded (reading H.book) j H.bytes counts) (record_run j counts results H)
