-- What the lines of a job say, one after the other.
use Rattle.std.specs.Prelude.{ℕ, List, [], ◌∷◌, replicate, Some, None, Ok, Err, Option, Result, ◌==◌, slice_set, if◌then◌else◌}
use Rattle.std.specs.Borrow.{Bor}
use Rattle.text.specs.Search.{Bytes}
use Rattle.text.specs.Results as results
use Rattle.access.specs.declared.rights.Grant.{Grant}
use Rattle.bays.specs.Grants.{checked, clashes_any}
use Rattle.bays.specs.declared.refusal.Refusal.{Refusal}
use Rattle.job.specs.Faults.{grant_fault}
use Rattle.machine.specs.declared.registers.Registers.{Registers}
use Rattle.job.specs.declared.area.Area.{Area}
use Rattle.job.specs.declared.draft.Draft.{Draft}
use Rattle.job.specs.declared.entry.Entry.{Entry}
use Rattle.job.specs.declared.entry.Entry.TheVariants as entry
use Rattle.job.specs.declared.fault.Fault.{Fault}
use Rattle.job.specs.declared.fault.Fault.TheVariants.{Repeated}
use Rattle.job.specs.declared.job.Turns.{Turns}
use Rattle.job.specs.Fields.{fields, Reader, ◌>>=◌, give, answer, an_entry, a_bay, a_grant, some_registers, an_area, some_turns, a_file, ended}

-- what the lines so far say
pub record SoFar : Type 0 where
  pub number : Option ℕ
  pub grants : List (Option Grant)
  pub registers : Option Registers
  pub input : Option Area
  pub output : Option Area
  pub turns : Option Turns
  pub records : Option Bytes
  pub results : Option Bytes

abbrev pub nothing : SoFar
nothing = record {
  number = None;
  grants = replicate 6 None;
  registers = None;
  input = None;
  output = None;
  turns = None;
  records = None;
  results = None;
}

-- an entry stands once
abbrev pub first_time : {X : Type 0} → Entry → Option X → X → Result (Option X) Fault
first_time e None x = Ok (Some x)
first_time e (Some y) x = Err (Repeated e)

abbrev pub once : {X : Type 0} → Entry → Option X → Reader X → Reader (Option X)
once e slot r = do
  x ← r
  answer (first_time e slot x)

-- one grant more, at the place that the check found
abbrev pub with_place : List (Option Grant) → Grant → Result ℕ Refusal
    → Result (List (Option Grant)) Fault
with_place gs g (Ok k) = Ok (slice_set gs k (Some g))
with_place gs g (Err r) = Err (grant_fault r)

-- one grant more, by the check of a hall
abbrev pub granted : List (Option Grant) → Grant → Result (List (Option Grant)) Fault
granted gs g = with_place gs g (checked g gs (clashes_any g gs))

-- what the values of an entry add
abbrev pub entered : SoFar → Entry → Reader SoFar
entered d entry.Bay = do
  number ← once entry.Bay d.number a_bay
  give (record d { number = number })
entered d entry.Grant = do
  grant ← a_grant
  grants ← answer (granted d.grants grant)
  give (record d { grants = grants })
entered d entry.Registers = do
  registers ← once entry.Registers d.registers some_registers
  give (record d { registers = registers })
entered d entry.Input = do
  input ← once entry.Input d.input an_area
  give (record d { input = input })
entered d entry.Output = do
  output ← once entry.Output d.output an_area
  give (record d { output = output })
entered d entry.Turns = do
  turns ← once entry.Turns d.turns some_turns
  give (record d { turns = turns })
entered d entry.Records = do
  records ← once entry.Records d.records a_file
  give (record d { records = records })
entered d entry.Results = do
  results ← once entry.Results d.results a_file
  give (record d { results = results })

-- the name of an entry and its values, and no field more
abbrev pub by_fields : SoFar → List Bytes → Result SoFar Fault
by_fields d fs =
    results.◌>>=◌ ((an_entry >>= entered d) fs) (λ p. results.◌>>=◌ (ended p.1) (λ _. Ok p.0))

-- what the lines so far and one more say; an empty one and one that # begins say nothing
unfoldable pub line_rule : SoFar → Bytes → Result SoFar Fault
line_rule d [] = Ok d
line_rule d (x ∷ xs) = if x == 35 then Ok d else by_fields d (fields (x ∷ xs))

-- the bytes of a name that is borrowed, if it is there
abbrev pub name_bytes : Option (Bor Bytes) → Option Bytes
name_bytes None = None
name_bytes (Some r) = Some r.now

abbrev pub so_far : Draft → SoFar
so_far d = record {
  number = d.number;
  grants = d.grants;
  registers = d.registers;
  input = d.input;
  output = d.output;
  turns = d.turns;
  records = name_bytes d.records;
  results = name_bytes d.results;
}
