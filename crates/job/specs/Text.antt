-- What the whole text of a job says.
use Rattle.std.specs.Prelude.{ℕ, ◌*◌, Bool, not, Ok, Err, Option, Result, if◌then◌else◌}
use Rattle.std.specs.Option.{ok_or}
use Rattle.text.specs.declared.fault.AtLine.{AtLine}
use Rattle.text.specs.Faults.{at_line}
use Rattle.text.specs.Results.{◌>>=◌}
use Rattle.text.specs.Search.{Bytes}
use Rattle.text.specs.TakeLine.{lines_taken}
use Rattle.access.specs.Access.{rights_of, within}
use Rattle.access.specs.declared.rights.Rights.{Rights}
use Rattle.access.specs.declared.kind.Use.{Use}
use Rattle.access.specs.declared.kind.Use.TheVariants.{Load, Copy}
use Rattle.machine.specs.declared.registers.Registers.{Registers}
use Rattle.job.specs.declared.area.Area.{Area}
use Rattle.job.specs.declared.entry.Entry.{Entry}
use Rattle.job.specs.declared.entry.Entry.TheVariants as entry
use Rattle.job.specs.declared.fault.Fault.{Fault}
use Rattle.job.specs.declared.fault.Fault.TheVariants.{Unended, Missing, Denied}
use Rattle.job.specs.declared.job.Job.{Job}
use Rattle.job.specs.declared.job.Turns.{Turns}
use Rattle.job.specs.Lines.{SoFar, nothing, line_rule}

-- a job, with the names of its files by their bytes
pub record Says : Type 0 where
  pub number : ℕ
  pub rights : Rights
  pub registers : Registers
  pub input : Area
  pub output : Area
  pub turns : Turns
  pub records : Bytes
  pub results : Bytes

-- an entry that has to be there
abbrev pub there : {X : Type 0} → Entry → Option X → Result X Fault
there e o = ok_or o (Missing e)

-- the grants let that be done with all bytes of the area
abbrev pub within_area : Rights → Use → Area → Bool
within_area rights u area = within rights u area.address (2 * area.halfwords)

-- records can be put in, and results can be taken
abbrev pub if_reached : Says → Result Says Fault
if_reached j =
    if not (within_area j.rights Load j.input) then Err (Denied entry.Input)
    else if not (within_area j.rights Copy j.output) then Err (Denied entry.Output)
    else Ok j

-- the whole job, after the last line
unfoldable pub finished : SoFar → Result Says Fault
finished d = do
  number ← there entry.Bay d.number
  registers ← there entry.Registers d.registers
  input ← there entry.Input d.input
  output ← there entry.Output d.output
  turns ← there entry.Turns d.turns
  records ← there entry.Records d.records
  results ← there entry.Results d.results
  if_reached (record {
    number = number;
    rights = rights_of d.grants;
    registers = registers;
    input = input;
    output = output;
    turns = turns;
    records = records;
    results = results;
  })

-- the job that a text has, read line by line, or its first fault with its line
unfoldable pub job_of : Bytes → Result Says (AtLine Fault)
job_of s = do
  p ← lines_taken line_rule Unended nothing s
  at_line p.1 (finished p.0)

-- the same of a job that borrows the names
abbrev pub says : Job → Says
says j = record {
  number = j.number;
  rights = j.rights;
  registers = j.registers;
  input = j.input;
  output = j.output;
  turns = j.turns;
  records = j.records.now;
  results = j.results.now;
}

abbrev pub shown_job : {E : Type 0} → Result Job E → Result Says E
shown_job (Err e) = Err e
shown_job (Ok j) = Ok (says j)
