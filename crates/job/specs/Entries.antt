-- What a line of a job may be about, and how it is written.
use Rattle.std.specs.Prelude.{ℕ, List, [], ◌∷◌, codes, Option, Result}
use Rattle.std.specs.Option.{ok_or}
use Rattle.text.specs.Spelling.{first}
use Rattle.job.specs.declared.entry.Entry.{Entry}
use Rattle.job.specs.declared.entry.Entry.TheVariants.{Bay, Grant, Registers, Input, Output, Turns, Records, Results}
use Rattle.job.specs.declared.fault.Fault.{Fault}
use Rattle.job.specs.declared.fault.Fault.TheVariants.{Unknown}

abbrev pub spelled : Entry → List ℕ
spelled Bay = codes "bay"
spelled Grant = codes "grant"
spelled Registers = codes "registers"
spelled Input = codes "input"
spelled Output = codes "output"
spelled Turns = codes "turns"
spelled Records = codes "records"
spelled Results = codes "results"

abbrev pub entries : List Entry
entries = Bay ∷ Grant ∷ Registers ∷ Input ∷ Output ∷ Turns ∷ Records ∷ Results ∷ []

-- the entry that is spelled so
unfoldable pub entry_of : List ℕ → Option Entry
entry_of s = first spelled entries s

-- the same, or the refusal
abbrev pub entry_read : List ℕ → Result Entry Fault
entry_read s = ok_or (entry_of s) Unknown
