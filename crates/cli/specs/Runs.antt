-- Runs of a job over records, one after the other.
use Rattle.std.specs.Prelude.{ℕ, ◌*◌, max, List, [], ◌∷◌, length}
use Rattle.std.specs.Simd.{first_chunks}
use Rattle.std.specs.Slice.Iter.{chunk_count}
use Rattle.isa.specs.declared.reading.Reading.{Reading}
use Rattle.job.specs.declared.job.Job.{Job}
use Rattle.job.specs.declared.run.Ran.{Ran}
use Rattle.job.specs.Ran.{recorded}
use Rattle.turns.specs.Turn.{Run}
use Rattle.store.specs.Bulk.{taken}

-- bytes by pieces of a size, of which the last may be shorter
abbrev pub pieces : ℕ → List ℕ → List (List ℕ)
pieces size bs = first_chunks size (chunk_count (length bs) size) bs

-- the records, each of as many bytes as the job's input; of one byte where the input has none
abbrev pub records_of : Job → List ℕ → List (List ℕ)
records_of j bs = pieces (max (2 * j.input.halfwords) 1) bs

-- a run with each record, each from the bytes that the one before it left
abbrev pub runs : (ℕ → Reading) → Job → List ℕ → List (List ℕ) → List Run
runs reads j bs [] = []
runs reads j bs (counts ∷ rest) =
    recorded reads j bs counts ∷ runs reads j (recorded reads j bs counts).bytes rest

-- those with all records
abbrev pub all_runs : (ℕ → Reading) → Job → List ℕ → List ℕ → List Run
all_runs reads j bs records = runs reads j bs (records_of j records)

-- what lies in the job's output
abbrev pub output_in : Job → List ℕ → List ℕ
output_in j bs = taken bs j.output.address (2 * j.output.halfwords)

-- what a run left there
abbrev pub output_of : Job → Run → List ℕ
output_of j run = output_in j run.bytes

-- how a run ended, without the bytes that it left
abbrev pub ran_of : Run → Ran
ran_of run = record { steps = run.turned.steps; registers = run.registers; stop = run.turned.stop }

-- the bytes that the last run left, or those before it where there is none
abbrev pub bytes_left : List ℕ → List Run → List ℕ
bytes_left bs [] = bs
bytes_left bs (run ∷ rest) = bytes_left run.bytes rest
