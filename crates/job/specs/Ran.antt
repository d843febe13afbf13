-- The run of a record.
use Rattle.std.specs.Prelude.{ℕ, ◌*◌, List}
use Rattle.isa.specs.declared.reading.Reading.{Reading}
use Rattle.job.specs.declared.job.Job.{Job}
use Rattle.job.specs.declared.run.Ran.{Ran}
use Rattle.turns.specs.Turn.{Run, run, run_end}
use Rattle.store.specs.Bulk.{written}

-- how a run ended, with the bytes that it left
abbrev pub end_of : Ran → List ℕ → Run
end_of q bs = run_end q.registers bs (record { steps = q.steps; stop = q.stop })

-- one run of as many steps as all the turns have
abbrev pub turns_run : (ℕ → Reading) → Job → List ℕ → Run
turns_run reads j bs = run reads j.rights (j.turns.count * j.turns.budget) 0 j.registers bs

-- the record at the job's input, and then the run of all turns
abbrev pub recorded : (ℕ → Reading) → Job → List ℕ → List ℕ → Run
recorded reads j bs counts = turns_run reads j (written bs j.input.address counts)
