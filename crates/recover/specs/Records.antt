-- What is asked of a hall for a record of a job.
use Rattle.std.specs.Prelude.{ℕ, ◌*◌, ◌++◌, List, [], ◌∷◌, replicate}
use Rattle.history.specs.Calls.{Act, copy, load, look, own, set_all, turn}
use Rattle.job.specs.declared.job.Job.{Job}
use Rattle.session.specs.Serve.{act_of}
use Rattle.session.specs.declared.request.Request.{Request}

-- a request by its bay and the call that it asks for
abbrev pub asked : Request → ℕ × Act
asked q = (q.bay, act_of q.deed)

-- the record is loaded, all registers are set, the job's turns are taken, and what they left is looked at and
-- copied
abbrev pub record_asks : Job → List ℕ → List (ℕ × Act)
record_asks j counts =
    (j.number, own (load j.input.address counts))
    ∷ (j.number, own (set_all j.registers))
    ∷ (replicate j.turns.count (j.number, own (turn j.turns.budget))
    ++ ((j.number, own look)
    ∷ (j.number, own (copy j.output.address (2 * j.output.halfwords))) ∷ []))
