use Rattle.std.proofs.Common.{◌≡◌, ◌-◌, vec_items}
use Rattle.std.specs.Prelude.{replicate}
use Rattle.history.specs.Calls.{own, turn}
use Rattle.recover.specs.Runs.{asked_all, noting}
use Rattle.recover.proofs.record.take_turns.Given as goal

abbrev pub invariant-loop : goal.invariant-loop
invariant-loop g l =
    asked_all (replicate (l.end - l.counter) (l.bay, own (turn l.fn.turns.budget))) (noting l.ran (vec_items l.results)) l.session
    ≡ asked_all (replicate l.end (l.bay, own (turn l.fn.turns.budget))) (noting l.initial.ran (vec_items l.initial.results)) l.initial.session
