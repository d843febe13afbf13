use Rattle.std.proofs.Common.{◌≡◌, ◌-◌}
use Rattle.book.specs.Readings.{reading}
use Rattle.turns.specs.Turn.{run}
use Rattle.turns.proofs.turning.run_steps.Given as goal

-- what is left to do from here is all of it from the start
abbrev pub invariant-loop-steps : goal.invariant-loop-steps
invariant-loop-steps g l =
    (run (reading l.book.tables) l.reach (l.budget - l.steps) l.steps l.registers (g.S.Store.bytes l.store) ≡ run (reading l.book.tables) l.reach l.budget 0 l.initial.registers (g.S.Store.bytes l.initial.store))
    × (g.S.Store.footing l.store ≡ g.S.Store.footing l.initial.store)
