use Rattle.std.proofs.Common.{◌≡◌, ◌-◌, ◌*◌, ◌≤◌, None}
use Rattle.book.specs.Readings.{reading}
use Rattle.turns.specs.Laws.{later}
use Rattle.turns.specs.Turn.{run}
use Rattle.job.proofs.run.run_some.Given as goal

-- the steps done and the turns that are left make up the whole run
abbrev pub invariant-loop-k : goal.invariant-loop-k
invariant-loop-k g l = (later l.ran.steps (run (reading l.book.tables) l.job.rights ((l.count - l._k) * l.budget) 0 l.ran.registers (g.S.Store.bytes l.store)) ≡ run (reading l.book.tables) l.job.rights (l.count * l.budget) 0 l.job.registers (g.S.Store.bytes l.initial.store)) × (l.ran.steps ≤ 65535 * l._k) × (l.ran.stop ≡ None)
