use Rattle.std.proofs.Common.{◌<◌, sym, ◌∙◌, arith}
use Rattle.book.specs.Readings.{reading}
use Rattle.job.proofs.Rest.{goes_on, one_more, stops}
use Rattle.job.proofs.run.run_some.Goals as goal

pub returns-then-is_some-clause-is : goal.returns-then-is_some-clause-is
returns-then-is_some-clause-is g c =
    let h : c.loop-k._k < c.args.count = omega arith in
    rw c.from.ensures (stops (reading c.args.book.now.tables) c.args.job.now.rights _ c.args.budget _ (one_more c.args.count c.loop-k._k c.args.budget h) c.loop-k.ran.registers c.turn-turned.new.registers (g.S.Store.bytes c.loop-k.store) (g.S.Store.bytes c.turn-turned.new.store) c.turn-turned.result c.turn-turned.ensures.is c.loop-k.ran.steps (sym c.if-is_some.ensures) ∙ c.loop-k.invariant.0)

pub loop-k-preserved : goal.loop-k-preserved
loop-k-preserved g c =
    let h : c.loop-k._k < c.args.count = omega arith in (
      rw c.from.ensures (goes_on (reading c.args.book.now.tables) c.args.job.now.rights _ c.args.budget _ (one_more c.args.count c.loop-k._k c.args.budget h) c.loop-k.ran.registers c.turn-turned.new.registers (g.S.Store.bytes c.loop-k.store) (g.S.Store.bytes c.turn-turned.new.store) c.turn-turned.result c.turn-turned.ensures.is c.loop-k.ran.steps (sym c.if-is_some.ensures) ∙ c.loop-k.invariant.0),
      omega (arith, c.loop-k.invariant.1),
      c.loop-k.invariant.2,
    )
