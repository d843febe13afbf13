use Rattle.std.proofs.Common.{◌≡◌, ℕ, suc, ◌+◌, ◌-◌, ◌<◌, Err, sym, ap, ◌∙◌, arith, rules}
use Rattle.book.specs.Readings.{reading}
use Rattle.turns.specs.Turn.{run_end, turned_by}
use Rattle.turns.proofs.Turns.{goes_on, goes_up}
use Rattle.turns.proofs.turning.run_steps.Goals as goal

pub returns-in_err-after_steps-clause-is : goal.returns-in_err-after_steps-clause-is
returns-in_err-after_steps-clause-is g c =
    let d : 0 < c.args.budget - c.loop-steps.steps = omega arith in
    let t = c.in_err-after_steps.field-0.0 in
    let up : c.from_residual.result ≡ Err t = search rules in
    ap (λ a. run_end c.obey_next.new.registers (g.S.Store.bytes c.obey_next.new.store) (turned_by c.args.budget a)) up
    ∙ sym (goes_up (reading c.args.book.now.tables) c.args.reach.now c.loop-steps.registers _ _ _ _ c.loop-steps.steps c.obey_next.result t d c.obey_next.ensures.is (sym c.in_err-after_steps.was ∙ c.after_steps.ensures))
    ∙ c.loop-steps.invariant.0

pub loop-steps-preserved : goal.loop-steps-preserved
loop-steps-preserved g c =
    let n : ℕ = c.args.budget - (c.loop-steps.steps + 1) in
    let d : c.args.budget - c.loop-steps.steps ≡ suc n = omega arith in (
      sym (goes_on (reading c.args.book.now.tables) c.args.reach.now c.loop-steps.registers _ _ _ n c.loop-steps.steps c.obey_next.result _ c.obey_next.ensures.is (sym c.in_ok-after_steps.was ∙ c.after_steps.ensures)) ∙ rw d at c.loop-steps.invariant.0,
      c.obey_next.ensures.footing ∙ c.loop-steps.invariant.1,
    )

pub returns : goal.returns
returns g c =
    let d : c.args.budget - c.loop-steps.steps ≡ 0 = omega arith in
    let k : c.loop-steps.steps ≡ c.args.budget = omega arith in
    let i = rw d at c.loop-steps.invariant.0 in
    record { is = cc; footing = c.loop-steps.invariant.1 }
