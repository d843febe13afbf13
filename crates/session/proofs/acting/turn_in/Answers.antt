use Rattle.std.proofs.Common.{ap, subst, ◌∙◌}
use Rattle.bays.specs.declared.stage.Stage.TheVariants as stage
use Rattle.history.specs.Calls.{call, own, turn}
use Rattle.history.specs.Hall.{CallEnd, Hall, apply}
use Rattle.session.specs.Serve.{Fits}
use Rattle.session.proofs.Stages.{carried, own_keeps}
use Rattle.session.proofs.acting.turn_in.Goals as goal

pub returns-after-turn-clause-fits : goal.returns-after-turn-clause-fits
returns-after-turn-clause-fits g c =
    let H : Hall = c.args.hall.now in
    let n = c.args.number in
    let f = subst (λ s. Fits H.bays n s) c.in-Sealed.is c.requires in
    (f.0, carried (λ i. (apply (call i stage.Sealed (own (turn c.args.budget))) H).hall) _ _ n _ f.0 (ap (λ (e : CallEnd). e.hall) c.turn.ensures) (own_keeps n stage.Sealed (turn c.args.budget) H n ∙ f.1))
