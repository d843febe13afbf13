use Rattle.std.proofs.Common.{ap, subst, ◌∙◌}
use Rattle.bays.specs.declared.stage.Stage.TheVariants as stage
use Rattle.history.specs.Calls.{call, own, set_all}
use Rattle.history.specs.Hall.{CallEnd, Hall, apply}
use Rattle.session.specs.Serve.{Fits}
use Rattle.session.proofs.Stages.{carried, own_keeps}
use Rattle.session.proofs.acting.set_in.Goals as goal

pub returns-in-Preparing-clause-fits : goal.returns-in-Preparing-clause-fits
returns-in-Preparing-clause-fits g c =
    let H : Hall = c.args.hall.now in
    let n = c.args.number in
    let f = subst (λ s. Fits H.bays n s) c.in-Preparing.is c.requires in
    (f.0, carried (λ i. (apply (call i stage.Preparing (own (set_all c.args.registers))) H).hall) _ _ n _ f.0 (ap (λ (e : CallEnd). e.hall) c.set-result.ensures) (own_keeps n stage.Preparing (set_all c.args.registers) H n ∙ f.1))

pub returns-in-Sealed-clause-fits : goal.returns-in-Sealed-clause-fits
returns-in-Sealed-clause-fits g c =
    let H : Hall = c.args.hall.now in
    let n = c.args.number in
    let f = subst (λ s. Fits H.bays n s) c.in-Sealed.is c.requires in
    (f.0, carried (λ i. (apply (call i stage.Sealed (own (set_all c.args.registers))) H).hall) _ _ n _ f.0 (ap (λ (e : CallEnd). e.hall) c.set-result-in-Sealed.ensures) (own_keeps n stage.Sealed (set_all c.args.registers) H n ∙ f.1))
