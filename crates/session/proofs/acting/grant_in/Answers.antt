use Rattle.std.proofs.Common.{ap, subst}
use Rattle.bays.specs.declared.stage.Stage.TheVariants as stage
use Rattle.history.specs.Calls.{call, grant, shared}
use Rattle.history.specs.Hall.{CallEnd, Hall, apply}
use Rattle.session.specs.Serve.{Fits}
use Rattle.session.proofs.Stages.{carried, grant_keeps}
use Rattle.session.proofs.acting.grant_in.Goals as goal

pub returns-in-Preparing-clause-fits : goal.returns-in-Preparing-clause-fits
returns-in-Preparing-clause-fits g c =
    let H : Hall = c.args.hall.now in
    let n = c.args.number in
    let f = subst (λ s. Fits H.bays n s) c.in-Preparing.is c.requires in
    (f.0, carried (λ i. (apply (call i stage.Preparing (shared (grant c.args.grant))) H).hall) _ _ n _ f.0 (ap (λ (e : CallEnd). e.hall) c.grant-result.ensures) (grant_keeps n c.args.grant H f.1))
