use Rattle.std.proofs.Common.{ap, subst}
use Rattle.bays.specs.declared.stage.Stage.TheVariants as stage
use Rattle.history.specs.Calls.{call, close, shared}
use Rattle.history.specs.Hall.{CallEnd, Hall, apply}
use Rattle.session.specs.Serve.{Fits}
use Rattle.session.proofs.Stages.{carried, closed}
use Rattle.session.proofs.acting.close_in.Goals as goal

pub returns-in-Ok-clause-fits : goal.returns-in-Ok-clause-fits
returns-in-Ok-clause-fits g c =
    let H : Hall = c.args.hall.now in
    let n = c.args.number in
    let f = subst (λ s. Fits H.bays n s) c.in-Preparing.is c.requires in
    carried (λ i. (apply (call i stage.Preparing (shared close)) H).hall) _ _ n _ f.0 (ap (λ (e : CallEnd). e.hall) c.in-Ok.ensures.is) (closed n stage.Preparing H f.1)

pub returns-in-Ok-close-clause-fits : goal.returns-in-Ok-close-clause-fits
returns-in-Ok-close-clause-fits g c =
    let H : Hall = c.args.hall.now in
    let n = c.args.number in
    let f = subst (λ s. Fits H.bays n s) c.in-Sealed.is c.requires in
    carried (λ i. (apply (call i stage.Sealed (shared close)) H).hall) _ _ n _ f.0 (ap (λ (e : CallEnd). e.hall) c.in-Ok-close.ensures.is) (closed n stage.Sealed H f.1)
