use Rattle.std.proofs.Common.{ap, subst, ◌∙◌}
use Rattle.bays.specs.declared.stage.Stage.TheVariants as stage
use Rattle.history.specs.Calls.{call, seal, shared}
use Rattle.history.specs.Hall.{CallEnd, Hall, apply}
use Rattle.session.specs.Serve.{Fits}
use Rattle.session.proofs.Stages.{carried, sealed}
use Rattle.session.proofs.acting.seal_in.Goals as goal

pub returns-in-Ok-clause-fits : goal.returns-in-Ok-clause-fits
returns-in-Ok-clause-fits g c =
    let H : Hall = c.args.hall.now in
    let n = c.args.number in
    let f = subst (λ s. Fits H.bays n s) c.in-Preparing.is c.requires in
    let e = c.in-Ok.ensures in
    (e.named ∙ f.0, carried (λ i. (apply (call i stage.Preparing (shared seal)) H).hall) _ _ n _ f.0 (ap (λ (t : CallEnd). t.hall) e.is) (sealed n H f.1))
