use Rattle.session.proofs.Stages.{opens}
use Rattle.std.proofs.Common.{ap}
use Rattle.history.specs.Hall.{CallEnd}
use Rattle.session.proofs.acting.open_in.Goals as goal

pub returns-in-Ok-clause-fits : goal.returns-in-Ok-clause-fits
returns-in-Ok-clause-fits g c =
    let e = c.in-Ok.ensures in
    (e.named, opens c.args.number c.args.hall.now _ (ap (λ (t : CallEnd). t.hall) e.is) e.eight (ap (λ (t : CallEnd). t.answer) e.is))
