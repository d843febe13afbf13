use Rattle.std.proofs.Common.{ap, ◌∙◌}
use Rattle.session.proofs.Fitting.{emptied, let_go}
use Rattle.session.proofs.Stages.{stage_of}
use Rattle.session.specs.Serve.{RequestEnd}
use Rattle.session.proofs.closing.release.Goals as goal

pub discard-requires : goal.discard-requires
discard-requires g c =
    let n = c.args.number in
    emptied _ n _ c.close_in-slot.ensures.fits (ap (λ (e : RequestEnd). stage_of e.hall.bays n) c.close_in-slot.ensures.is ∙ let_go n c.args.hall.now)
