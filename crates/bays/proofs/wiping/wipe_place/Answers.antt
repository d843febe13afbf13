use Rattle.std.proofs.Common.{[], ◌∷◌, Option, sym, ap, ◌∙◌}
use Rattle.access.specs.declared.rights.Grant.{Grant}
use Rattle.bays.specs.Bays.{wiped}
use Rattle.bays.proofs.Bytes.{wiped_none}
use Rattle.bays.proofs.wiping.wipe_place.Goals as goal

pub returns-in_default-clause-bytes : goal.returns-in_default-clause-bytes
returns-in_default-clause-bytes g c =
    let bs = g.S.Store.bytes c.args.store.now in
    sym (wiped_none 0 bs) ∙ ap (λ (p : Option Grant). wiped (p ∷ []) 0 bs) (sym c.in_default.is)
