use Rattle.std.proofs.Common.{[], ◌∷◌, ap, refl, ◌∙◌}
use Rattle.bays.specs.Bays.{bay_at}
use Rattle.history.specs.Hall.{Hall}
use Rattle.session.specs.Serve.{all_fit, fits_from}
use Rattle.session.specs.declared.slot.Slot.TheVariants.{Empty}
use Rattle.session.proofs.session.Session.new.Goals as goal

pub invariant_of-result : goal.invariant_of-result
unfolding bay_at fits_from
invariant_of-result g c = ap (λ (H : Hall). all_fit H.bays (Empty ∷ Empty ∷ Empty ∷ Empty ∷ Empty ∷ Empty ∷ Empty ∷ Empty ∷ [])) c.new.ensures.made ∙ refl
