use Rattle.std.proofs.Common.{◌-ℤ◌, ◌∙◌}
use Rattle.word.proofs.Exact.{kept, difference_fits}
use Rattle.word.proofs.arithmetic.exact_difference.Goals as goal

pub returns : goal.returns
returns g c =
    let x = c.signed.ensures in
    let y = c.signed-2.ensures in
    kept (◌-ℤ◌) _ _ x.within y.within (difference_fits _ _ x.within y.within) ∙ (λ i. x.is i -ℤ y.is i)
