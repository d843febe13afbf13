use Rattle.std.proofs.Common.{◌∙◌, ap, nat_abs, Some, ℤ, pos, rules, w32}
use Rattle.std.specs.Int.{int_rem_euclid}
use Rattle.std.proofs.lemmas.Int.{to_z-of_z}
use Rattle.listing.proofs.Halves.{half_by}
use Rattle.listing.specs.Numbers.{after_minus}
use Rattle.listing.proofs.number.half.Goals as goal

pub returns : goal.returns
returns c =
    let z : ℤ = c.in_ok-integer.field-0 in
    let r : ℤ = c.rem_euclid.result in
    let w = c.in_ok-integer.ensures.within in
    let a = to_z-of_z w32 z (search rules) in
    let b = to_z-of_z w32 r (search rules) in
    ap (λ v. Some (nat_abs v)) b ∙ half_by (after_minus c.args.s.now) c.args.s.now z r c.in_ok-integer.ensures.is w.0 w.1 (c.rem_euclid.ensures.value ∙ ap (λ v. int_rem_euclid v (pos 65536)) a)
