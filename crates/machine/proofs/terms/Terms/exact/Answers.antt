use Rattle.std.proofs.Common.{◌≡◌, pos, ◌+ℤ◌, ◌*ℤ◌, ◌∙◌, rules, w64, to_z, of_z}
use Rattle.std.proofs.lemmas.Int.{to_z-of_z}
use Rattle.word.proofs.Exact.{kept, product_fits}
use Rattle.machine.proofs.terms.Terms.exact.Goals as goal

pub returns : goal.returns
returns c =
    let x = c.signed.ensures in
    let start : to_z w64 (of_z w64 c.from-start.result) ≡ pos c.args.self.start = to_z-of_z w64 _ (search rules) ∙ c.from-start.ensures in
    let offset = kept (◌*ℤ◌) c.signed.result c.from.result x.within (search rules) (product_fits _ _ x.within (search rules)) ∙ (λ i. x.is i *ℤ c.from.ensures i) in
    to_z-of_z w64 _ (search rules) ∙ (λ i. start i +ℤ offset i)
