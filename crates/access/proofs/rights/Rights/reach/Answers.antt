use Rattle.std.proofs.Common.{◌≡◌, ◌+◌, ◌-◌, ◌&&◌, true, nat_le, rules, refl, sym, ap, ◌∙◌, arith}
use borrow.Author.Tests.{tests}
use Rattle.std.proofs.lemmas.Bool.Decides.{nat_tests}
use Rattle.std.proofs.lemmas.Iterator.{YieldsList-from_range}
use Rattle.std.proofs.lemmas.Iterator.Search.{all_from_yields_List}
use Rattle.access.specs.Access.{allows, allows_all, within}
use Rattle.access.proofs.Grants.{all_allowed}
use Rattle.access.proofs.Spans.{spans_all}
use Rattle.access.proofs.rights.Rights.reach.Goals as goal

pub returns : goal.returns
returns c =
    let first = c.from-first.result in
    let fits : nat_le (first + c.args.length) 65536 ≡ true = grind (arith, nat_tests) in
    all_from_yields_List (allows c.args.self.now c.args.purpose) _ _ _ c.all.ensures.ran (YieldsList-from_range first (first + c.args.length) c.args.length refl (omega arith)) (λ x b q k. search (rules, tests))
    ∙ all_allowed c.args.self.now c.args.purpose first c.args.length
    ∙ sym (ap (λ b. b && allows_all c.args.self.now c.args.purpose first c.args.length) fits)
    ∙ ap (λ a. within c.args.self.now c.args.purpose a c.args.length) c.from-first.ensures

pub returns-then-spans : goal.returns-then-spans
returns-then-spans c =
    let last = c.from-first.result + c.args.length - 1 in
    let z = c.from-first.ensures in
    let r = c.ranges.address.fits in
    sym (spans_all c.args.self.now c.args.purpose c.args.address c.args.length last (omega arith) (omega arith) (sym c.if-spans.ensures))
