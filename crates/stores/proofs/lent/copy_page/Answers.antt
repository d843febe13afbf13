use Rattle.std.proofs.Common.{◌≡◌, ℕ, ◌+◌, ◌-◌, ◌*◌, ◌++◌, take, drop, ap, ◌∙◌, arith}
use Rattle.std.proofs.lemmas.List.{drop-drop}
use Rattle.stores.proofs.lent.copy_page.Goals as goal

pub returns-clause-copied : goal.returns-clause-copied
returns-clause-copied c =
    let p : ℕ = c.args.page * 1024 in
    let k : p + 1024 - p ≡ 1024 = omega arith in
    let page = c.copy_from_slice.ensures.after ∙ ap (λ (n : ℕ). take n (drop p c.args.from.now)) k in
    let rest = ap (λ (n : ℕ). drop n (drop p c.args.to.now)) k ∙ drop-drop 1024 p c.args.to.now in
    λ i. take p c.args.to.now ++ (page i ++ rest i)
