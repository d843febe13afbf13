use Rattle.std.proofs.Common.{◌≡◌, ◌+◌, ◌-◌, ◌*◌, ◌/◌, ◌%◌, ℕ, suc, ap, sym, ◌∙◌, vec_items, arith}
use Rattle.std.proofs.lemmas.Nat.{div-add-mod'}
use Rattle.std.specs.Prelude.{replicate}
use Rattle.history.specs.Calls.{own, turn}
use Rattle.recover.proofs.Together.{same_steps}
use Rattle.recover.specs.Runs.{asked_all, noting}
use Rattle.recover.proofs.record.take_all_turns.Goals as goal

pub returns : goal.returns
returns g c =
    let j = c.args.job.now in
    let n : ℕ = j.number in
    let w : ℕ = c.from.result * c.from-2.result in
    let k : ℕ = j.turns.count - 1 in
    let s : j.turns.count ≡ suc k = let x = c.if-job-eq0.false in omega arith in
    let d : w / 65535 * 65535 + w % 65535 ≡ suc k * j.turns.budget = div-add-mod' w 65535 ∙ (λ i. c.from.ensures i * c.from-2.ensures i) ∙ ap (λ (i : ℕ). i * j.turns.budget) s in
    same_steps n 65535 (w % 65535) (w / 65535) j.turns.budget k _ _ _ _ _ _ d c.in_ok-take_turns.ensures c.in_ok-ask.ensures
    ∙ ap (λ (i : ℕ). asked_all (replicate i (n, own (turn j.turns.budget))) (noting c.args.ran.now (vec_items c.args.results.now)) c.args.session.now) (sym s)
