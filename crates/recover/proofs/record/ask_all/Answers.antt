use Rattle.std.proofs.Common.{◌≡◌, ◌*◌, ◌++◌, ℕ, List, [], ◌∷◌, ap, ◌∙◌, vec_items, rules}
use Rattle.std.specs.Prelude.{replicate}
use Rattle.history.specs.Calls.{Act, copy, load, look, own, set_all, turn}
use Rattle.recover.proofs.Runs.{parts}
use Rattle.recover.specs.Records.{asked}
use Rattle.recover.specs.Runs.{asked_all, begun, noting}
use Rattle.recover.proofs.record.ask_all.Goals as goal

pub returns : goal.returns
returns g c =
    let j = c.args.job.now in
    let n : ℕ = j.number in
    let qs : List (ℕ × Act) = replicate j.turns.count (n, own (turn j.turns.budget)) in
    let m = begun j.registers (vec_items c.args.results.now) in
    let k : ℕ = c.bytes.result in
    parts (n, own (load j.input.address (vec_items c.in_ok-held.held))) (n, own (set_all j.registers)) (n, own look) (n, own (copy j.output.address k)) qs m _ _ _ _ _ c.args.session.now _ _ _ _ _ c.in_ok-ask.ensures c.in_ok-ask-2.ensures c.in_ok-take_all_turns.ensures c.in_ok-ask-3.ensures c.in_ok-ask-4.ensures
    ∙ ap (λ (b : List ℕ). asked_all ((n, own (load j.input.address b)) ∷ (n, own (set_all j.registers)) ∷ (qs ++ ((n, own look) ∷ (n, own (copy j.output.address k)) ∷ []))) m c.args.session.now) {x = vec_items c.in_ok-held.held} (search rules)
    ∙ ap (λ (i : ℕ). asked_all ((n, own (load j.input.address c.args.counts.now)) ∷ (n, own (set_all j.registers)) ∷ (qs ++ ((n, own look) ∷ (n, own (copy j.output.address i)) ∷ []))) m c.args.session.now) c.bytes.ensures
