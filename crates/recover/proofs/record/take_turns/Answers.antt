use Rattle.std.proofs.Common.{◌≡◌, ◌+◌, ◌-◌, ℕ, suc, ap, subst, sym, ◌∙◌, vec_items, arith, rules}
use Rattle.std.specs.Prelude.{replicate}
use Rattle.history.specs.Calls.{own, turn}
use Rattle.history.specs.Hall.{Hall}
use Rattle.recover.proofs.Standing.{stop_here, turn_on}
use Rattle.recover.specs.Runs.{asked_all, noting}
use Rattle.session.specs.Serve.{Made, said, serve}
use Rattle.recover.proofs.record.take_turns.Goals as goal

pub loop-init : goal.loop-init
loop-init g c =
    let z : c.args.turns.count - 0 ≡ c.args.turns.count = omega arith in
    ap (λ (k : ℕ). asked_all (replicate k (c.args.bay, own (turn c.args.turns.budget))) (noting c.args.ran.now (vec_items c.args.results.now)) c.args.session.now) z

pub returns-then-is_stopped : goal.returns-then-is_stopped
returns-then-is_stopped g c =
    let n : ℕ = c.args.bay in
    let b : ℕ = c.args.turns.budget in
    let H : Hall = c.loop.session in
    let K : Hall = c.serve.new.self in
    let t : ℕ = c.args.turns.count - (c.loop.counter + 1) in
    let k : ℕ = c.args.turns.count - c.loop.counter in
    let d : k ≡ suc t = let x = c.loop-test.true in omega arith in
    let e = subst (λ r. Made r H K (serve n (own (turn b)) H)) c.in_ok-reply.was c.serve.ensures in
    stop_here n b t k (noting c.loop.ran (vec_items c.loop.results)) (noting c.note.new.ran (vec_items c.note.new.results)) (said c.in_ok-reply.reply) H K d e c.in_ok-note.ensures (search rules) ∙ c.loop.invariant

pub loop-preserved : goal.loop-preserved
loop-preserved g c =
    let n : ℕ = c.args.bay in
    let b : ℕ = c.args.turns.budget in
    let H : Hall = c.loop.session in
    let K : Hall = c.serve.new.self in
    let t : ℕ = c.args.turns.count - (c.loop.counter + 1) in
    let k : ℕ = c.args.turns.count - c.loop.counter in
    let d : k ≡ suc t = let x = c.loop-test.true in omega arith in
    let e = subst (λ r. Made r H K (serve n (own (turn b)) H)) c.in_ok-reply.was c.serve.ensures in
    turn_on n b t k (noting c.loop.ran (vec_items c.loop.results)) (noting c.note.new.ran (vec_items c.note.new.results)) (said c.in_ok-reply.reply) H K d e c.in_ok-note.ensures ∙ c.loop.invariant

pub returns : goal.returns
returns g c =
    let z : c.args.turns.count - c.loop.counter ≡ 0 = let x = c.loop-test.false in omega arith in
    sym (ap (λ (k : ℕ). asked_all (replicate k (c.args.bay, own (turn c.args.turns.budget))) (noting c.loop.ran (vec_items c.loop.results)) c.loop.session) z) ∙ c.loop.invariant
