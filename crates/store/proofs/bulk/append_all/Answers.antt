use Rattle.std.proofs.Common.{◌≡◌, ℕ, suc, ◌+◌, List, [], ◌∷◌, vec_items, append_assoc, arith, ◌∙◌}
use Rattle.std.specs.Prelude.{Ok, Err, OnErr, Result}
use Rattle.store.specs.Bulk.{StopsShort, taken}
use Rattle.store.proofs.Taken.{taken_more}
use Rattle.store.proofs.bulk.append_all.Goals as goal

pub loop-preserved : goal.loop-preserved
loop-preserved g c =
    let bs : List ℕ = g.S.Store.bytes c.args.store.now in
    let e = c.in_ok-push.ensures.items in
    let v = c.read.ensures in
    let i = c.loop.invariant.0 in
    let more = taken_more bs c.args.address c.loop.counter c.loop.from c.ranges.address.fits c.loop.invariant.1 in
    let a = append_assoc (vec_items c.args.out.now) (taken bs c.args.address c.loop.counter) (c.read.result ∷ []) in
    let next : c.loop.counter + 1 ≡ suc c.loop.counter = omega arith in
    (rw next (cc), omega arith)

pub returns-in_err-push-clause-err : goal.returns-in_err-push-clause-err
returns-in_err-push-clause-err g c =
    let stopped : StopsShort c.args.out.now.items c.push.new.self.items (g.S.Store.bytes c.args.store.now) c.args.address c.args.length
    = record { count = c.loop.counter; fewer = omega arith; items = c.in_err-push.ensures.items ∙ c.loop.invariant.0 } in
    err_given c.from_residual.result stopped
  where
    err_given : {T E P : Type 0} (r : Result T E) → P → OnErr r P
    err_given (Ok v) p = tt
    err_given (Err e) p = p
