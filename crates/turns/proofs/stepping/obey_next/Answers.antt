use Rattle.std.proofs.Common.{◌≡◌, Ok, Err, Result, refl, sym, ap, ◌∙◌, rules}
use Rattle.access.specs.Access.{Viewed, sight, sight_of}
use Rattle.access.specs.declared.stop.Cause.{Cause}
use Rattle.book.specs.Readings.{reading}
use Rattle.machine.specs.Act.{Effect, ending, perform, settled}
use Rattle.turns.specs.Step.{planned, step_end, stopped}
use Rattle.turns.proofs.Settling.{met, went}
use Rattle.turns.proofs.stepping.obey_next.Goals as goal

pub returns : goal.returns
returns g c =
    let reads = reading c.args.book.now.tables in
    let r = c.args.registers.now in
    let bs = g.S.Store.bytes c.args.store.now in
    let r' = c.obey_word-res.new.registers in
    let q : Result Effect Cause = perform (sight c.args.reach.now bs) (planned reads r) in
    let done : ending c.obey_word-res.result r' ≡ settled r q = c.obey_word-res.ensures ∙ ap (λ (v : Viewed). settled r (perform (sight_of v) (planned reads r))) c.new.ensures in
    record {
      is = went r r' bs c.obey_word-res.result q c.in_ok-at_address.field-0 _ done (sym c.in_ok-at_address.was ∙ c.at_address.ensures) c.commit.ensures.bytes;
      footing = c.commit.ensures.footing;
    }

pub returns-in_err-at_address : goal.returns-in_err-at_address
returns-in_err-at_address g c =
    let reads = reading c.args.book.now.tables in
    let r = c.args.registers.now in
    let bs = g.S.Store.bytes c.args.store.now in
    let r' = c.obey_word-res.new.registers in
    let q : Result Effect Cause = perform (sight c.args.reach.now bs) (planned reads r) in
    let done : ending c.obey_word-res.result r' ≡ settled r q = c.obey_word-res.ensures ∙ ap (λ (v : Viewed). settled r (perform (sight_of v) (planned reads r))) c.new.ensures in
    let t = c.in_err-at_address.field-0.0 in
    let up : c.from_residual.result ≡ Err t = search rules in
    record {
      is = ap (λ a. step_end a r' bs) up ∙ met r r' bs c.obey_word-res.result q t done (sym c.in_err-at_address.was ∙ c.at_address.ensures);
      footing = refl;
    }
