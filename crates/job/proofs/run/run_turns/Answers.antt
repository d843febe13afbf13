use Rattle.std.proofs.Common.{◌≡◌, ◌*◌, ap, sym, ◌∙◌}
use Rattle.book.specs.Readings.{reading}
use Rattle.turns.specs.Laws.{later}
use Rattle.job.proofs.Rest.{stopped, went_on, whole_and_rest}
use Rattle.job.proofs.run.run_turns.Goals as goal

pub returns-then-is_some : goal.returns-then-is_some
returns-then-is_some g c =
    let e : c.from.result * c.from-2.result ≡ c.args.job.now.turns.count * c.args.job.now.turns.budget = cc in
    stopped (reading c.args.book.now.tables) c.args.job.now.rights _ _ _ (whole_and_rest _ _ 65535 e) c.args.job.now.registers c.run_some-ran.result.registers (g.S.Store.bytes c.args.store.now) (g.S.Store.bytes c.run_some-ran.new.store) (record { steps = c.run_some-ran.result.steps; stop = c.run_some-ran.result.stop }) c.run_some-ran.ensures.is (sym c.if-is_some.ensures)

pub returns : goal.returns
returns g c =
    let e : c.from.result * c.from-2.result ≡ c.args.job.now.turns.count * c.args.job.now.turns.budget = cc in
    rw c.from-3.ensures (
    ap (later c.run_some-ran.result.steps) c.turn-last.ensures.is
    ∙ went_on (reading c.args.book.now.tables) c.args.job.now.rights _ _ _ (whole_and_rest _ _ 65535 e) c.args.job.now.registers c.run_some-ran.result.registers (g.S.Store.bytes c.args.store.now) (g.S.Store.bytes c.run_some-ran.new.store) (record { steps = c.run_some-ran.result.steps; stop = c.run_some-ran.result.stop }) c.run_some-ran.ensures.is (sym c.if-is_some.ensures)
    )
