use Rattle.std.proofs.Common.{sym, ap, subst, ◌∙◌}
use Rattle.access.specs.Stops.{told_of}
use Rattle.access.specs.declared.rights.Rights.{Rights}
use Rattle.book.specs.Readings.{reading}
use Rattle.turns.specs.Laws.{Only, operand_granted}
use Rattle.turns.specs.Step.{StepEnd, step_of}
use Rattle.turns.proofs.Frame.{step_writes}
use Rattle.turns.proofs.Local.{local}
use Rattle.turns.proofs.Operands.{operands_by_name}
use Rattle.turns.proofs.Stopping.{unaltered}
use Rattle.turns.proofs.stepping.step.Goals as goal

pub returns : goal.returns
returns g c =
    let reads = reading c.args.book.now.tables in
    let rights = c.args.rights.now in
    let r = c.args.registers.now in
    let bs = g.S.Store.bytes c.args.store.now in
    let is = c.obey_next.ensures.is ∙ ap (λ (a : Rights). step_of reads a r bs) c.new.ensures in
    record {
      is = is;
      numbers = ap (λ (e : StepEnd). told_of e.answer) is;
      footing = c.obey_next.ensures.footing;
      stop_alters_nothing = unaltered _ _ _ _ _ _ is;
      writes_its_operand = subst (Only (operand_granted reads rights r bs) bs) (sym (ap (λ (e : StepEnd). e.bytes) is)) (step_writes reads rights bs r);
      reads_granted_bytes = local;
      operands_by_name = operands_by_name;
    }
