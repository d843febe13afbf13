-- A stop alters nothing.
use Rattle.std.proofs.Common.{◌≡◌, ℕ, List, Ok, Err, Result, sym, ap, subst}
use Rattle.access.specs.declared.stop.Stop.{Stop}
use Rattle.machine.specs.Act.{Effect}
use Rattle.machine.specs.declared.registers.Registers.{Registers}
use Rattle.turns.specs.Laws.{Unaltered}
use Rattle.turns.specs.Step.{StepEnd, end_of, step_end}

pub unaltered : (o : Result Effect Stop) (q : Result (Unit {0}) Stop) (r r' : Registers) (bs bs' : List ℕ) → step_end q r' bs' ≡ end_of r bs o → Unaltered q r r' bs bs'
unaltered (Ok e) q r r' bs bs' h = subst (λ v. Unaltered v r r' bs bs') (sym (ap (λ (w : StepEnd). w.answer) h)) tt
unaltered (Err t) q r r' bs bs' h = subst (λ v. Unaltered v r r' bs bs') (sym (ap (λ (w : StepEnd). w.answer) h)) (ap (λ (w : StepEnd). w.registers) h, ap (λ (w : StepEnd). w.bytes) h)
