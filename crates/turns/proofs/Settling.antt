-- What a step comes to, told by what its instruction answered and left.
use Rattle.std.proofs.Common.{◌≡◌, ℕ, List, Ok, Err, Option, Result, refl, ap, ◌∙◌}
use Rattle.access.specs.declared.stop.Cause.{Cause}
use Rattle.access.specs.declared.stop.Stop.{Stop}
use Rattle.machine.specs.Act.{Effect, Ending, ending, settled}
use Rattle.machine.specs.declared.pending.Pending.{Pending}
use Rattle.machine.specs.declared.registers.Registers.{Registers}
use Rattle.turns.specs.Step.{committed, end_of, step_end, stopped}

-- r' and a are what the instruction left and answered; the address of a stop is read after it, when S is as it was
module _ (r r' : Registers) (bs : List ℕ) (a : Result (Option Pending) Cause) where
  pub went : (q : Result Effect Cause) (p : Option Pending) (bs' : List ℕ) → ending a r' ≡ settled r q → Ok p ≡ stopped r'.s a → bs' ≡ committed bs p → step_end (Ok tt) r' bs' ≡ end_of r bs (stopped r.s q)
  went (Ok e) p bs' h k b =
      let z : p ≡ e.pending = let g = ap (λ (w : Ending). stopped r'.s w.answer) h in cc in
      let g = ap (λ (w : Ending). w.registers) h in
      let y = b ∙ ap (committed bs) z in
      cc
  went (Err c) p bs' h k b = let g = ap (λ (w : Ending). stopped r'.s w.answer) h in cc

  pub met : (q : Result Effect Cause) (t : Stop) → ending a r' ≡ settled r q → Err t ≡ stopped r'.s a → step_end (Err t) r' bs ≡ end_of r bs (stopped r.s q)
  met (Ok e) t h k = let g = ap (λ (w : Ending). stopped r'.s w.answer) h in cc
  met (Err c) t h k =
      let e : r' ≡ r = ap (λ (w : Ending). w.registers) h in
      let g = ap (λ (w : Ending). stopped r'.s w.answer) h in
      let z : t ≡ record { cause = c; address = r'.s } = cc in
      let y : t ≡ record { cause = c; address = r.s } = z ∙ ap (λ (v : Registers). record { cause = c; address = v.s }) e in
      cc
