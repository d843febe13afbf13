-- The first step of a turn.
use Rattle.std.proofs.Common.{◌≡◌, ℕ, zero, suc, ◌+◌, ◌<◌, List, Ok, Err, Result, ap, ◌∙◌, arith}
use Rattle.isa.specs.declared.reading.Reading.{Reading}
use Rattle.access.specs.Access.{sight}
use Rattle.access.specs.declared.rights.Rights.{Rights}
use Rattle.access.specs.declared.stop.Stop.{Stop}
use Rattle.machine.specs.Act.{Effect}
use Rattle.machine.specs.declared.registers.Registers.{Registers}
use Rattle.turns.specs.Step.{StepEnd, committed, end_of, step_end, stepped}
use Rattle.turns.specs.Turn.{Run, met_after, run, run_end, stopped_after}
use Rattle.turns.specs.declared.turning.Turned.{Turned}

module _ (k : ℕ) (r r' : Registers) (bs bs' : List ℕ) where
  stop_case : (o : Result Effect Stop) (f : Effect → Run) (t : Stop) → step_end (Err t) r' bs' ≡ end_of r bs o → elim o [ Ok e ↦ f e | Err u ↦ run_end r bs (stopped_after k u) ] ≡ run_end r' bs' (stopped_after k t)
  stop_case (Ok e) f t h = let g = ap (λ (w : StepEnd). w.answer) h in cc
  stop_case (Err u) f t h = let a = ap (λ (w : StepEnd). w.answer) h in let p = ap (λ (w : StepEnd). w.registers) h in let q = ap (λ (w : StepEnd). w.bytes) h in cc

  go_case : (o : Result Effect Stop) (w : Unit {0}) → step_end (Ok w) r' bs' ≡ end_of r bs o → (f : Registers → List ℕ → Run) → (g : Stop → Run) → elim o [ Ok e ↦ f e.registers (committed bs e.pending) | Err u ↦ g u ] ≡ f r' bs'
  go_case (Ok e) w h f g = let p = ap (λ (w : StepEnd). w.registers) h in let q = ap (λ (w : StepEnd). w.bytes) h in cc
  go_case (Err u) w h f g = let a = ap (λ (w : StepEnd). w.answer) h in cc

module _ (reads : ℕ → Reading) (rights : Rights) (r r' : Registers) (bs bs' : List ℕ) where
  run_stops : (n k : ℕ) (t : Stop) → 0 < n → step_end (Err t) r' bs' ≡ end_of r bs (stepped reads r (sight rights bs)) → run reads rights n k r bs ≡ run_end r' bs' (stopped_after k t)
  run_stops zero k t h e = absurd (omega arith)
  run_stops (suc n) k t h e = stop_case k r r' bs bs' (stepped reads r (sight rights bs)) (λ e. run reads rights n (k + 1) e.registers (committed bs e.pending)) t e

  run_goes : (n k : ℕ) (w : Unit {0}) → step_end (Ok w) r' bs' ≡ end_of r bs (stepped reads r (sight rights bs)) → run reads rights (suc n) k r bs ≡ run reads rights n (k + 1) r' bs'
  run_goes n k w e = go_case k r r' bs bs' (stepped reads r (sight rights bs)) w e (λ r'' bs''. run reads rights n (k + 1) r'' bs'') (λ u. run_end r bs (stopped_after k u))

  -- the same by what goes up from a step
  pub goes_up : (n k : ℕ) (o : Result (Unit {0}) Stop) (t : Turned) → 0 < n → step_end o r' bs' ≡ end_of r bs (stepped reads r (sight rights bs)) → Err t ≡ met_after k o → run reads rights n k r bs ≡ run_end r' bs' t
  goes_up n k (Ok w) t l e h = cc
  goes_up n k (Err u) t l e h = let z : stopped_after k u ≡ t = cc in run_stops n k u l e ∙ ap (run_end r' bs') z

  pub goes_on : (n k : ℕ) (o : Result (Unit {0}) Stop) (w : Unit {0}) → step_end o r' bs' ≡ end_of r bs (stepped reads r (sight rights bs)) → Ok w ≡ met_after k o → run reads rights (suc n) k r bs ≡ run reads rights n (k + 1) r' bs'
  goes_on n k (Ok v) w e h = run_goes n k v e
  goes_on n k (Err u) w e h = cc
