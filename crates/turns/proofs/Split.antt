-- A turn of m + n steps is a turn of m and then one of n.
use Rattle.std.proofs.Common.{◌≡◌, ℕ, zero, suc, ◌+◌, List, Some, None, Ok, Err, Option, Result, sym, refl, ap, ◌∙◌, add_assoc, zero-add, arith}
use Rattle.isa.specs.declared.reading.Reading.{Reading}
use Rattle.access.specs.Access.{sight}
use Rattle.access.specs.declared.rights.Rights.{Rights}
use Rattle.access.specs.declared.stop.Stop.{Stop}
use Rattle.machine.specs.Act.{Effect}
use Rattle.machine.specs.declared.registers.Registers.{Registers}
use Rattle.turns.specs.Laws.{Split, later, unless}
use Rattle.turns.specs.Step.{committed, stepped}
use Rattle.turns.specs.Turn.{Run, run, run_end, stopped_after}

-- by how one step came out
abbrev from : (Registers → List ℕ → Run) → ℕ → Registers → List ℕ → Result Effect Stop → Run
from next k r bs (Ok e) = next e.registers (committed bs e.pending)
from next k r bs (Err t) = run_end r bs (stopped_after k t)

module _ (reads : ℕ → Reading) (rights : Rights) where
  first : (n k : ℕ) (r : Registers) (bs : List ℕ) (o : Result Effect Stop) → o ≡ stepped reads r (sight rights bs) → run reads rights (suc n) k r bs ≡ from (run reads rights n (k + 1)) k r bs o
  first n k r bs (Ok e) h = ap (λ o. elim o [ Ok e ↦ run reads rights n (k + 1) e.registers (committed bs e.pending) | Err t ↦ run_end r bs (stopped_after k t) ]) (sym h)
  first n k r bs (Err t) h = ap (λ o. elim o [ Ok e ↦ run reads rights n (k + 1) e.registers (committed bs e.pending) | Err t ↦ run_end r bs (stopped_after k t) ]) (sym h)

  count_step : (n j k : ℕ) (r : Registers) (bs : List ℕ) → ((r' : Registers) (bs' : List ℕ) → run reads rights n (j + (k + 1)) r' bs' ≡ later j (run reads rights n (k + 1) r' bs')) → (o : Result Effect Stop) → from (run reads rights n (j + k + 1)) (j + k) r bs o ≡ later j (from (run reads rights n (k + 1)) k r bs o)
  count_step n j k r bs rest (Ok e) = ap (λ m. run reads rights n m e.registers (committed bs e.pending)) (add_assoc j k 1) ∙ rest e.registers (committed bs e.pending)
  count_step n j k r bs rest (Err t) = refl

  -- a turn that has counted j steps more
  count : (n j k : ℕ) (r : Registers) (bs : List ℕ) → run reads rights n (j + k) r bs ≡ later j (run reads rights n k r bs)
  count zero j k r bs = refl
  count (suc n) j k r bs = first n (j + k) r bs _ refl ∙ count_step n j k r bs (λ r' bs'. count n j (k + 1) r' bs') (stepped reads r (sight rights bs)) ∙ ap (later j) (sym (first n k r bs _ refl))

  -- the second turn counts on from where the first ended
  onward : ℕ → Run → Option Stop → Run
  onward n q None = run reads rights n q.turned.steps q.registers q.bytes
  onward n q (Some t) = q

  split_step : (m n k : ℕ) (r : Registers) (bs : List ℕ) → ((r' : Registers) (bs' : List ℕ) → run reads rights (m + n) (k + 1) r' bs' ≡ (let q = run reads rights m (k + 1) r' bs' in onward n q q.turned.stop)) → (o : Result Effect Stop) → from (run reads rights (m + n) (k + 1)) k r bs o ≡ (let q = from (run reads rights m (k + 1)) k r bs o in onward n q q.turned.stop)
  unfolding onward
  split_step m n k r bs rest (Ok e) = rest e.registers (committed bs e.pending)
  split_step m n k r bs rest (Err t) = refl

  split_on : (m n k : ℕ) (r : Registers) (bs : List ℕ) → run reads rights (m + n) k r bs ≡ (let q = run reads rights m k r bs in onward n q q.turned.stop)
  unfolding onward
  split_on zero n k r bs = rw zero-add
  split_on (suc m) n k r bs =
      let e : suc m + n ≡ suc (m + n) = omega arith in
      ap (λ i. run reads rights i k r bs) e ∙ first (m + n) k r bs _ refl ∙ split_step m n k r bs (λ r' bs'. split_on m n (k + 1) r' bs') (stepped reads r (sight rights bs)) ∙ ap (λ q. onward n q q.turned.stop) (sym (first m k r bs _ refl))

  joined : (n : ℕ) (q : Run) (o : Option Stop) → onward n q o ≡ unless o q (run reads rights n 0)
  unfolding onward
  joined n q None =
      let z : q.turned.steps + 0 ≡ q.turned.steps = omega arith in
      ap (λ i. run reads rights n i q.registers q.bytes) (sym z) ∙ count n q.turned.steps 0 q.registers q.bytes
  joined n q (Some t) = refl

pub split : Split
split reads rights m n r bs = split_on reads rights m n 0 r bs ∙ joined reads rights n (run reads rights m 0 r bs) (run reads rights m 0 r bs).turned.stop
