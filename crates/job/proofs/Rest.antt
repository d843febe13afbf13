-- One turn of several, and the rest of the run.
use Rattle.std.proofs.Common.{◌≡◌, ℕ, suc, ◌+◌, ◌-◌, ◌*◌, ◌/◌, ◌%◌, ◌<◌, true, false, List, Some, None, Option, refl, sym, ap, ◌∙◌, add_assoc, add_comm, suc-mul, arith}
use Rattle.std.proofs.lemmas.Nat.{div-add-mod'}
use Rattle.std.specs.Option.{is_some}
use Rattle.isa.specs.declared.reading.Reading.{Reading}
use Rattle.access.specs.declared.rights.Rights.{Rights}
use Rattle.access.specs.declared.stop.Stop.{Stop}
use Rattle.machine.specs.declared.registers.Registers.{Registers}
use Rattle.turns.proofs.Split.{split}
use Rattle.turns.specs.Laws.{followed, later, unless}
use Rattle.turns.specs.Turn.{Run, run}
use Rattle.turns.specs.declared.turning.Turned.{Turned}

abbrev after : Registers → List ℕ → Turned → Run
after r bs t = record { registers = r; bytes = bs; turned = t }

again : (s t : ℕ) (q : Run) → later s (later t q) ≡ later (s + t) q
again s t q = ap (λ i. record { registers = q.registers; bytes = q.bytes; turned = record { steps = i; stop = q.turned.stop } }) (sym (add_assoc s t q.turned.steps))

ends : (o : Option Stop) (q : Run) (next : Registers → List ℕ → Run) → is_some o ≡ true → unless o q next ≡ q
ends None q next h = cc
ends (Some u) q next h = refl

continues : (o : Option Stop) (q : Run) (next : Registers → List ℕ → Run) → is_some o ≡ false → unless o q next ≡ unless None q next
continues None q next h = refl
continues (Some u) q next h = cc

-- one of the turns that are left, and the others
pub one_more : (turns k b : ℕ) → k < turns → (turns - k) * b ≡ b + (turns - (k + 1)) * b
one_more turns k b h = let d : turns - k ≡ suc (turns - (k + 1)) = omega arith in ap (λ i. i * b) d ∙ suc-mul (turns - (k + 1)) b ∙ add_comm ((turns - (k + 1)) * b) b

-- n steps are turns of b steps, and one for the rest
pub whole_and_rest : (n m b : ℕ) → m ≡ n → n ≡ m / b * b + m % b
whole_and_rest n m b e = sym e ∙ sym (div-add-mod' m b)

-- of the steps that are left some are a turn, and t is that turn
module _ (reads : ℕ → Reading) (rights : Rights) (left b n : ℕ) (d : left ≡ b + n) (r r' : Registers) (bs bs' : List ℕ) (t : Turned) (e : after r' bs' t ≡ run reads rights b 0 r bs) where
  abbrev rest : Registers → List ℕ → Run
  rest = run reads rights n 0

  parted : run reads rights left 0 r bs ≡ unless t.stop (after r' bs' t) rest
  parted = ap (λ i. run reads rights i 0 r bs) d ∙ split reads rights b n r bs ∙ ap (λ q. followed q rest) (sym e)

  pub went_on : is_some t.stop ≡ false → later t.steps (rest r' bs') ≡ run reads rights left 0 r bs
  went_on h = sym (parted ∙ continues t.stop (after r' bs' t) rest h)

  pub stopped : is_some t.stop ≡ true → after r' bs' t ≡ run reads rights left 0 r bs
  stopped h = sym (parted ∙ ends t.stop (after r' bs' t) rest h)

  pub goes_on : (s : ℕ) → is_some t.stop ≡ false → later (s + t.steps) (rest r' bs') ≡ later s (run reads rights left 0 r bs)
  goes_on s h = sym (again s t.steps (rest r' bs')) ∙ ap (later s) (went_on h)

  pub stops : (s : ℕ) → is_some t.stop ≡ true → later s (after r' bs' t) ≡ later s (run reads rights left 0 r bs)
  stops s h = ap (later s) (stopped h)
