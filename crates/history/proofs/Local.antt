-- Load, set, turn, look and copy depend on the bytes of the bay's grants alone, and alter only those of exclusive ones.
use Rattle.std.proofs.Common.{◌≡◌, ℕ, zero, suc, ◌+◌, ◌/◌, ◌%◌, Bool, true, false, cond, ◌&&◌, T, List, length, get_or, set, Some, None, Ok, Err, Option, Result, sym, refl, ap, ◌∙◌, subst, inl, inr, length-set}
use Rattle.std.proofs.lemmas.Float.{T_from_true}
use Rattle.isa.specs.declared.reading.Reading.{Reading}
use Rattle.book.specs.Readings.{reading}
use Rattle.book.specs.declared.tables.Tables.{Tables}
use Rattle.store.specs.Bulk.{taken, written}
use Rattle.access.specs.Access.{allows, sight, within}
use Rattle.turns.specs.Laws.{among, target}
use Rattle.turns.specs.Step.{committed, end_of as step_end_of, half_into, into, planned, stepped}
use Rattle.turns.specs.Turn.{Run, run, run_end, stopped_after}
use Rattle.access.specs.declared.rights.Rights.{Rights}
use Rattle.machine.specs.Act.{Effect}
use Rattle.machine.specs.declared.pending.Pending.{Pending}
use Rattle.machine.specs.declared.pending.Pending.TheVariants.{Byte, Halfword, Fullword}
use Rattle.machine.specs.declared.registers.Registers.{Registers}
use Rattle.access.specs.declared.kind.Use.TheVariants.{Fetch, Read, Write, Load, Copy}
use Rattle.access.specs.declared.stop.Stop.{Stop}
use Rattle.turns.proofs.Frame.{step_writes}
use Rattle.turns.proofs.Local as step
use Rattle.history.specs.Calls.{Own, copied, copy, done, load, look, refused, set_all, turn}
use Rattle.history.specs.Hall.{OwnEnd, Program, end_of, own_end, turn_end, turn_from}
use Rattle.bays.specs.Grants.{excludes, holds}
use Rattle.history.proofs.Basics.{by_test, false_of, granted_excludes, granted_holds, load_clears, or_cases, write_clears, get_set_cong, length_written, taken_same, within_all, within_in, written_cong, written_frame}

-- the two stores agree wherever a grant has a byte
pub record Agree (rights : Rights) (bs cs : List ℕ) : Type 0 where
  pub lengths : length bs ≡ length cs
  pub at : (a : ℕ) → T (holds rights.grants a) → get_or bs a 0 ≡ get_or cs a 0

set_agree : (rights : Rights) (bs cs : List ℕ) (x v : ℕ) → Agree rights bs cs → Agree rights (set bs x v) (set cs x v)
set_agree rights bs cs x v e = record {
  lengths = length-set bs x v ∙ e.lengths ∙ sym (length-set cs x v);
  at = λ a t. get_set_cong 0 v bs cs x a e.lengths (e.at a t);
}

written_agree : (rights : Rights) (x : ℕ) (vs bs cs : List ℕ) → Agree rights bs cs → Agree rights (written bs x vs) (written cs x vs)
written_agree rights x vs bs cs e = record {
  lengths = length_written vs bs x ∙ e.lengths ∙ sym (length_written vs cs x);
  at = λ a t. written_cong vs bs cs x a e.lengths (e.at a t);
}

half_agree : (rights : Rights) (bs cs : List ℕ) (x v : ℕ) → Agree rights bs cs → Agree rights (half_into bs x v) (half_into cs x v)
half_agree rights bs cs x v e = set_agree rights _ _ ((x + 1) % 65536) (v % 256) (set_agree rights bs cs x (v / 256) e)

into_agree : (rights : Rights) (bs cs : List ℕ) (p : Pending) → Agree rights bs cs → Agree rights (into bs p) (into cs p)
into_agree rights bs cs (Byte x v) e = set_agree rights bs cs x v e
into_agree rights bs cs (Halfword x v) e = half_agree rights bs cs x v e
into_agree rights bs cs (Fullword x v) e = half_agree rights _ _ ((x + 2) % 65536) (v % 65536) (half_agree rights bs cs x (v / 65536) e)

committed_agree : (rights : Rights) (bs cs : List ℕ) (o : Option Pending) → Agree rights bs cs → Agree rights (committed bs o) (committed cs o)
committed_agree rights bs cs None e = e
committed_agree rights bs cs (Some p) e = into_agree rights bs cs p e

half_length : (bs : List ℕ) (x v : ℕ) → length (half_into bs x v) ≡ length bs
half_length bs x v = length-set (set bs x (v / 256)) ((x + 1) % 65536) (v % 256) ∙ length-set bs x (v / 256)

into_length : (bs : List ℕ) (p : Pending) → length (into bs p) ≡ length bs
into_length bs (Byte x v) = length-set bs x v
into_length bs (Halfword x v) = half_length bs x v
into_length bs (Fullword x v) = half_length (half_into bs x (v / 65536)) ((x + 2) % 65536) (v % 65536) ∙ half_length bs x (v / 65536)

committed_length : (bs : List ℕ) (o : Option Pending) → length (committed bs o) ≡ length bs
committed_length bs None = refl
committed_length bs (Some p) = into_length bs p

-- a step leaves alone what its bay may not write
frame : (reads : ℕ → Reading) (rights : Rights) (bs : List ℕ) (r : Registers) (e : Effect) → stepped reads r (sight rights bs) ≡ Ok e → (a : ℕ) → allows rights Write a ≡ false → get_or (committed bs e.pending) a 0 ≡ get_or bs a 0
frame reads rights bs r e h a n =
    subst (λ (o : Result Effect Stop). get_or (step_end_of r bs o).bytes a 0 ≡ get_or bs a 0) h
    (step_writes reads rights bs r a (ap (λ (x : Bool). x && among a (target (sight rights bs) (planned reads r))) n))

-- turns
pub record Same (rights : Rights) (s t : Run) : Type 0 where
  pub registers : s.registers ≡ t.registers
  pub turned : s.turned ≡ t.turned
  pub agree : Agree rights s.bytes t.bytes

module _ (reads : ℕ → Reading) (rights : Rights) where
  abbrev goes : ℕ → ℕ → Registers → List ℕ → Result Effect Stop → Run
  goes n k r bs o = elim o [ Ok e ↦ run reads rights n (k + 1) e.registers (committed bs e.pending) | Err t ↦ run_end r bs (stopped_after k t) ]

  same_on : (n k : ℕ) (r : Registers) (bs cs : List ℕ) → Agree rights bs cs → ((x : Effect) → Same rights (run reads rights n (k + 1) x.registers (committed bs x.pending)) (run reads rights n (k + 1) x.registers (committed cs x.pending)))
      → (o : Result Effect Stop) → Same rights (goes n k r bs o) (goes n k r cs o)
  same_on n k r bs cs e f (Ok x) = f x
  same_on n k r bs cs e f (Err t) = record { registers = refl; turned = refl; agree = e }

  run_same : (n k : ℕ) (r : Registers) (bs cs : List ℕ) → Agree rights bs cs → Same rights (run reads rights n k r bs) (run reads rights n k r cs)
  run_same zero k r bs cs e = record { registers = refl; turned = refl; agree = e }
  run_same (suc n) k r bs cs e =
      subst (λ (o : Result Effect Stop). Same rights (goes n k r bs (stepped reads r (sight rights bs))) (goes n k r cs o)) (step.local reads rights bs cs r (λ a t. e.at a (elim (or_cases (allows rights Fetch a) _ (T_from_true _ t)) [ inl u ↦ granted_holds Fetch rights.grants a u | inr u ↦ granted_holds Read rights.grants a u ])))
      (same_on n k r bs cs e (λ x. run_same n (k + 1) x.registers (committed bs x.pending) (committed cs x.pending) (committed_agree rights bs cs x.pending e)) (stepped reads r (sight rights bs)))

  length_on : (n k : ℕ) (r : Registers) (bs : List ℕ) → ((x : Effect) → length (run reads rights n (k + 1) x.registers (committed bs x.pending)).bytes ≡ length bs)
      → (o : Result Effect Stop) → length (goes n k r bs o).bytes ≡ length bs
  length_on n k r bs f (Ok x) = f x
  length_on n k r bs f (Err t) = refl

  run_length : (n k : ℕ) (r : Registers) (bs : List ℕ) → length (run reads rights n k r bs).bytes ≡ length bs
  run_length zero k r bs = refl
  run_length (suc n) k r bs = length_on n k r bs (λ x. run_length n (k + 1) x.registers (committed bs x.pending) ∙ committed_length bs x.pending) (stepped reads r (sight rights bs))

  frame_on : (n k : ℕ) (r : Registers) (bs : List ℕ) (a : ℕ) (p : Result Effect Stop) → ((x : Effect) → p ≡ Ok x → get_or (run reads rights n (k + 1) x.registers (committed bs x.pending)).bytes a 0 ≡ get_or bs a 0)
      → (o : Result Effect Stop) → p ≡ o → get_or (goes n k r bs o).bytes a 0 ≡ get_or bs a 0
  frame_on n k r bs a p f (Ok x) e = f x e
  frame_on n k r bs a p f (Err t) e = refl

  run_frame : (n k : ℕ) (r : Registers) (bs : List ℕ) (a : ℕ) → (T (excludes rights.grants a) → ⊥) → get_or (run reads rights n k r bs).bytes a 0 ≡ get_or bs a 0
  run_frame zero k r bs a f = refl
  run_frame (suc n) k r bs a f =
      frame_on n k r bs a (stepped reads r (sight rights bs))
      (λ x e. run_frame n (k + 1) x.registers (committed bs x.pending) a f ∙ frame reads rights bs r x e a (false_of _ (λ t. f (granted_excludes Write write_clears rights.grants a t)))) (stepped reads r (sight rights bs)) refl

-- the length of the store, and the bytes that stay
module _ (b : Tables) (rights : Rights) (p : Program) (bs : List ℕ) where
  turn_length : (o : Option Stop) (n : ℕ) → length (turn_from o n b rights p bs).bytes ≡ length bs
  turn_length (Some t) n = refl
  turn_length None n = run_length (reading b) rights n 0 p.registers bs

  turn_frame : (o : Option Stop) (n : ℕ) (a : ℕ) → (T (excludes rights.grants a) → ⊥) → get_or (turn_from o n b rights p bs).bytes a 0 ≡ get_or bs a 0
  turn_frame (Some t) n a f = refl
  turn_frame None n a f = run_frame (reading b) rights n 0 p.registers bs a f

  pub outcome_length : (i : Own) → length (end_of i b rights p bs).bytes ≡ length bs
  outcome_length (load at vs) = by_test (λ (e : OwnEnd). length e.bytes ≡ length bs) (within rights Load at (length vs)) _ _ (λ t. length_written vs bs at) (λ t. refl)
  outcome_length (set_all r) = refl
  outcome_length (turn n) = turn_length p.stop n
  outcome_length look = refl
  outcome_length (copy at n) = refl

  pub outcome_frame : (i : Own) (a : ℕ) → (T (excludes rights.grants a) → ⊥) → get_or (end_of i b rights p bs).bytes a 0 ≡ get_or bs a 0
  outcome_frame (load at vs) a n =
      by_test (λ (e : OwnEnd). get_or e.bytes a 0 ≡ get_or bs a 0) (within rights Load at (length vs)) _ _
      (λ t. written_frame rights vs bs at a (within_in rights Load at (length vs) t) (within_all rights Load at (length vs) t) (λ t. n (granted_excludes Load load_clears rights.grants a t))) (λ t. refl)
  outcome_frame (set_all r) a n = refl
  outcome_frame (turn n) a f = turn_frame p.stop n a f
  outcome_frame look a n = refl
  outcome_frame (copy at n) a f = refl

-- the same answer and the same program, and bytes that agree
pub record Alike (rights : Rights) (e f : OwnEnd) : Type 0 where
  pub answer : e.answer ≡ f.answer
  pub program : e.program ≡ f.program
  pub agree : Agree rights e.bytes f.bytes

module _ (b : Tables) (rights : Rights) (p : Program) (bs cs : List ℕ) (e : Agree rights bs cs) where
  load_local : (at : ℕ) (vs : List ℕ) (t : Bool)
      → Alike rights (cond t (own_end done None (written bs at vs)) (own_end (refused 7) None bs))
      (cond t (own_end done None (written cs at vs)) (own_end (refused 7) None cs))
  load_local at vs true = record { answer = refl; program = refl; agree = written_agree rights at vs bs cs e }
  load_local at vs false = record { answer = refl; program = refl; agree = e }

  turn_local : (o : Option Stop) (n : ℕ) → Alike rights (turn_from o n b rights p bs) (turn_from o n b rights p cs)
  turn_local (Some t) n = record { answer = refl; program = refl; agree = e }
  turn_local None n =
      let s : Same rights (run (reading b) rights n 0 p.registers bs) (run (reading b) rights n 0 p.registers cs) = run_same (reading b) rights n 0 p.registers bs cs e in
      record {
        answer = λ i. (turn_end (run_end (s.registers i) bs (s.turned i))).answer;
        program = λ i. (turn_end (run_end (s.registers i) bs (s.turned i))).program;
        agree = s.agree;
      }

  -- the bytes copied are granted, so they are the same
  copy_local : (at n : ℕ) (t : Bool) → (T t → T (within rights Copy at n))
      → cond t (copied (taken bs at n)) (refused 7) ≡ cond t (copied (taken cs at n)) (refused 7)
  copy_local at n true f = ap copied (taken_same rights n at bs cs (within_in rights Copy at n (f tt)) (within_all rights Copy at n (f tt)) (λ a t. e.at a (granted_holds Copy rights.grants a t)))
  copy_local at n false f = refl

  pub outcome_local : (i : Own) → Alike rights (end_of i b rights p bs) (end_of i b rights p cs)
  outcome_local (load at vs) = load_local at vs (within rights Load at (length vs))
  outcome_local (set_all r) = record { answer = refl; program = refl; agree = e }
  outcome_local (turn n) = turn_local p.stop n
  outcome_local look = record { answer = refl; program = refl; agree = e }
  outcome_local (copy at n) = record { answer = copy_local at n (within rights Copy at n) (λ t. t); program = refl; agree = e }
