-- A step changes bytes only under write grants, and only where its operand lies.
use Rattle.std.proofs.Common.{◌≡◌, ℕ, ◌+◌, ◌/◌, ◌%◌, Bool, true, false, ◌&&◌, ◌||◌, eqb, List, [], get_or, set, Some, None, Ok, Err, Result, sym, refl, ap, ◌∙◌, subst, ⊎_elim, arith, get_or-set_other}
use Rattle.std.proofs.lemmas.Bool.{cases_Bool, eqb-false, eqb-true, false≢true, or_parts}
use Rattle.isa.specs.declared.reading.Reading.{Reading}
use Rattle.access.specs.Access.{aligned, allows, bind, checked, half_may, item_may, sight}
use Rattle.access.specs.declared.item.Item.{Item}
use Rattle.access.specs.declared.item.Item.TheVariants.{Byte, Halfword, Fullword}
use Rattle.access.specs.declared.kind.Use.TheVariants.{Write}
use Rattle.access.specs.declared.rights.Rights.{Rights}
use Rattle.access.specs.declared.stop.Cause.{Cause}
use Rattle.access.specs.declared.stop.Denial.{Denial}
use Rattle.access.specs.declared.stop.Place.{Place}
use Rattle.machine.specs.Act.{Act, done, effect, fail, pending, perform, store, ◌>>=◌}
use Rattle.machine.specs.declared.pending.Pending.{Pending}
use Rattle.machine.specs.Plan.{obey, placed}
use Rattle.machine.specs.Act.{Effect}
use Rattle.machine.specs.declared.registers.Registers.{Registers}
use Rattle.turns.specs.Laws.{Only, among, item_bytes, operand_granted, target}
use Rattle.turns.specs.Step.{committed, end_of, half_into, into, planned, stepped, stopped}

-- a byte that is not written stays
other : (bs : List ℕ) (b a v : ℕ) → eqb a b ≡ false → get_or (set bs b v) a 0 ≡ get_or bs a 0
other bs b a v h = get_or-set_other bs b a v 0 (eqb-false a b h)

pair_other : (bs : List ℕ) (b a v : ℕ) → eqb a b ≡ false → eqb a ((b + 1) % 65536) ≡ false → get_or (half_into bs b v) a 0 ≡ get_or bs a 0
pair_other bs b a v h g = other (set bs b (v / 256)) ((b + 1) % 65536) a (v % 256) g ∙ other bs b a (v / 256) h

pub item_only : (i : Item) (at w : ℕ) (bs : List ℕ) → Only (λ a. among a (item_bytes i at)) bs (into bs (pending i at w))
item_only Byte at w bs a h = other bs at a w (or_parts _ _ h).0
item_only Halfword at w bs a h =
    let p = or_parts (eqb a (aligned Halfword at)) _ h in
    pair_other bs (aligned Halfword at) a w p.0 (or_parts _ _ p.1).0
item_only Fullword at w bs a h =
    let b : ℕ = aligned Fullword at in
    let p = or_parts (eqb a b) _ h in
    let q = or_parts (eqb a ((b + 1) % 65536)) _ p.1 in
    let r = or_parts (eqb a ((b + 2) % 65536)) _ q.1 in
    pair_other (half_into bs b (w / 65536)) ((b + 2) % 65536) a (w % 65536) r.0 (or_parts _ _ r.1).0 ∙ pair_other bs b a (w / 65536) p.0 q.0

-- leave was asked for each byte of an item
both : (x y : Result (Unit {0}) Denial) → bind x (λ _. y) ≡ Ok tt → (x ≡ Ok tt) × (y ≡ Ok tt)
both (Ok u) y e = (refl, e)
both (Err c) y e = let z : ◌≡◌ {A = ℕ} 0 1 = cc in absurd (omega arith)

either : (a b : ℕ) (rest : Bool) (P : ℕ → Type 0) → eqb a b || rest ≡ true → P b → (rest ≡ true → P a) → P a
either a b rest P h p q =
    ⊎_elim
    (λ t. subst P (sym (eqb-true a b t)) p)
    (λ f. q (sym (ap (λ x. x || rest) f) ∙ h))
    (cases_Bool (eqb a b))

item_leave : (i : Item) (may : ℕ → Result (Unit {0}) Denial) (at : ℕ) → item_may i may at ≡ Ok tt → (a : ℕ) → among a (item_bytes i at) ≡ true → may a ≡ Ok tt
item_leave Byte may at h a g = either a at false (λ b. may b ≡ Ok tt) g h (λ f. absurd (false≢true f))
item_leave Halfword may at h a g =
    let k = both (may (aligned Halfword at)) (may ((aligned Halfword at + 1) % 65536)) h in
    either a _ _ (λ b. may b ≡ Ok tt) g k.0 (λ g. either a _ false (λ b. may b ≡ Ok tt) g k.1 (λ f. absurd (false≢true f)))
item_leave Fullword may at h a g =
    let b : ℕ = aligned Fullword at in
    let k = both (half_may may b) (half_may may ((b + 2) % 65536)) h in
    let m = both (may b) (may ((b + 1) % 65536)) k.0 in
    let n = both (may ((b + 2) % 65536)) (may (((b + 2) % 65536 + 1) % 65536)) k.1 in
    either a _ _ (λ b. may b ≡ Ok tt) g m.0 (λ g. either a _ _ (λ b. may b ≡ Ok tt) g m.1 (λ g. either a _ _ (λ b. may b ≡ Ok tt) g n.0 (λ g. either a _ false (λ b. may b ≡ Ok tt) g n.1 (λ f. absurd (false≢true f)))))

left_for : (p : Place) (x : Result (Unit {0}) Denial) (q : Pending) (d : Pending → Effect) (e : Effect) → bind (bind (placed p x) (λ _. Ok q)) (λ w. Ok (d w)) ≡ Ok e → (x ≡ Ok tt) × (d q ≡ e)
left_for p (Ok u) q d e h = (refl, cc)
left_for p (Err c) q d e h = let z : ◌≡◌ {A = ℕ} 0 1 = cc in absurd (omega arith)

module _ (rights : Rights) (bs : List ℕ) where
  -- only bytes of the list, and those only under write grants
  abbrev Kept : List ℕ → List ℕ → Type 0
  Kept bytes after = Only (λ a. allows rights Write a && among a bytes) bs after

  allowed : (a : ℕ) (t : Bool) → allows rights Write a ≡ t → checked rights Write a ≡ Ok tt → t ≡ true
  allowed a true e h = refl
  allowed a false e h = let z : ◌≡◌ {A = ℕ} 0 1 = cc in absurd (omega arith)

  item_kept : (i : Item) (at w : ℕ) → item_may i (checked rights Write) at ≡ Ok tt → Kept (item_bytes i at) (into bs (pending i at w))
  item_kept i at w h a k =
      ⊎_elim
      (λ t. absurd (false≢true (sym k ∙ ap (λ x. allows rights Write a && x) t ∙ ap (λ x. x && true) (allowed a (allows rights Write a) refl (item_leave i (checked rights Write) at h a t)))))
      (λ f. item_only i at w bs a f)
      (cases_Bool (among a (item_bytes i at)))

  bind_kept : {T : Type 0} (o : Result T Cause) (k : T → Result Effect Cause) (g : T → List ℕ) (e : Effect) → bind o k ≡ Ok e → ((x : T) → k x ≡ Ok e → Kept (g x) (committed bs e.pending)) → Kept (elim o [ Ok x ↦ g x | Err c ↦ [] ]) (committed bs e.pending)
  bind_kept (Ok x) k g e h q = q x h
  bind_kept (Err c) k g e h q = let z : ◌≡◌ {A = ℕ} 0 1 = cc in absurd (omega arith)

  -- of every instruction
  act_kept : (t : Act) (e : Effect) → perform (sight rights bs) t ≡ Ok e → Kept (target (sight rights bs) t) (committed bs e.pending)
  act_kept (done r) e h = let q : effect r None ≡ e = cc in subst (λ (x : Effect). Kept [] (committed bs x.pending)) q (λ a k. refl)
  act_kept (store i at w r) e h =
      let k = left_for _ (item_may i (checked rights Write) at) (pending i at w) (λ p. effect r (Some p)) e h in
      subst (λ (x : Effect). Kept (item_bytes i at) (committed bs x.pending)) k.1 (item_kept i at w k.0)
  act_kept (fail c) e h = let z : ◌≡◌ {A = ℕ} 0 1 = cc in absurd (omega arith)
  act_kept (t >>= f) e h = bind_kept (obey (sight rights bs) t) (λ x. perform (sight rights bs) (f x)) (λ x. target (sight rights bs) (f x)) e h (λ x k. act_kept (f x) e k)

  step_kept : (s : ℕ) (r : Registers) (t : Act) (o : Result Effect Cause) → perform (sight rights bs) t ≡ o → Kept (target (sight rights bs) t) (end_of r bs (stopped s o)).bytes
  step_kept s r t (Ok e) h = act_kept t e h
  step_kept s r t (Err c) h = λ a k. refl

pub step_writes : (reads : ℕ → Reading) (rights : Rights) (bs : List ℕ) (r : Registers) → Only (operand_granted reads rights r bs) bs (end_of r bs (stepped reads r (sight rights bs))).bytes
step_writes reads rights bs r = step_kept rights bs r.s r (planned reads r) (perform (sight rights bs) (planned reads r)) refl
