-- A string instruction that moves, whole.
use Rattle.std.proofs.Common.{◌≡◌, ℕ, zero, suc, ◌+◌, ◌%◌, ◌<◌, true, false, cond, eqb, List, [], ◌∷◌, get_or, pos, Some, None, Ok, Err, Result, refl, ap, ◌∙◌, arith}
use Rattle.std.proofs.lemmas.Bool.{eq-eqb, ne_eqb}
use Rattle.std.proofs.lemmas.Bool.Decides.{nat_tests}
use Rattle.isa.specs.declared.format.Format.TheVariants.{L}
use Rattle.isa.specs.declared.name.Name.{Name}
use Rattle.isa.specs.declared.name.Name.TheVariants.{Mbs, Mhs}
use Rattle.isa.specs.declared.reading.Reading.{Reading}
use Rattle.isa.specs.declared.reading.Reading.TheVariants.{Defined}
use Rattle.word.specs.Bytes as bytes
use Rattle.access.specs.Access.{Sight, aligned, allows, bind, checked, denial, half_at, half_may, item_may, item_read, seen, sight}
use Rattle.access.specs.declared.item.Item.{Item}
use Rattle.access.specs.declared.item.Item.TheVariants.{Byte, Halfword, Fullword}
use Rattle.access.specs.declared.kind.Use.TheVariants.{Fetch, Read, Write}
use Rattle.access.specs.declared.rights.Rights.{Rights}
use Rattle.access.specs.declared.stop.Cause.{Cause}
use Rattle.access.specs.declared.stop.Denial.{Denial}
use Rattle.access.specs.declared.stop.Place.TheVariants as place
use Rattle.access.specs.declared.stop.Stop.{Stop}
use Rattle.machine.specs.Act.{Effect, done, effect, pending, perform, store}
use Rattle.machine.specs.declared.pending.Pending.{Pending}
use Rattle.machine.specs.Instructions.{executed}
use Rattle.machine.specs.Plan.{fetch, obey, placed}
use Rattle.machine.specs.Registers.{advanced, minus, plus, with_s, with_x}
use Rattle.machine.specs.Strings.{complete, continued, moved, nearer, passed, string}
use Rattle.machine.specs.declared.mode.Mode.{Mode}
use Rattle.machine.specs.declared.registers.Registers.{Registers}
use Rattle.turns.specs.Laws.{Apart, Each, Movable, MovesBytes, MovesHalfwords, Readable, Writable, copied, element_at, elements, places, value}
use Rattle.turns.specs.Step.{begun, committed, into, mode, stepped, stopped}
use Rattle.turns.specs.Turn.{Run, all_spent, run, run_end, stopped_after}
use Rattle.turns.proofs.Frame.{item_only}

module _ (rights : Rights) where
  seen_ok : (bs : List ℕ) (b : ℕ) → allows rights Read b ≡ true → seen rights Read bs b ≡ Ok (get_or bs b 0)
  seen_ok bs b h = ap {B = Result ℕ Denial} (λ t. bind (cond t (Ok tt) (Err (denial Read b))) (λ _. Ok (get_or bs b 0))) h

  may_ok : (b : ℕ) → allows rights Write b ≡ true → checked rights Write b ≡ Ok tt
  may_ok b h = ap {B = Result (Unit {0}) Denial} (λ t. cond t (Ok tt) (Err (denial Write b))) h

  pair_read : (look : ℕ → Result ℕ Denial) (a u v : ℕ) → look a ≡ Ok u → look ((a + 1) % 65536) ≡ Ok v → half_at look a ≡ Ok (bytes.half u v)
  pair_read look a u v p q = ap (λ o. bind o (λ high. bind (look ((a + 1) % 65536)) (λ low. Ok (bytes.half high low)))) p ∙ ap (λ o. bind o (λ low. Ok (bytes.half u low))) q

  pair_may : (may : ℕ → Result (Unit {0}) Denial) (a : ℕ) → may a ≡ Ok tt → may ((a + 1) % 65536) ≡ Ok tt → half_may may a ≡ Ok tt
  pair_may may a p q = ap (λ o. bind o (λ _. may ((a + 1) % 65536))) p ∙ q

  item_seen : (i : Item) (at : ℕ) (bs : List ℕ) → Readable rights i at → item_read i (seen rights Read bs) at ≡ Ok (value i bs at)
  item_seen Byte at bs h = seen_ok bs at h.0
  item_seen Halfword at bs h = pair_read (seen rights Read bs) (aligned Halfword at) _ _ (seen_ok bs _ h.0) (seen_ok bs _ h.1.0)
  item_seen Fullword at bs h =
      let a : ℕ = aligned Fullword at in
      let b : ℕ = (a + 2) % 65536 in
      let p = pair_read (seen rights Read bs) a _ _ (seen_ok bs a h.0) (seen_ok bs ((a + 1) % 65536) h.1.0) in
      let q = pair_read (seen rights Read bs) b _ _ (seen_ok bs b h.1.1.0) (seen_ok bs ((b + 1) % 65536) h.1.1.1.0) in
      ap (λ o. bind o (λ high. bind (half_at (seen rights Read bs) b) (λ low. Ok (bytes.full high low)))) p ∙ ap (λ o. bind o (λ low. Ok (bytes.full (bytes.half (get_or bs a 0) (get_or bs ((a + 1) % 65536) 0)) low))) q

  item_may_ok : (i : Item) (at : ℕ) → Writable rights i at → item_may i (checked rights Write) at ≡ Ok tt
  item_may_ok Byte at h = may_ok at h.0
  item_may_ok Halfword at h = pair_may (checked rights Write) (aligned Halfword at) (may_ok _ h.0) (may_ok _ h.1.0)
  item_may_ok Fullword at h =
      let a : ℕ = aligned Fullword at in
      let b : ℕ = (a + 2) % 65536 in
      let p = pair_may (checked rights Write) a (may_ok a h.0) (may_ok _ h.1.0) in
      let q = pair_may (checked rights Write) b (may_ok b h.1.1.0) (may_ok _ h.1.1.1.0) in
      ap (λ o. bind o (λ _. half_may (checked rights Write) b)) p ∙ q

-- a write leaves an item alone that has no byte in common with it
module _ (i : Item) (at v : ℕ) (bs : List ℕ) where
  abbrev after : List ℕ
  after = into bs (pending i at v)

  value_kept : (j : Item) (at' : ℕ) → Apart i at j at' → value j after at' ≡ value j bs at'
  value_kept Byte at' h = item_only i at v bs _ h.0
  value_kept Halfword at' h =
      let p = item_only i at v bs _ h.0 in
      let q = item_only i at v bs _ h.1.0 in
      cc
  value_kept Fullword at' h =
      let p = item_only i at v bs _ h.0 in
      let q = item_only i at v bs _ h.1.0 in
      let s = item_only i at v bs _ h.1.1.0 in
      let t = item_only i at v bs _ h.1.1.1.0 in
      cc

  fetch_kept : (rights : Rights) (s : ℕ) → Apart i at Halfword s → obey (sight rights after) (fetch s) ≡ obey (sight rights bs) (fetch s)
  fetch_kept rights s h =
      let a : ℕ = aligned Halfword s in
      let b : ℕ = (a + 1) % 65536 in
      let two : ℕ → ℕ → Result ℕ Cause = λ u v. placed place.Fetch (bind (bind (checked rights Fetch a) (λ _. Ok u)) (λ high. bind (bind (checked rights Fetch b) (λ _. Ok v)) (λ low. Ok (bytes.half high low)))) in
      ap (λ u. two u (get_or after b 0)) (item_only i at v bs a h.0) ∙ ap (two (get_or bs a 0)) (item_only i at v bs b h.1.0)

-- x comes nearer to zero by one
nearer_elements : (x n : ℕ) → x < 65536 → elements x ≡ suc n → elements (nearer x) ≡ n
nearer_elements x n h e = grind (arith, nat_tests)

nearer_small : (x : ℕ) → x < 65536 → nearer x < 65536
nearer_small x h = grind (arith, nat_tests)

some_element : (x n : ℕ) → elements x ≡ suc n → eqb x 0 ≡ false
some_element x n e = ne_eqb x 0 (λ z. grind (arith, nat_tests))

no_element : (x : ℕ) → x < 65536 → elements x ≡ 0 → eqb x 0 ≡ true
no_element x h e = eq-eqb x 0 (grind (arith, nat_tests))

-- one element, which is not the last, and the last
put_back : (r : Registers) (x : ℕ) → r.s < 65536 → continued (advanced r) x ≡ with_x r x
put_back r x h = let e : minus (plus r.s 2) 2 ≡ r.s = omega arith in ap (λ s. with_s (with_x r x) s) e

pass_on : (r : Registers) (x : ℕ) → r.s < 65536 → eqb x 0 ≡ false → passed (advanced r) x ≡ with_x r x
pass_on r x h e = ap (λ t. cond t (complete (advanced r)) (continued (advanced r) x)) e ∙ put_back r x h

pass_last : (r : Registers) (x : ℕ) → eqb x 0 ≡ true → passed (advanced r) x ≡ complete (advanced r)
pass_last r x e = ap (λ t. cond t (complete (advanced r)) (continued (advanced r) x)) e

each_map : (P Q : ℕ → Type 0) → ((x : ℕ) → P x → Q x) → (xs : List ℕ) → Each P xs → Each Q xs
each_map P Q f [] h = tt
each_map P Q f (x ∷ xs) h = (f x h.0, each_map P Q f xs h.1)

each_with : (P Q R : ℕ → Type 0) → ((x : ℕ) → P x → Q x → R x) → (xs : List ℕ) → Each P xs → Each Q xs → Each R xs
each_with P Q R f [] h g = tt
each_with P Q R f (x ∷ xs) h g = (f x h.0 g.0, each_with P Q R f xs h.1 g.1)

module _ (reads : ℕ → Reading) (rights : Rights) (name : Name) (i : Item)
    (rule : (t : Mode) (r : Registers) → executed name t r ≡ string (moved i) r) where
  abbrev at : ℕ → ℕ → ℕ
  at start x = element_at i start x

  -- one element of a string that is granted
  one : (r : Registers) (bs : List ℕ) (w : ℕ) → obey (sight rights bs) (fetch r.s) ≡ Ok w → reads w ≡ Defined name L 0 (pos 0) → eqb r.x 0 ≡ false → Readable rights i (at r.z (nearer r.x)) → Writable rights i (at r.y (nearer r.x)) → stepped reads r (sight rights bs) ≡ Ok (effect (passed (advanced r) (nearer r.x)) (Some (pending i (at r.y (nearer r.x)) (value i bs (at r.z (nearer r.x))))))
  one r bs w f d x p q =
      let v : Sight = sight rights bs in
      let x' : ℕ = nearer r.x in
      let ends : Pending → Effect = λ p. effect (passed (advanced r) x') (Some p) in
      ap {B = Result Effect Stop} (λ o. stopped r.s (bind o (λ w. perform v (begun (reads w) (advanced r))))) f
      ∙ ap (λ c. stopped r.s (perform v (begun c (advanced r)))) d
      ∙ ap (λ t. stopped r.s (perform v t)) (rule (mode L 0 (pos 0)) (advanced r))
      ∙ ap (λ t. stopped r.s (perform v (cond t (done (complete (advanced r))) (moved i (advanced r) x')))) x
      ∙ ap {B = Result Effect Stop} (λ o. stopped r.s (bind (placed place.Operand o) (λ u. perform v (store i (at r.y x') u (passed (advanced r) x'))))) (item_seen rights i (at r.z x') bs p)
      ∙ ap {B = Result Effect Stop} (λ o. stopped r.s (bind (bind (placed place.Operand o) (λ _. Ok (pending i (at r.y x') (value i bs (at r.z x'))))) (λ p. Ok (ends p)))) (item_may_ok rights i (at r.y x') q)

  -- a step that is completed, and the steps after it
  on : (n k : ℕ) (r : Registers) (bs : List ℕ) (e : Effect) → stepped reads r (sight rights bs) ≡ Ok e → run reads rights (suc n) k r bs ≡ run reads rights n (k + 1) e.registers (committed bs e.pending)
  on n k r bs e h = ap (λ o. elim o [ Ok e ↦ run reads rights n (k + 1) e.registers (committed bs e.pending) | Err t ↦ run_end r bs (stopped_after k t) ]) h

  abbrev ended : ℕ → Registers → List ℕ → Run
  ended k r bs = run_end r bs (all_spent k)

  whole : (n k : ℕ) (r : Registers) (old bs : List ℕ) (w : ℕ) → r.s < 65536 → r.x < 65536 → elements r.x ≡ suc n → obey (sight rights bs) (fetch r.s) ≡ Ok w → reads w ≡ Defined name L 0 (pos 0)
      → Each (λ x. Readable rights i (at r.z x)) (places (suc n) r.x)
      → Each (λ x. Writable rights i (at r.y x)) (places (suc n) r.x)
      → Each (λ x. Each (λ x'. Apart i (at r.y x) i (at r.z x')) (places (suc n) r.x)) (places (suc n) r.x)
      → Each (λ x. Apart i (at r.y x) Halfword r.s) (places (suc n) r.x)
      → Each (λ x. value i bs (at r.z x) ≡ value i old (at r.z x)) (places (suc n) r.x)
      → run reads rights (suc n) k r bs ≡ ended (k + suc n) (complete (advanced r)) (copied i (at r.z) (at r.y) old bs (places (suc n) r.x))
  whole zero k r old bs w s x e f d p q a c v =
      let x' : ℕ = nearer r.x in
      let z = no_element x' (nearer_small r.x x) (nearer_elements r.x 0 x e) in
      on zero k r bs _ (one r bs w f d (some_element r.x 0 e) p.0 q.0)
      ∙ ap (λ g. ended (k + 1) g (into bs (pending i (at r.y x') (value i bs (at r.z x'))))) (pass_last r x' z)
      ∙ ap (λ u. ended (k + 1) (complete (advanced r)) (into bs (pending i (at r.y x') u))) v.0
  whole (suc m) k r old bs w s x e f d p q a c v =
      let x' : ℕ = nearer r.x in
      let to : ℕ = at r.y x' in
      let u : ℕ = value i bs (at r.z x') in
      let bs' : List ℕ = into bs (pending i to u) in
      let e' = nearer_elements r.x (suc m) x e in
      let x'' = nearer_small r.x x in
      let kept = each_with (λ y. Apart i to i (at r.z y)) (λ y. value i bs (at r.z y) ≡ value i old (at r.z y)) (λ y. value i bs' (at r.z y) ≡ value i old (at r.z y)) (λ y g h. value_kept i to u bs i (at r.z y) g ∙ h) (places (suc m) x') a.0.1 v.1 in
      let rest = whole m (k + 1) (with_x r x') old bs' w s x'' e' (fetch_kept i to u bs rights r.s c.0 ∙ f) d p.1 q.1 (each_map _ _ (λ y h. h.1) (places (suc m) x') a.1) c.1 kept in
      let j : k + 1 + suc m ≡ k + suc (suc m) = omega arith in
      on (suc m) k r bs _ (one r bs w f d (some_element r.x (suc m) e) p.0 q.0)
      ∙ ap (λ g. run reads rights (suc m) (k + 1) g bs') (pass_on r x' s (some_element x' m e'))
      ∙ rest
      ∙ ap (λ t. ended t (complete (advanced r)) (copied i (at r.z) (at r.y) old bs' (places (suc m) x'))) j
      ∙ ap (λ t. ended (k + suc (suc m)) (complete (advanced r)) (copied i (at r.z) (at r.y) old (into bs (pending i to t)) (places (suc m) x'))) v.0

  each_refl : (f : ℕ → ℕ) (xs : List ℕ) → Each (λ x. f x ≡ f x) xs
  each_refl f [] = tt
  each_refl f (x ∷ xs) = (refl, each_refl f xs)

  counted : (n : ℕ) (r : Registers) (bs : List ℕ) → elements r.x ≡ n → 0 < n → r.s < 65536 → r.x < 65536 → Movable reads rights name i (at r.z) (at r.y) (places n r.x) r bs → run reads rights n 0 r bs ≡ ended n (complete (advanced r)) (copied i (at r.z) (at r.y) bs bs (places n r.x))
  counted zero r bs e l s x m = absurd (omega arith)
  counted (suc n) r bs e l s x m =
      let j : 0 + suc n ≡ suc n = omega arith in
      whole n 0 r bs bs m.word s x e m.fetched m.read_as m.readable m.writable m.apart m.beside (each_refl (λ y. value i bs (at r.z y)) (places (suc n) r.x))
      ∙ ap (λ t. ended t (complete (advanced r)) (copied i (at r.z) (at r.y) bs bs (places (suc n) r.x))) j

some : (x : ℕ) → 0 < x → x < 65536 → 0 < elements x
some x h g = grind (arith, nat_tests)

pub moves_bytes : MovesBytes
moves_bytes reads rights r bs s x g m = counted reads rights Mbs Byte (λ t r. refl) (elements r.x) r bs refl (some r.x x g) s g m

pub moves_halfwords : MovesHalfwords
moves_halfwords reads rights r bs s x g m = counted reads rights Mhs Halfword (λ t r. refl) (elements r.x) r bs refl (some r.x x g) s g m
