use Rattle.std.proofs.Common.{◌≡◌, ℕ, zero, suc, ◌+◌, ◌*◌, ◌^◌, ◌<◌, Bool, true, false, not, ◌&&◌, ◌||◌, eqb, List, [], ◌∷◌, length, get_or, set, is_some, Some, None, Option, sym, refl, ap, ◌∙◌, subst, ⊎_elim, arith}
use Rattle.std.specs.Str.{bytes_eq}
use Rattle.std.proofs.lemmas.Nat.{pow-add}
use Rattle.std.proofs.lemmas.Bool.{and_parts, and_from, or_parts, or_from, ne_eqb, eqb-false, eqb-true, lt-ltb, cond_both, cases_Bool, cond-true, cond-false, not-true, true≢false}
use Rattle.isa.specs.declared.name.Name.{Name}
use Rattle.text.specs.Spelling.{first}
use Rattle.isa.specs.Names.{rank, spelled}
use Rattle.text.specs.Search.{Bytes}
use Rattle.book.specs.Rows.{is_name, has_name}
use Rattle.book.specs.Patterns.{length_at, bits, pattern_of, begins, meets, clashes}
use Rattle.book.specs.Sound.{entry, entries, apart, legal_pattern, parted}

pub nothing : {X : Type 0} (o : Option X) → is_some o ≡ false → o ≡ None
nothing None h = refl
nothing (Some x) h = absurd (true≢false h)

-- one more legal entry
entries_set : {X : Type 0} (legal : ℕ → X → Bool) (i : ℕ) (t : List (Option X)) (k : ℕ) (x : X) → legal (i + k) x ≡ true → entries legal i t ≡ true → entries legal i (set t k (Some x)) ≡ true
entries_set legal i [] k x p h = h
entries_set legal i (e ∷ t) zero x p h =
    let q : i + 0 ≡ i = omega arith in
    and_from _ _ (subst (λ m. legal m x ≡ true) q p) (and_parts (entry legal i e) (entries legal (i + 1) t) h).1
entries_set legal i (e ∷ t) (suc k) x p h =
    let q : i + suc k ≡ i + 1 + k = omega arith in
    and_from _ _ (and_parts (entry legal i e) (entries legal (i + 1) t) h).0 (entries_set legal (i + 1) t k x (subst (λ m. legal m x ≡ true) q p) (and_parts (entry legal i e) (entries legal (i + 1) t) h).1)

pub legal_set : {X : Type 0} (legal : ℕ → X → Bool) (t : List (Option X)) (k : ℕ) (x : X) → legal k x ≡ true → entries legal 0 t ≡ true → entries legal 0 (set t k (Some x)) ≡ true
legal_set legal t k x p h = let q : k ≡ 0 + k = omega arith in entries_set legal 0 t k x (subst (λ m. legal m x ≡ true) q p) h

-- what stands in a table is legal
entries_at : {X : Type 0} (legal : ℕ → X → Bool) (i : ℕ) (t : List (Option X)) (k : ℕ) (x : X) → entries legal i t ≡ true → get_or t k None ≡ Some x → legal (i + k) x ≡ true
entries_at legal i [] k x h e = let z : ◌≡◌ {A = ℕ} 0 1 = cc in absurd (omega arith)
entries_at legal i (o ∷ t) zero x h e =
    let q : i ≡ i + 0 = omega arith in
    subst (λ m. legal m x ≡ true) q (sym (ap (entry legal i) e) ∙ (and_parts (entry legal i o) (entries legal (i + 1) t) h).0)
entries_at legal i (o ∷ t) (suc k) x h e =
    let q : i + 1 + k ≡ i + suc k = omega arith in
    subst (λ m. legal m x ≡ true) q (entries_at legal (i + 1) t k x (and_parts (entry legal i o) (entries legal (i + 1) t) h).1 e)

pub legal_at : {X : Type 0} (legal : ℕ → X → Bool) (t : List (Option X)) (k : ℕ) (x : X) → entries legal 0 t ≡ true → get_or t k None ≡ Some x → legal k x ≡ true
legal_at legal t k x h e = let q : 0 + k ≡ k = omega arith in subst (λ m. legal m x ≡ true) q (entries_at legal 0 t k x h e)

turned : (m n : Name) → eqb (rank m) (rank n) ≡ false → eqb (rank n) (rank m) ≡ false
turned m n h = ne_eqb _ _ (λ r. eqb-false _ _ h (sym r))

has_set : (m n : Name) (t : List (Option Name)) (k : ℕ) → has_name m t ≡ false → eqb (rank n) (rank m) ≡ false → has_name m (set t k (Some n)) ≡ false
has_set m n [] k h e = h
has_set m n (x ∷ t) zero h e = or_from _ _ e (or_parts (is_name m x) (has_name m t) h).1
has_set m n (x ∷ t) (suc k) h e = or_from _ _ (or_parts (is_name m x) (has_name m t) h).0 (has_set m n t k (or_parts (is_name m x) (has_name m t) h).1 e)

-- a new name at a free number
pub apart_set : (t : List (Option Name)) (k : ℕ) (n : Name) → apart t ≡ true → get_or t k None ≡ None → has_name n t ≡ false → apart (set t k (Some n)) ≡ true
apart_set [] k n a e h = refl
apart_set (None ∷ t) zero n a e h = and_from _ _ (ap not h) a
apart_set (Some m ∷ t) zero n a e h = let z : ◌≡◌ {A = ℕ} 0 1 = cc in absurd (omega arith)
apart_set (None ∷ t) (suc k) n a e h = apart_set t k n a e h
apart_set (Some m ∷ t) (suc k) n a e h =
    let p = or_parts (eqb (rank m) (rank n)) (has_name n t) h in
    let q = and_parts (not (has_name m t)) (apart t) a in
    and_from _ _ (ap not (has_set m n t k (not-true (has_name m t) q.0) (turned m n p.0))) (apart_set t k n q.1 e p.1)

-- two patterns meet in either order
meets_turned : (f v g u : ℕ) → meets f v g (Some u) ≡ false → meets g u f (Some v) ≡ false
meets_turned f v g u h =
    let p = or_parts (eqb f g) (begins f v g u || begins g u f v) h in
    let q = or_parts (begins f v g u) (begins g u f v) p.1 in
    or_from _ _ (ne_eqb g f (λ r. eqb-false f g p.0 (sym r))) (or_from _ _ q.1 q.0)

clash_set : (f v g : ℕ) (ps : List (Option ℕ)) (k x : ℕ) → clashes f v g ps ≡ false → meets f v (g + k) (Some x) ≡ false → clashes f v g (set ps k (Some x)) ≡ false
clash_set f v g [] k x h m = h
clash_set f v g (p ∷ ps) zero x h m =
    let q : g + 0 ≡ g = omega arith in
    or_from _ _ (subst (λ j. meets f v j (Some x) ≡ false) q m) (or_parts (meets f v g p) (clashes f v (g + 1) ps) h).1
clash_set f v g (p ∷ ps) (suc k) x h m =
    let q : g + suc k ≡ g + 1 + k = omega arith in
    let r = or_parts (meets f v g p) (clashes f v (g + 1) ps) h in
    or_from _ _ r.0 (clash_set f v (g + 1) ps k x r.1 (subst (λ j. meets f v j (Some x) ≡ false) q m))

parted_at : (i : ℕ) (ps : List (Option ℕ)) (k x : ℕ) → clashes (i + k) x i ps ≡ false → parted i ps ≡ true → parted i (set ps k (Some x)) ≡ true
parted_at i [] k x c h = refl
parted_at i (None ∷ ps) zero x c h =
    let q : i + 0 ≡ i = omega arith in
    and_from _ _ (ap not (subst (λ j. clashes j x (i + 1) ps ≡ false) q c)) h
parted_at i (Some u ∷ ps) zero x c h =
    let q : i + 0 ≡ i = omega arith in
    let r = or_parts (meets (i + 0) x i (Some u)) (clashes (i + 0) x (i + 1) ps) c in
    absurd (eqb-false (i + 0) i (or_parts (eqb (i + 0) i) _ r.0).0 q)
parted_at i (None ∷ ps) (suc k) x c h =
    let q : i + suc k ≡ i + 1 + k = omega arith in
    parted_at (i + 1) ps k x (subst (λ j. clashes j x (i + 1) ps ≡ false) q c) h
parted_at i (Some u ∷ ps) (suc k) x c h =
    let q : i + suc k ≡ i + 1 + k = omega arith in
    let r = or_parts (meets (i + suc k) x i (Some u)) (clashes (i + suc k) x (i + 1) ps) c in
    let m = and_parts (not (clashes i u (i + 1) ps)) (parted (i + 1) ps) h in
    and_from _ _ (ap not (clash_set i u (i + 1) ps k x (not-true _ m.0) (subst (λ j. meets i u j (Some x) ≡ false) q (meets_turned (i + suc k) x i u r.0)))) (parted_at (i + 1) ps k x (subst (λ j. clashes j x (i + 1) ps ≡ false) q r.1) m.1)

-- a pattern that clashes with none
pub parted_set : (ps : List (Option ℕ)) (k x : ℕ) → clashes k x 0 ps ≡ false → parted 0 ps ≡ true → parted 0 (set ps k (Some x)) ≡ true
parted_set ps k x c h = let q : k ≡ 0 + k = omega arith in parted_at 0 ps k x (subst (λ j. clashes j x 0 ps ≡ false) q c) h

abbrev pub every_name : (Name → Bool) → List Name → Bool
every_name P [] = true
every_name P (n ∷ ns) = P n && every_name P ns

pub named_every : (P : Name → Bool) (ns : List Name) (s : Bytes) (n : Name) → every_name P ns ≡ true → first spelled ns s ≡ Some n → P n ≡ true
named_every P [] s n a e = let z : ◌≡◌ {A = ℕ} 0 1 = cc in absurd (omega arith)
named_every P (m ∷ ns) s n a e =
    ⊎_elim
    (λ t. let i : Some m ≡ Some n = sym (cond-true (bytes_eq (spelled m) s) (Some m) (first spelled ns s) t) ∙ e in let q : m ≡ n = cc in subst (λ x. P x ≡ true) q (and_parts (P m) (every_name P ns) a).0)
    (λ t. named_every P ns s n (and_parts (P m) (every_name P ns) a).1 (sym (cond-false (bytes_eq (spelled m) s) (Some m) (first spelled ns s) t) ∙ e))
    (cases_Bool (bytes_eq (spelled m) s))

bits_bound : (i n : ℕ) (ds : Bytes) (v : ℕ) → n < 2 ^ i → bits n ds ≡ Some v → v < 2 ^ (i + length ds)
bits_bound i n [] v h e =
    let q : n ≡ v = cc in
    let z : i + 0 ≡ i = omega arith in
    subst (λ m. v < 2 ^ m) (sym z) (subst (λ m. m < 2 ^ i) q h)
bits_bound i n (d ∷ ds) v h e =
    let p : 2 ^ (i + 1) ≡ 2 ^ i * 2 = pow-add 2 i 1 in
    let z : i + 1 + length ds ≡ i + suc (length ds) = omega arith in
    let Q : Option ℕ → Type 0 = λ o. o ≡ Some v → v < 2 ^ (i + suc (length ds)) in
    let w : (m : ℕ) → m < 2 ^ (i + 1) → bits m ds ≡ Some v → v < 2 ^ (i + suc (length ds)) = λ m l r. subst (λ x. v < 2 ^ x) z (bits_bound (i + 1) m ds v l r) in
    cond_both (eqb d 48) (bits (n * 2) ds) _ Q
    (λ _. w (n * 2) (omega arith))
    (λ _. cond_both (eqb d 49) (bits (n * 2 + 1) ds) None Q (λ _. w (n * 2 + 1) (omega arith)) (λ _ r. let y : ◌≡◌ {A = ℕ} 0 1 = cc in absurd (omega arith)))
    e

pub pattern_fits : (i : ℕ) (s : Bytes) (v : ℕ) → pattern_of (length_at i) s ≡ Some v → legal_pattern i v ≡ true
pattern_fits i s v e =
    cond_both (eqb (length s) (length_at i)) (bits 0 s) None (λ o. o ≡ Some v → legal_pattern i v ≡ true)
    (λ t r.
    let q : 0 + length s ≡ length_at i = omega (arith, eqb-true (length s) (length_at i) t) in
    lt-ltb v (2 ^ length_at i) (subst (λ m. v < 2 ^ m) q (bits_bound 0 0 s v (omega arith) r)))
    (λ _ r. let z : ◌≡◌ {A = ℕ} 0 1 = cc in absurd (omega arith))
    e
