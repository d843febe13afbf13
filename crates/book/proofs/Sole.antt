use Rattle.std.proofs.Common.{◌≡◌, ℕ, zero, suc, ◌+◌, ◌/◌, ◌%◌, ◌<◌, ◌≤◌, true, false, cond, not, eqb, leb, List, [], ◌∷◌, get_or, ℤ, pos, Some, None, Option, sym, refl, ap, ◌∙◌, subst, ⊎_elim, arith}
use Rattle.isa.specs.declared.name.Name.{Name}
use Rattle.isa.specs.declared.name.Name.TheVariants.{Mbs, Cpbs, Trbs, Scbs, Mhs, Rk, Hrk, Sfn, Sim, Sfm}
use Rattle.isa.specs.declared.format.Format.{Format}
use Rattle.isa.specs.declared.format.Format.TheVariants.{A1, A2, A3, A4, A5, L, B}
use Rattle.isa.specs.declared.reading.Reading.TheVariants.{Defined}
use Rattle.isa.specs.Names.{rank}
use Rattle.book.specs.declared.tables.Tables.{Tables}
use Rattle.std.proofs.lemmas.Bool.{eq-eqb, ne_eqb, eqb-true, eqb-false, or_parts, and_parts, not-true, both_ways, cond-true, cond-false, lt-ltb, le-ltb, ltb-true, leb-true, cases_Bool}
use Rattle.isa.proofs.Ranks.{rank_tells}
use Rattle.book.specs.Patterns.{meets, clashes}
use Rattle.book.specs.Sound.{between, reserved, legal_a, legal_l, legal_b, legal_pattern, free, parted}
use Rattle.book.specs.Wholes.{whole_of, word_of}
use Rattle.book.specs.Readings.{is_pattern, format_at, m_field, d_field, meaning}
use Rattle.book.specs.Layout.{LaysL, LaysBitl, LaysWhole, Lays}
use Rattle.book.proofs.Facts.{Facts}
use Rattle.book.proofs.Entering.{legal_at}
use Rattle.book.proofs.Layouts.{is_pattern-some}

range : (low high k : ℕ) → between low high k ≡ true → (low ≤ k) × (k ≤ high)
range low high k h = let p = and_parts (leb low k) (leb k high) h in (leb-true low k p.0, leb-true k high p.1)

-- of two patterns, neither begins the other
clash_at : (f v g : ℕ) (ps : List (Option ℕ)) (k x : ℕ) → clashes f v g ps ≡ false → get_or ps k None ≡ Some x → meets f v (g + k) (Some x) ≡ false
clash_at f v g [] k x h e = let z : ◌≡◌ {A = ℕ} 0 1 = cc in absurd (omega arith)
clash_at f v g (p ∷ ps) zero x h e =
    let q : g ≡ g + 0 = omega arith in
    subst (λ j. meets f v j (Some x) ≡ false) q (sym (ap (meets f v g) e) ∙ (or_parts (meets f v g p) (clashes f v (g + 1) ps) h).0)
clash_at f v g (p ∷ ps) (suc k) x h e =
    let q : g + 1 + k ≡ g + suc k = omega arith in
    subst (λ j. meets f v j (Some x) ≡ false) q (clash_at f v (g + 1) ps k x (or_parts (meets f v g p) (clashes f v (g + 1) ps) h).1 e)

pair : (i : ℕ) (ps : List (Option ℕ)) (j k u v : ℕ) → parted i ps ≡ true → j < k → get_or ps j None ≡ Some u → get_or ps k None ≡ Some v → meets (i + j) u (i + k) (Some v) ≡ false
pair i [] j k u v h l a b = let z : ◌≡◌ {A = ℕ} 0 1 = cc in absurd (omega arith)
pair i (p ∷ ps) j zero u v h l a b = absurd (omega arith)
pair i (p ∷ ps) zero (suc k) u v h l a b =
    let c : clashes i u (i + 1) ps ≡ false = not-true _ (sym (ap (λ o. free i o ps) a) ∙ (and_parts (free i p ps) (parted (i + 1) ps) h).0) in
    let q : i ≡ i + 0 = omega arith in
    let r : i + 1 + k ≡ i + suc k = omega arith in
    subst (λ x. meets x u (i + suc k) (Some v) ≡ false) q (subst (λ y. meets i u y (Some v) ≡ false) r (clash_at i u (i + 1) ps k v c b))
pair i (p ∷ ps) (suc j) (suc k) u v h l a b =
    let q : i + 1 + j ≡ i + suc j = omega arith in
    let r : i + 1 + k ≡ i + suc k = omega arith in
    subst (λ x. meets x u (i + suc k) (Some v) ≡ false) q (subst (λ y. meets (i + 1 + j) u y (Some v) ≡ false) r (pair (i + 1) ps j k u v (and_parts (free i p ps) (parted (i + 1) ps) h).1 (omega arith) a b))

-- so a pattern that would meet one that stands later is not there
misses : (t : Tables) → Facts t → (j k u v : ℕ) → j < k → get_or t.patterns k None ≡ Some v → meets j u k (Some v) ≡ true → is_pattern (get_or t.patterns j None) u ≡ false
misses t g j k u v l e m =
    ⊎_elim
    (λ h.
    let p : j ≡ 0 + j = omega arith in
    let q : k ≡ 0 + k = omega arith in
    let c = pair 0 t.patterns j k u v g.p_parted l (is_pattern-some _ u h) e in
    absurd (both_ways (meets (0 + j) u (0 + k) (Some v)) c (subst (λ x. meets x u (0 + k) (Some v) ≡ true) p (subst (λ y. meets j u y (Some v) ≡ true) q m))))
    (λ h. h)
    (cases_Bool (is_pattern (get_or t.patterns j None) u))

-- an A word, whose number and pattern are found
found_a : (t : Tables) (w k : ℕ) (n : Name) (f : Format) (m : ℕ) (d : ℤ) → legal_a k n ≡ true → get_or t.a k None ≡ Some n → w / 1024 ≡ k → format_at t.patterns (w / 64 % 16) ≡ Some f → m_field f w ≡ m → d ≡ pos (d_field f w) → meaning t w ≡ Defined n f m d
found_a t w k n f m d h name q p m_is d_is =
    let b = range 16 63 k (and_parts (between 16 63 k) _ h).0 in
    let a1 = le-ltb w 1024 (omega arith) in
    let a2 = le-ltb w 4096 (omega arith) in
    let a3 = le-ltb w 16384 (omega arith) in
    simp (a1, a2, a3, p, q, name, m_is, d_is)

sole_a1 : (t : Tables) → Facts t → (w : ℕ) (n : Name) (m : ℕ) (d : ℤ) → Lays t w n A1 m d → meaning t w ≡ Defined n A1 m d
sole_a1 t g w n m d l =
    let k : ℕ = l.k in
    let v : ℕ = l.v in
    let h = legal_at legal_a t.a l.k n g.a_legal l.name in
    let b = range 16 63 l.k (and_parts (between 16 63 l.k) _ h).0 in
    let lim = ltb-true l.v 4 (legal_at legal_pattern t.patterns 0 l.v g.p_legal l.pattern) in
    let own : is_pattern (get_or t.patterns 0 None) (w / 64 % 16 / 4) ≡ true = ap (λ o. is_pattern o (w / 64 % 16 / 4)) l.pattern ∙ eq-eqb l.v (w / 64 % 16 / 4) (omega arith) in
    let x : l.x ≡ w % 256 = omega arith in
    found_a t w l.k n A1 m d h l.name (omega arith) (simp own) (omega arith) (l.d_is ∙ ap pos x)

sole_a2 : (t : Tables) → Facts t → (w : ℕ) (n : Name) (m : ℕ) (d : ℤ) → Lays t w n A2 m d → meaning t w ≡ Defined n A2 m d
sole_a2 t g w n m d l =
    let k : ℕ = l.k in
    let v : ℕ = l.v in
    let h = legal_at legal_a t.a l.k n g.a_legal l.name in
    let b = range 16 63 l.k (and_parts (between 16 63 l.k) _ h).0 in
    let lim = ltb-true l.v 2 (legal_at legal_pattern t.patterns 1 l.v g.p_legal l.pattern) in
    let own : is_pattern (get_or t.patterns 1 None) (w / 64 % 16 / 8) ≡ true = ap (λ o. is_pattern o (w / 64 % 16 / 8)) l.pattern ∙ eq-eqb l.v (w / 64 % 16 / 8) (omega arith) in
    let e0 : eqb ((w / 64 % 16 / 4) / 2) l.v ≡ true = eq-eqb ((w / 64 % 16 / 4) / 2) l.v (omega arith) in
    let n0 : is_pattern (get_or t.patterns 0 None) (w / 64 % 16 / 4) ≡ false = misses t g 0 1 (w / 64 % 16 / 4) l.v (omega arith) l.pattern (simp e0) in
    let x : l.x ≡ w % 128 = omega arith in
    found_a t w l.k n A2 m d h l.name (omega arith) (simp (n0, own)) (omega arith) (l.d_is ∙ ap pos x)

sole_a3 : (t : Tables) → Facts t → (w : ℕ) (n : Name) (m : ℕ) (d : ℤ) → Lays t w n A3 m d → meaning t w ≡ Defined n A3 m d
sole_a3 t g w n m d l =
    let k : ℕ = l.k in
    let v : ℕ = l.v in
    let h = legal_at legal_a t.a l.k n g.a_legal l.name in
    let b = range 16 63 l.k (and_parts (between 16 63 l.k) _ h).0 in
    let lim = ltb-true l.v 16 (legal_at legal_pattern t.patterns 2 l.v g.p_legal l.pattern) in
    let own : is_pattern (get_or t.patterns 2 None) (w / 64 % 16) ≡ true = ap (λ o. is_pattern o (w / 64 % 16)) l.pattern ∙ eq-eqb l.v (w / 64 % 16) (omega arith) in
    let e0 : eqb (l.v / 4) (w / 64 % 16 / 4) ≡ true = eq-eqb (l.v / 4) (w / 64 % 16 / 4) (omega arith) in
    let n0 : is_pattern (get_or t.patterns 0 None) (w / 64 % 16 / 4) ≡ false = misses t g 0 2 (w / 64 % 16 / 4) l.v (omega arith) l.pattern (simp e0) in
    let e1 : eqb (l.v / 8) (w / 64 % 16 / 8) ≡ true = eq-eqb (l.v / 8) (w / 64 % 16 / 8) (omega arith) in
    let n1 : is_pattern (get_or t.patterns 1 None) (w / 64 % 16 / 8) ≡ false = misses t g 1 2 (w / 64 % 16 / 8) l.v (omega arith) l.pattern (simp e1) in
    let x : l.x ≡ w % 64 = omega arith in
    found_a t w l.k n A3 m d h l.name (omega arith) (simp (n0, n1, own)) (omega arith) (l.d_is ∙ ap pos x)

sole_a4 : (t : Tables) → Facts t → (w : ℕ) (n : Name) (m : ℕ) (d : ℤ) → Lays t w n A4 m d → meaning t w ≡ Defined n A4 m d
sole_a4 t g w n m d l =
    let k : ℕ = l.k in
    let v : ℕ = l.v in
    let h = legal_at legal_a t.a l.k n g.a_legal l.name in
    let b = range 16 63 l.k (and_parts (between 16 63 l.k) _ h).0 in
    let lim = ltb-true l.v 8 (legal_at legal_pattern t.patterns 3 l.v g.p_legal l.pattern) in
    let own : is_pattern (get_or t.patterns 3 None) (w / 64 % 16 / 2) ≡ true = ap (λ o. is_pattern o (w / 64 % 16 / 2)) l.pattern ∙ eq-eqb l.v (w / 64 % 16 / 2) (omega arith) in
    let e0 : eqb (l.v / 2) (w / 64 % 16 / 4) ≡ true = eq-eqb (l.v / 2) (w / 64 % 16 / 4) (omega arith) in
    let n0 : is_pattern (get_or t.patterns 0 None) (w / 64 % 16 / 4) ≡ false = misses t g 0 3 (w / 64 % 16 / 4) l.v (omega arith) l.pattern (simp e0) in
    let e1 : eqb (l.v / 4) (w / 64 % 16 / 8) ≡ true = eq-eqb (l.v / 4) (w / 64 % 16 / 8) (omega arith) in
    let n1 : is_pattern (get_or t.patterns 1 None) (w / 64 % 16 / 8) ≡ false = misses t g 1 3 (w / 64 % 16 / 8) l.v (omega arith) l.pattern (simp e1) in
    let e2 : eqb ((w / 64 % 16) / 2) l.v ≡ true = eq-eqb ((w / 64 % 16) / 2) l.v (omega arith) in
    let n2 : is_pattern (get_or t.patterns 2 None) (w / 64 % 16) ≡ false = misses t g 2 3 (w / 64 % 16) l.v (omega arith) l.pattern (simp e2) in
    let x : l.x ≡ w % 32 = omega arith in
    found_a t w l.k n A4 m d h l.name (omega arith) (simp (n0, n1, n2, own)) (omega arith) (l.d_is ∙ ap pos x)

sole_a5 : (t : Tables) → Facts t → (w : ℕ) (n : Name) (m : ℕ) (d : ℤ) → Lays t w n A5 m d → meaning t w ≡ Defined n A5 m d
sole_a5 t g w n m d l =
    let k : ℕ = l.k in
    let v : ℕ = l.v in
    let h = legal_at legal_a t.a l.k n g.a_legal l.name in
    let b = range 16 63 l.k (and_parts (between 16 63 l.k) _ h).0 in
    let lim = ltb-true l.v 16 (legal_at legal_pattern t.patterns 4 l.v g.p_legal l.pattern) in
    let own : is_pattern (get_or t.patterns 4 None) (w / 64 % 16) ≡ true = ap (λ o. is_pattern o (w / 64 % 16)) l.pattern ∙ eq-eqb l.v (w / 64 % 16) (omega arith) in
    let e0 : eqb (l.v / 4) (w / 64 % 16 / 4) ≡ true = eq-eqb (l.v / 4) (w / 64 % 16 / 4) (omega arith) in
    let n0 : is_pattern (get_or t.patterns 0 None) (w / 64 % 16 / 4) ≡ false = misses t g 0 4 (w / 64 % 16 / 4) l.v (omega arith) l.pattern (simp e0) in
    let e1 : eqb (l.v / 8) (w / 64 % 16 / 8) ≡ true = eq-eqb (l.v / 8) (w / 64 % 16 / 8) (omega arith) in
    let n1 : is_pattern (get_or t.patterns 1 None) (w / 64 % 16 / 8) ≡ false = misses t g 1 4 (w / 64 % 16 / 8) l.v (omega arith) l.pattern (simp e1) in
    let e2 : eqb (l.v / 1) (w / 64 % 16) ≡ true = eq-eqb (l.v / 1) (w / 64 % 16) (omega arith) in
    let n2 : is_pattern (get_or t.patterns 2 None) (w / 64 % 16) ≡ false = misses t g 2 4 (w / 64 % 16) l.v (omega arith) l.pattern (simp e2) in
    let e3 : eqb (l.v / 2) (w / 64 % 16 / 2) ≡ true = eq-eqb (l.v / 2) (w / 64 % 16 / 2) (omega arith) in
    let n3 : is_pattern (get_or t.patterns 3 None) (w / 64 % 16 / 2) ≡ false = misses t g 3 4 (w / 64 % 16 / 2) l.v (omega arith) l.pattern (simp e3) in
    let x : l.x ≡ w % 16 = omega arith in
    found_a t w l.k n A5 m d h l.name (omega arith) (simp (n0, n1, n2, n3, own)) (omega arith) (l.d_is ∙ ap pos x)

sole_b : (t : Tables) → Facts t → (w : ℕ) (n : Name) (m : ℕ) (d : ℤ) → Lays t w n B m d → meaning t w ≡ Defined n B m d
sole_b t g w n m d l =
    let b = range 1 3 l.k (and_parts (between 1 3 l.k) _ (legal_at legal_b t.b l.k n g.b_legal l.name)).0 in
    let a1 = le-ltb w 1024 (omega arith) in
    let a2 = lt-ltb w 4096 (omega arith) in
    let q : w / 1024 ≡ l.k = omega arith in
    let r : w % 1024 ≡ l.x = omega arith in
    let name = l.name in
    let m_is = l.m_is in
    let d_is = l.d_is in
    simp (a1, a2, q, r, name, m_is, d_is)

-- the whole words lie under four numbers
no_whole : (w : ℕ) → (w / 256 ≡ 18 → ⊥) → (w / 256 ≡ 23 → ⊥) → (w / 256 ≡ 39 → ⊥) → (w / 256 ≡ 55 → ⊥) → whole_of w ≡ None
no_whole w h18 h23 h39 h55 =
    let e0 = ne_eqb w 0x2700 (λ r. h39 (omega arith)) in
    let e1 = ne_eqb w 0x2740 (λ r. h39 (omega arith)) in
    let e2 = ne_eqb w 0x2780 (λ r. h39 (omega arith)) in
    let e3 = ne_eqb w 0x27c0 (λ r. h39 (omega arith)) in
    let e4 = ne_eqb w 0x3700 (λ r. h55 (omega arith)) in
    let e5 = ne_eqb w 0x1200 (λ r. h18 (omega arith)) in
    let e6 = ne_eqb w 0x1201 (λ r. h18 (omega arith)) in
    let e7 = ne_eqb w 0x1202 (λ r. h18 (omega arith)) in
    let e8 = ne_eqb w 0x1700 (λ r. h23 (omega arith)) in
    let e9 = ne_eqb w 0x1701 (λ r. h23 (omega arith)) in
    simp (e0, e1, e2, e3, e4, e5, e6, e7, e8, e9)

sole_l : (t : Tables) → Facts t → (w : ℕ) (n : Name) (m : ℕ) (d : ℤ) → LaysL t w n m d → meaning t w ≡ Defined n L m d
sole_l t g w n m d l =
    let legal = legal_at legal_l t.l l.k n g.l_legal l.name in
    let b = range 16 63 l.k (and_parts (between 16 63 l.k) _ legal).0 in
    let f = not-true (reserved l.k) (and_parts (not (reserved l.k)) _ (and_parts (between 16 63 l.k) _ legal).1).0 in
    let f18 = or_parts (eqb l.k 18) _ f in
    let f22 = or_parts (eqb l.k 22) _ f18.1 in
    let f23 = or_parts (eqb l.k 23) _ f22.1 in
    let f39 = or_parts (eqb l.k 39) (eqb l.k 55) f23.1 in
    let q : w / 256 ≡ l.k = omega arith in
    let r : w % 256 ≡ l.x = omega arith in
    let a1 = le-ltb w 1024 (omega arith) in
    let a2 = le-ltb w 4096 (omega arith) in
    let a3 = lt-ltb w 16384 (omega arith) in
    let none = no_whole w (λ e. eqb-false l.k 18 f18.0 (omega arith)) (λ e. eqb-false l.k 23 f23.0 (omega arith)) (λ e. eqb-false l.k 39 f39.0 (omega arith)) (λ e. eqb-false l.k 55 f39.1 (omega arith)) in
    let no-bitl = f22.0 in
    let name = l.name in
    let m_is = l.m_is in
    let d_is = l.d_is in
    simp (a1, a2, a3, none, q, no-bitl, r, name, m_is, d_is)

sole_bitl : (t : Tables) (w : ℕ) (n : Name) (m : ℕ) (d : ℤ) → LaysBitl w n m d → meaning t w ≡ Defined n L m d
sole_bitl t w n m d l =
    let q : w / 256 ≡ 22 = omega arith in
    let r : w % 256 ≡ l.x = omega arith in
    let a1 = le-ltb w 1024 (omega arith) in
    let a2 = le-ltb w 4096 (omega arith) in
    let a3 = lt-ltb w 16384 (omega arith) in
    let none = no_whole w (λ e. omega arith) (λ e. omega arith) (λ e. omega arith) (λ e. omega arith) in
    let name = l.name in
    let m_is = l.m_is in
    let d_is = l.d_is in
    simp (a1, a2, a3, none, q, r, name, m_is, d_is)

-- one of the whole words, or a later one
step : (t : Tables) (w v : ℕ) (m n : Name) (rest : Option ℕ) → meaning t v ≡ Defined m L 0 (pos 0) → cond (eqb (rank m) (rank n)) (Some v) rest ≡ Some w → (rest ≡ Some w → meaning t w ≡ Defined n L 0 (pos 0)) → meaning t w ≡ Defined n L 0 (pos 0)
step t w v m n rest e h k =
    ⊎_elim
    (λ b.
    let i : Some v ≡ Some w = sym (cond-true (eqb (rank m) (rank n)) (Some v) rest b) ∙ h in
    let vw : v ≡ w = cc in
    let mn : m ≡ n = rank_tells m n (eqb-true (rank m) (rank n) b) in
    sym (ap (meaning t) vw) ∙ e ∙ ap (λ x. Defined x L 0 (pos 0)) mn)
    (λ b. k (sym (cond-false (eqb (rank m) (rank n)) (Some v) rest b) ∙ h))
    (cases_Bool (eqb (rank m) (rank n)))

whole_reads : (t : Tables) (w : ℕ) (n : Name) → word_of n ≡ Some w → meaning t w ≡ Defined n L 0 (pos 0)
whole_reads t w n h = step t w 0x2700 Mbs n _ refl h (λ g. step t w 0x2740 Cpbs n _ refl g (λ g. step t w 0x2780 Trbs n _ refl g (λ g. step t w 0x27c0 Scbs n _ refl g (λ g. step t w 0x3700 Mhs n _ refl g (λ g. step t w 0x1200 Rk n _ refl g (λ g. step t w 0x1201 Hrk n _ refl g (λ g. step t w 0x1202 Sfn n _ refl g (λ g. step t w 0x1700 Sim n _ refl g (λ g. step t w 0x1701 Sfm n _ refl g (λ g. let z : ◌≡◌ {A = ℕ} 0 1 = cc in absurd (omega arith)))))))))))

sole_whole : (t : Tables) (w : ℕ) (n : Name) (m : ℕ) (d : ℤ) → LaysWhole w n m d → meaning t w ≡ Defined n L m d
sole_whole t w n m d l =
    let m_is = l.m_is in
    let d_is = l.d_is in
    simp (m_is, d_is) (whole_reads t w n l.word)

-- a layout of a word is its reading
pub sole : (t : Tables) → Facts t → (w : ℕ) (n : Name) (f : Format) (m : ℕ) (d : ℤ) → Lays t w n f m d → meaning t w ≡ Defined n f m d
sole t g w n A1 m d l = sole_a1 t g w n m d l
sole t g w n A2 m d l = sole_a2 t g w n m d l
sole t g w n A3 m d l = sole_a3 t g w n m d l
sole t g w n A4 m d l = sole_a4 t g w n m d l
sole t g w n A5 m d l = sole_a5 t g w n m d l
sole t g w n L m d l = ⊎_elim (sole_whole t w n m d) (⊎_elim (sole_bitl t w n m d) (sole_l t g w n m d)) l
sole t g w n B m d l = sole_b t g w n m d l
