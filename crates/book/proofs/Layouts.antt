use Rattle.std.proofs.Common.{◌≡◌, ℕ, ◌/◌, ◌%◌, true, cond, eqb, ltb, get_or, pos, Some, None, Option, sym, refl, ap, ◌∙◌, inl, inr, ⊎_elim, arith}
use Rattle.isa.specs.declared.name.Name.{Name}
use Rattle.isa.specs.declared.name.Name.TheVariants.{Mbs, Cpbs, Trbs, Scbs, Mhs, Rk, Hrk, Sfn, Sim, Sfm, Bitl}
use Rattle.isa.specs.declared.format.Format.{Format}
use Rattle.isa.specs.declared.format.Format.TheVariants.{A1, A2, A3, A4, A5, L}
use Rattle.isa.specs.declared.reading.Reading.{Reading}
use Rattle.isa.specs.declared.reading.Reading.TheVariants.{Undefined, NoPattern, Defined}
use Rattle.book.specs.declared.tables.Tables.{Tables}
use Rattle.std.proofs.lemmas.Bool.{eqb-true, cond-true, cond-false, cond_both, cases_Bool, false≢true}
use Rattle.book.specs.Wholes.{whole_of, word_of}
use Rattle.book.specs.Readings.{b_reading, named_l_reading, l_reading_by, is_pattern, named_a_reading, a_reading_by, meaning}
use Rattle.book.specs.Layout.{Lays}

-- a defined reading is a layout
abbrev pub IsLayoutIfDefined : Tables → ℕ → Reading → Type 0
IsLayoutIfDefined t w Undefined = Unit {0}
IsLayoutIfDefined t w NoPattern = Unit {0}
IsLayoutIfDefined t w (Defined n f m d) = Lays t w n f m d

step : (w v : ℕ) (m n : Name) (rest : Option Name) → word_of m ≡ Some v → cond (eqb w v) (Some m) rest ≡ Some n → (rest ≡ Some n → word_of n ≡ Some w) → word_of n ≡ Some w
step w v m n rest e h k =
    ⊎_elim
    (λ t.
    let i : Some m ≡ Some n = sym (cond-true (eqb w v) (Some m) rest t) ∙ h in
    let mn : m ≡ n = cc in
    sym (ap word_of mn) ∙ e ∙ ap Some (sym (eqb-true w v t)))
    (λ t. k (sym (cond-false (eqb w v) (Some m) rest t) ∙ h))
    (cases_Bool (eqb w v))

whole_back : (w : ℕ) (n : Name) → whole_of w ≡ Some n → word_of n ≡ Some w
whole_back w n h = step w 0x2700 Mbs n _ refl h (λ g. step w 0x2740 Cpbs n _ refl g (λ g. step w 0x2780 Trbs n _ refl g (λ g. step w 0x27c0 Scbs n _ refl g (λ g. step w 0x3700 Mhs n _ refl g (λ g. step w 0x1200 Rk n _ refl g (λ g. step w 0x1201 Hrk n _ refl g (λ g. step w 0x1202 Sfn n _ refl g (λ g. step w 0x1700 Sim n _ refl g (λ g. step w 0x1701 Sfm n _ refl g (λ g. let z : ◌≡◌ {A = ℕ} 0 1 = cc in absurd (omega arith)))))))))))

b_is_layout : (t : Tables) (w : ℕ) (o : Option Name) → get_or t.b (w / 1024) None ≡ o → IsLayoutIfDefined t w (b_reading o w)
b_is_layout t w None e = tt
b_is_layout t w (Some n) e = record { k = w / 1024; x = w % 1024; name = e; m_is = refl; d_fits = omega arith; d_is = refl; word = omega arith }

l_is_layout : (t : Tables) (w : ℕ) (o : Option Name) → get_or t.l (w / 256) None ≡ o → IsLayoutIfDefined t w (named_l_reading o w)
l_is_layout t w None e = tt
l_is_layout t w (Some n) e = inr (inr (record { k = w / 256; x = w % 256; name = e; m_is = refl; d_fits = omega arith; d_is = refl; word = omega arith }))

whole_is_layout : (t : Tables) (w : ℕ) (o : Option Name) → whole_of w ≡ o → IsLayoutIfDefined t w (l_reading_by o t w)
whole_is_layout t w (Some n) e = inl (record { m_is = refl; d_is = refl; word = whole_back w n e })
whole_is_layout t w None e =
    cond_both (eqb (w / 256) 22) (Defined Bitl L 0 (pos (w % 256))) (named_l_reading (get_or t.l (w / 256) None) w) (IsLayoutIfDefined t w)
    (λ b. let q = eqb-true (w / 256) 22 b in inr (inl (record { x = w % 256; name = refl; m_is = refl; d_fits = omega arith; d_is = refl; word = omega arith })))
    (λ _. l_is_layout t w (get_or t.l (w / 256) None) refl)

pub is_pattern-some : (p : Option ℕ) (x : ℕ) → is_pattern p x ≡ true → p ≡ Some x
is_pattern-some None x h = absurd (false≢true h)
is_pattern-some (Some v) x h = ap Some (eqb-true v x h)

a1_is_layout : (t : Tables) (w : ℕ) → is_pattern (get_or t.patterns 0 None) (w / 64 % 16 / 4) ≡ true → (o : Option Name) → get_or t.a (w / 1024) None ≡ o → IsLayoutIfDefined t w (named_a_reading o A1 w)
a1_is_layout t w h None e = tt
a1_is_layout t w h (Some n) e = record { k = w / 1024; v = w / 64 % 16 / 4; x = w % 256; name = e; pattern = is_pattern-some _ _ h; m_fits = omega arith; d_fits = omega arith; d_is = refl; word = omega arith }

a2_is_layout : (t : Tables) (w : ℕ) → is_pattern (get_or t.patterns 1 None) (w / 64 % 16 / 8) ≡ true → (o : Option Name) → get_or t.a (w / 1024) None ≡ o → IsLayoutIfDefined t w (named_a_reading o A2 w)
a2_is_layout t w h None e = tt
a2_is_layout t w h (Some n) e = record { k = w / 1024; v = w / 64 % 16 / 8; x = w % 128; name = e; pattern = is_pattern-some _ _ h; m_fits = omega arith; d_fits = omega arith; d_is = refl; word = omega arith }

a3_is_layout : (t : Tables) (w : ℕ) → is_pattern (get_or t.patterns 2 None) (w / 64 % 16) ≡ true → (o : Option Name) → get_or t.a (w / 1024) None ≡ o → IsLayoutIfDefined t w (named_a_reading o A3 w)
a3_is_layout t w h None e = tt
a3_is_layout t w h (Some n) e = record { k = w / 1024; v = w / 64 % 16; x = w % 64; name = e; pattern = is_pattern-some _ _ h; m_fits = omega arith; d_fits = omega arith; d_is = refl; word = omega arith }

a4_is_layout : (t : Tables) (w : ℕ) → is_pattern (get_or t.patterns 3 None) (w / 64 % 16 / 2) ≡ true → (o : Option Name) → get_or t.a (w / 1024) None ≡ o → IsLayoutIfDefined t w (named_a_reading o A4 w)
a4_is_layout t w h None e = tt
a4_is_layout t w h (Some n) e = record { k = w / 1024; v = w / 64 % 16 / 2; x = w % 32; name = e; pattern = is_pattern-some _ _ h; m_fits = omega arith; d_fits = omega arith; d_is = refl; word = omega arith }

a5_is_layout : (t : Tables) (w : ℕ) → is_pattern (get_or t.patterns 4 None) (w / 64 % 16) ≡ true → (o : Option Name) → get_or t.a (w / 1024) None ≡ o → IsLayoutIfDefined t w (named_a_reading o A5 w)
a5_is_layout t w h None e = tt
a5_is_layout t w h (Some n) e = record { k = w / 1024; v = w / 64 % 16; x = w % 16; name = e; pattern = is_pattern-some _ _ h; m_fits = omega arith; d_fits = omega arith; d_is = refl; word = omega arith }

pub reading_is_layout : (t : Tables) (w : ℕ) → IsLayoutIfDefined t w (meaning t w)
reading_is_layout t w =
    let P : Reading → Type 0 = IsLayoutIfDefined t w in
    let Q : Option Format → Type 0 = λ o. IsLayoutIfDefined t w (a_reading_by o t w) in
    let ps = t.patterns in
    let x = w / 64 % 16 in
    let n = get_or t.a (w / 1024) None in
    cond_both (ltb w 1024) Undefined _ P (λ _. tt) (λ _.
    cond_both (ltb w 4096) _ _ P (λ _. b_is_layout t w (get_or t.b (w / 1024) None) refl) (λ _.
    cond_both (ltb w 16384) _ _ P (λ _. whole_is_layout t w (whole_of w) refl) (λ _.
    cond_both (is_pattern (get_or ps 0 None) (x / 4)) (Some A1) _ Q (λ h. a1_is_layout t w h n refl) (λ _.
    cond_both (is_pattern (get_or ps 1 None) (x / 8)) (Some A2) _ Q (λ h. a2_is_layout t w h n refl) (λ _.
    cond_both (is_pattern (get_or ps 2 None) x) (Some A3) _ Q (λ h. a3_is_layout t w h n refl) (λ _.
    cond_both (is_pattern (get_or ps 3 None) (x / 2)) (Some A4) _ Q (λ h. a4_is_layout t w h n refl) (λ _.
    cond_both (is_pattern (get_or ps 4 None) x) (Some A5) None Q (λ h. a5_is_layout t w h n refl) (λ _. tt))))))))
