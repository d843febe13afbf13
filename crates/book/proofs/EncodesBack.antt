use Rattle.std.proofs.Common.{◌≡◌, ℕ, zero, suc, ◌+◌, ◌-◌, ◌*◌, ◌<◌, ◌≤◌, Bool, true, false, cond, not, eqb, ltb, leb, List, [], ◌∷◌, get_or, ℤ, pos, Some, None, Ok, Option, sym, refl, ap, ◌∙◌, ⊎_elim, arith}
use Rattle.isa.specs.declared.name.Name.{Name}
use Rattle.isa.specs.declared.format.Format.{Format}
use Rattle.isa.specs.declared.format.Format.TheVariants.{A1, A2, A3, A4, A5, L, B}
use Rattle.isa.specs.Names.{rank}
use Rattle.book.specs.declared.tables.Tables.{Tables}
use Rattle.std.proofs.lemmas.Bool.{eq-eqb, ne_eqb, eqb-false, or_parts, and_parts, not-true, cond-true, cond-false, lt-ltb, le-ltb, cases_lt, leb-true}
use Rattle.word.specs.Fields.{as_signed, unsigned_in, signed_in}
use Rattle.book.specs.Rows.{is_name, has_name}
use Rattle.book.specs.Sound.{between, reserved, legal_l, apart}
use Rattle.book.specs.Wholes.{word_of, branches}
use Rattle.book.specs.Encode.{number_in, m_values, d_values, a_word, pattern_at, encode_a, encoding}
use Rattle.book.specs.Layout.{LaysA, LaysL, LaysBitl, LaysWhole, Lays}
use Rattle.book.proofs.Facts.{Facts}
use Rattle.book.proofs.Entering.{legal_at}

-- a name that a table lacks is not at any place of it
lacks : (m n : Name) (t : List (Option Name)) (k : ℕ) → has_name m t ≡ false → get_or t k None ≡ Some n → eqb (rank n) (rank m) ≡ false
lacks m n [] k h e = let z : ◌≡◌ {A = ℕ} 0 1 = cc in absurd (omega arith)
lacks m n (x ∷ t) zero h e = sym (ap (is_name m) e) ∙ (or_parts (is_name m x) (has_name m t) h).0
lacks m n (x ∷ t) (suc k) h e = lacks m n t k (or_parts (is_name m x) (has_name m t) h).1 e

found : (t : List (Option Name)) → apart t ≡ true → (k i : ℕ) (n : Name) → get_or t k None ≡ Some n → number_in n i t ≡ Some (i + k)
found [] a k i n e = let z : ◌≡◌ {A = ℕ} 0 1 = cc in absurd (omega arith)
found (x ∷ t) a zero i n e =
    cond-true (is_name n x) (Some i) (number_in n (i + 1) t) (ap (is_name n) e ∙ eq-eqb _ _ refl) ∙ ap Some (omega arith)
found (None ∷ t) a (suc k) i n e = found t a k (i + 1) n e ∙ ap Some (omega arith)
found (Some m ∷ t) a (suc k) i n e =
    let p = and_parts (not (has_name m t)) (apart t) a in
    let q : eqb (rank m) (rank n) ≡ false = ne_eqb _ _ (λ r. eqb-false (rank n) (rank m) (lacks m n t k (not-true _ p.0) e) (sym r)) in
    cond-false (eqb (rank m) (rank n)) (Some i) (number_in n (i + 1) t) q ∙ found t p.1 k (i + 1) n e ∙ ap Some (omega arith)

-- the number of a name that stands at k
pub numbered : (t : List (Option Name)) → apart t ≡ true → (k : ℕ) (n : Name) → get_or t k None ≡ Some n → number_in n 0 t ≡ Some k
numbered t a k n e = found t a k 0 n e ∙ ap Some (omega arith)

signed_back : (half f : ℕ) → f < 2 * half → signed_in half (as_signed half f) ≡ Some f
signed_back half f h =
    ⊎_elim
    (λ lt. let e = lt-ltb f half lt in simp e)
    (λ ge.
    let e = le-ltb f half ge in
    let g : ltb (2 * half - 1 - f) half ≡ true = lt-ltb _ _ (omega arith) in
    let v : 2 * half - 1 - (2 * half - 1 - f) ≡ f = omega arith in
    simp (e, g, v))
    (cases_lt f half)

l_back : (b : Bool) (f : ℕ) → f < 256 → cond b (signed_in 128 (cond b (as_signed 128 f) (pos f))) (unsigned_in 256 (cond b (as_signed 128 f) (pos f))) ≡ Some f
l_back true f h = signed_back 128 f h
l_back false f h = cond-true (ltb f 256) (Some f) None (lt-ltb f 256 h)

-- an L name of a book is no whole word and not BITL
plain : (n : Name) → rank n ≤ 43 → (word_of n ≡ None) × (eqb (rank n) 56 ≡ false)
plain n h =
    let e : (k : ℕ) → 43 < k → eqb k (rank n) ≡ false = λ k g. ne_eqb k (rank n) (λ r. omega arith) in
    let e0 = e 46 (omega arith) in
    let e1 = e 47 (omega arith) in
    let e2 = e 48 (omega arith) in
    let e3 = e 49 (omega arith) in
    let e4 = e 50 (omega arith) in
    let e5 = e 51 (omega arith) in
    let e6 = e 52 (omega arith) in
    let e7 = e 53 (omega arith) in
    let e8 = e 54 (omega arith) in
    let e9 = e 55 (omega arith) in
    (simp (e0, e1, e2, e3, e4, e5, e6, e7, e8, e9), ne_eqb (rank n) 56 (λ r. omega arith))

pub l_plain : (t : Tables) → Facts t → (k : ℕ) (n : Name) → get_or t.l k None ≡ Some n → (word_of n ≡ None) × (eqb (rank n) 56 ≡ false)
l_plain t g k n e =
    let h = legal_at legal_l t.l k n g.l_legal e in
    let r = (and_parts (not (reserved k)) (between 31 43 (rank n)) (and_parts (between 16 63 k) _ h).1).1 in
    plain n (leb-true (rank n) 43 (and_parts (leb 31 (rank n)) (leb (rank n) 43) r).1)

-- an A word, by the place and the unit of its format's pattern
encodes_back_a : (t : Tables) → Facts t → (w : ℕ) (n : Name) (f : Format) (m : ℕ) (d : ℤ) (place unit : ℕ) (l : LaysA t place unit (m_values f) (d_values f) w n m d) → pattern_at t f ≡ get_or t.patterns place None → a_word f l.k l.v m l.x ≡ w → encode_a t n f (pos m) d ≡ Ok w
encodes_back_a t g w n f m d place unit l p e =
    let k = numbered t.a g.a_apart l.k n l.name in
    let v : pattern_at t f ≡ Some l.v = p ∙ l.pattern in
    let y = l.d_is in
    let a = lt-ltb m (m_values f) l.m_fits in
    let b = lt-ltb l.x (d_values f) l.d_fits in
    simp (k, v, y, a, b) (ap Ok e)

encodes_back_b : (t : Tables) → Facts t → (w : ℕ) (n : Name) (m : ℕ) (d : ℤ) → Lays t w n B m d → encoding t n B (pos m) d ≡ Ok w
encodes_back_b t g w n m d l =
    let f = numbered t.b g.b_apart l.k n l.name in
    let y = l.d_is in
    let a = lt-ltb m 1 (omega arith) in
    let b = signed_back 512 l.x l.d_fits in
    simp (f, y, a, b) (ap Ok (sym l.word))

encodes_back_l : (t : Tables) → Facts t → (w : ℕ) (n : Name) (m : ℕ) (d : ℤ) → LaysL t w n m d → encoding t n L (pos m) d ≡ Ok w
encodes_back_l t g w n m d l =
    let f = numbered t.l g.l_apart l.k n l.name in
    let p = (l_plain t g l.k n l.name).0 in
    let q = (l_plain t g l.k n l.name).1 in
    let y = l.d_is in
    let a = lt-ltb m 1 (omega arith) in
    let b = l_back (branches n) l.x l.d_fits in
    simp (p, q, f, y, a, b) (ap Ok (sym l.word))

encodes_back_bitl : (t : Tables) (w : ℕ) (n : Name) (m : ℕ) (d : ℤ) → LaysBitl w n m d → encoding t n L (pos m) d ≡ Ok w
encodes_back_bitl t w n m d l =
    let e = l.name in
    let y = l.d_is in
    let a = lt-ltb m 1 (omega arith) in
    let b = lt-ltb l.x 256 l.d_fits in
    simp (e, y, a, b) (ap Ok (sym l.word))

encodes_back_whole : (t : Tables) (w : ℕ) (n : Name) (m : ℕ) (d : ℤ) → LaysWhole w n m d → encoding t n L (pos m) d ≡ Ok w
encodes_back_whole t w n m d l =
    let e = l.word in
    let y = l.d_is in
    let a = lt-ltb m 1 (omega arith) in
    simp (e, y, a) (ap Ok (omega arith))

-- what a layout holds, encode together, gives its word
pub encodes_back : (t : Tables) → Facts t → (w : ℕ) (n : Name) (f : Format) (m : ℕ) (d : ℤ) → Lays t w n f m d → encoding t n f (pos m) d ≡ Ok w
encodes_back t g w n A1 m d l = encodes_back_a t g w n A1 m d 0 256 l refl (omega arith)
encodes_back t g w n A2 m d l = encodes_back_a t g w n A2 m d 1 512 l refl (omega arith)
encodes_back t g w n A3 m d l = encodes_back_a t g w n A3 m d 2 64 l refl (omega arith)
encodes_back t g w n A4 m d l = encodes_back_a t g w n A4 m d 3 128 l refl (omega arith)
encodes_back t g w n A5 m d l = encodes_back_a t g w n A5 m d 4 64 l refl (omega arith)
encodes_back t g w n L m d l = ⊎_elim (encodes_back_whole t w n m d) (⊎_elim (encodes_back_bitl t w n m d) (encodes_back_l t g w n m d)) l
encodes_back t g w n B m d l = encodes_back_b t g w n m d l
