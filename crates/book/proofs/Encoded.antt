use Rattle.std.proofs.Common.{◌≡◌, ℕ, suc, ◌+◌, ◌-◌, ◌*◌, ◌<◌, Bool, true, false, cond, eqb, ltb, List, [], ◌∷◌, get_or, ℤ, pos, negsuc, Some, None, Ok, Option, Result, sym, refl, ap, ◌∙◌, subst, inl, inr, arith}
use Rattle.isa.specs.declared.name.Name.{Name}
use Rattle.isa.specs.declared.name.Name.TheVariants.{Bitl}
use Rattle.isa.specs.declared.format.Format.{Format}
use Rattle.isa.specs.declared.format.Format.TheVariants.{A1, A2, A3, A4, A5, L, B}
use Rattle.isa.specs.Names.{rank}
use Rattle.book.specs.declared.tables.Tables.{Tables}
use Rattle.std.proofs.lemmas.Bool.{eqb-true, ltb-true, cond_both, le-ltb}
use Rattle.isa.proofs.Ranks.{rank_tells}
use Rattle.word.specs.Fields.{as_signed, unsigned_in, signed_in}
use Rattle.book.specs.Wholes.{word_of, branches}
use Rattle.std.specs.Option.{ok_or}
use Rattle.text.specs.Results.{◌>>=◌}
use Rattle.book.specs.declared.encode_error.EncodeError.{EncodeError}
use Rattle.book.specs.declared.encode_error.EncodeError.TheVariants.{Unavailable, Unfit}
use Rattle.book.specs.Encode.{number_in, m_values, d_values, a_word, pattern_at, encode_a, word_without_m, encode_named_l, encode_l, encoding}
use Rattle.book.specs.Layout.{LaysA, Lays}

-- what was needed was there
had : {X : Type 0} (o : Option X) (e : EncodeError) (f : X → Result ℕ EncodeError) (w : ℕ) → (ok_or o e >>= f) ≡ Ok w → (x : X) × ((o ≡ Some x) × (f x ≡ Ok w))
had None e f w h = let z : ◌≡◌ {A = ℕ} 0 1 = cc in absurd (omega arith)
had (Some x) e f w h = (x, (refl, h))

unsigned_was : (lim : ℕ) (z : ℤ) (x : ℕ) → unsigned_in lim z ≡ Some x → (z ≡ pos x) × (x < lim)
unsigned_was lim (pos y) x h =
    cond_both (ltb y lim) (Some y) None (λ o. o ≡ Some x → (pos y ≡ pos x) × (x < lim))
    (λ b e. let q : y ≡ x = cc in (ap pos q, omega (arith, ltb-true y lim b)))
    (λ _ e. let z : ◌≡◌ {A = ℕ} 0 1 = cc in absurd (omega arith))
    h
unsigned_was lim (negsuc y) x h = let z : ◌≡◌ {A = ℕ} 0 1 = cc in absurd (omega arith)

signed_was : (half : ℕ) (z : ℤ) (x : ℕ) → signed_in half z ≡ Some x → (z ≡ as_signed half x) × (x < 2 * half)
signed_was half (pos y) x h =
    cond_both (ltb y half) (Some y) None (λ o. o ≡ Some x → (pos y ≡ as_signed half x) × (x < 2 * half))
    (λ b e. let q : x ≡ y = cc in let l = ltb-true y half b in (simp (q, b), omega arith))
    (λ _ e. let z : ◌≡◌ {A = ℕ} 0 1 = cc in absurd (omega arith))
    h
signed_was half (negsuc y) x h =
    cond_both (ltb y half) (Some (2 * half - 1 - y)) None (λ o. o ≡ Some x → (negsuc y ≡ as_signed half x) × (x < 2 * half))
    (λ b e.
    let q : 2 * half - 1 - y ≡ x = cc in
    let l = ltb-true y half b in
    let c = le-ltb x half (omega arith) in
    let v : 2 * half - 1 - x ≡ y = omega arith in
    (simp (c, v), omega arith))
    (λ _ e. let z : ◌≡◌ {A = ℕ} 0 1 = cc in absurd (omega arith))
    h

-- the name stands at its number
stood : (n : Name) (i : ℕ) (t : List (Option Name)) (k : ℕ) → number_in n i t ≡ Some k → (j : ℕ) × ((k ≡ i + j) × (get_or t j None ≡ Some n))
stood n i [] k h = let z : ◌≡◌ {A = ℕ} 0 1 = cc in absurd (omega arith)
stood n i (None ∷ t) k h =
    let r = stood n (i + 1) t k h in
    (suc r.0, (omega (arith, r.1.0), r.1.1))
stood n i (Some m ∷ t) k h =
    cond_both (eqb (rank m) (rank n)) (Some i) (number_in n (i + 1) t) (λ o. o ≡ Some k → (j : ℕ) × ((k ≡ i + j) × (get_or (Some m ∷ t) j None ≡ Some n)))
    (λ b e. let q : i ≡ k = cc in (0, (omega arith, ap Some (rank_tells m n (eqb-true (rank m) (rank n) b)))))
    (λ _ e. let r = stood n (i + 1) t k e in (suc r.0, (omega (arith, r.1.0), r.1.1)))
    h

stands : (n : Name) (t : List (Option Name)) (k : ℕ) → number_in n 0 t ≡ Some k → get_or t k None ≡ Some n
stands n t k h =
    let r = stood n 0 t k h in
    let q : r.0 ≡ k = omega (arith, r.1.0) in
    subst (λ j. get_or t j None ≡ Some n) q r.1.1

-- M, and the layout that the word then has
pub record Encoded (t : Tables) (w : ℕ) (n : Name) (f : Format) (m d : ℤ) : Type 0 where
  pub x : ℕ
  pub m_is : m ≡ pos x
  pub lays : Lays t w n f x d

record EncodedA (t : Tables) (w : ℕ) (n : Name) (f : Format) (m d : ℤ) : Type 0 where
  pub k : ℕ
  pub v : ℕ
  pub x : ℕ
  pub y : ℕ
  pub name : get_or t.a k None ≡ Some n
  pub pattern : pattern_at t f ≡ Some v
  pub m_is : m ≡ pos x
  pub m_fits : x < m_values f
  pub d_is : d ≡ pos y
  pub d_fits : y < d_values f
  pub word : w ≡ a_word f k v x y

encoded_a : (t : Tables) (w : ℕ) (n : Name) (f : Format) (m d : ℤ) → encode_a t n f m d ≡ Ok w → EncodedA t w n f m d
encoded_a t w n f m d h =
    let k = had (number_in n 0 t.a) Unavailable _ w h in
    let v = had (pattern_at t f) Unavailable _ w k.1.1 in
    let x = had (unsigned_in (m_values f) m) Unfit _ w v.1.1 in
    let y = had (unsigned_in (d_values f) d) Unfit _ w x.1.1 in
    let x' = unsigned_was (m_values f) m x.0 x.1.0 in
    let y' = unsigned_was (d_values f) d y.0 y.1.0 in
    let e = y.1.1 in
    record { k = k.0; v = v.0; x = x.0; y = y.0; name = stands n t.a k.0 k.1.0; pattern = v.1.0; m_is = x'.0; m_fits = x'.1; d_is = y'.0; d_fits = y'.1; word = cc }

record EncodedWithoutM (w base : ℕ) (m : ℤ) (o : Option ℕ) : Type 0 where
  pub y : ℕ
  pub m_is : m ≡ pos 0
  pub d_is : o ≡ Some y
  pub word : w ≡ base + y

encoded_without_m : (w base : ℕ) (m : ℤ) (o : Option ℕ) → word_without_m base m o ≡ Ok w → EncodedWithoutM w base m o
encoded_without_m w base m o h =
    let x = had (unsigned_in 1 m) Unfit _ w h in
    let y = had o Unfit _ w x.1.1 in
    let x' = unsigned_was 1 m x.0 x.1.0 in
    let z : x.0 ≡ 0 = omega (arith, x'.1) in
    let e = y.1.1 in
    record { y = y.0; m_is = x'.0 ∙ ap pos z; d_is = y.1.0; word = cc }

-- an A word, by the place and the unit of its format's pattern
laid_a : (t : Tables) (w : ℕ) (n : Name) (f : Format) (m d : ℤ) (place unit : ℕ) (a : EncodedA t w n f m d) → pattern_at t f ≡ get_or t.patterns place None → w ≡ a.k * 1024 + a.v * unit + a.x * d_values f + a.y → LaysA t place unit (m_values f) (d_values f) w n a.x d
laid_a t w n f m d place unit a p e = record { k = a.k; v = a.v; x = a.y; name = a.name; pattern = sym p ∙ a.pattern; m_fits = a.m_fits; d_fits = a.d_fits; d_is = a.d_is; word = e }

encoded_b : (t : Tables) (w : ℕ) (n : Name) (m d : ℤ) → encoding t n B m d ≡ Ok w → Encoded t w n B m d
encoded_b t w n m d h =
    let k = had (number_in n 0 t.b) Unavailable _ w h in
    let a = encoded_without_m w (k.0 * 1024) m (signed_in 512 d) k.1.1 in
    let d' = signed_was 512 d a.y a.d_is in
    record { x = 0; m_is = a.m_is; lays = record { k = k.0; x = a.y; name = stands n t.b k.0 k.1.0; m_is = refl; d_fits = d'.1; d_is = d'.0; word = a.word } }

l_was : (b : Bool) (d : ℤ) (x : ℕ) → cond b (signed_in 128 d) (unsigned_in 256 d) ≡ Some x → (d ≡ cond b (as_signed 128 x) (pos x)) × (x < 256)
l_was true d x h = signed_was 128 d x h
l_was false d x h = unsigned_was 256 d x h

encoded_l : (t : Tables) (w : ℕ) (n : Name) (m d : ℤ) (o : Option ℕ) → word_of n ≡ o → encode_l o t n m d ≡ Ok w → Encoded t w n L m d
encoded_l t w n m d (Some v) e h =
    let a = encoded_without_m w v m (unsigned_in 1 d) h in
    let d' = unsigned_was 1 d a.y a.d_is in
    let z : a.y ≡ 0 = omega (arith, d'.1) in
    let q : v ≡ w = omega (arith, a.word) in
    record { x = 0; m_is = a.m_is; lays = inl (record { m_is = refl; d_is = d'.0 ∙ ap pos z; word = e ∙ ap Some q }) }
encoded_l t w n m d None e h =
    cond_both (eqb (rank n) 56) (word_without_m (22 * 256) m (unsigned_in 256 d)) (encode_named_l t n m d) (λ r. r ≡ Ok w → Encoded t w n L m d)
    (λ b g.
    let a = encoded_without_m w (22 * 256) m (unsigned_in 256 d) g in
    let d' = unsigned_was 256 d a.y a.d_is in
    record { x = 0; m_is = a.m_is; lays = inr (inl (record { x = a.y; name = rank_tells n Bitl (eqb-true (rank n) 56 b); m_is = refl; d_fits = d'.1; d_is = d'.0; word = a.word })) })
    (λ _ g.
    let k = had (number_in n 0 t.l) Unavailable _ w g in
    let a = encoded_without_m w (k.0 * 256) m (cond (branches n) (signed_in 128 d) (unsigned_in 256 d)) k.1.1 in
    let d' = l_was (branches n) d a.y a.d_is in
    record { x = 0; m_is = a.m_is; lays = inr (inr (record { k = k.0; x = a.y; name = stands n t.l k.0 k.1.0; m_is = refl; d_fits = d'.1; d_is = d'.0; word = a.word })) })
    h

-- a word that was encode together has the layout of what it was encoded from
pub encoded : (t : Tables) (w : ℕ) (n : Name) (f : Format) (m d : ℤ) → encoding t n f m d ≡ Ok w → Encoded t w n f m d
encoded t w n A1 m d h = let a = encoded_a t w n A1 m d h in record { x = a.x; m_is = a.m_is; lays = laid_a t w n A1 m d 0 256 a refl (omega (arith, a.word, a.m_fits)) }
encoded t w n A2 m d h = let a = encoded_a t w n A2 m d h in record { x = a.x; m_is = a.m_is; lays = laid_a t w n A2 m d 1 512 a refl (omega (arith, a.word, a.m_fits)) }
encoded t w n A3 m d h = let a = encoded_a t w n A3 m d h in record { x = a.x; m_is = a.m_is; lays = laid_a t w n A3 m d 2 64 a refl (omega (arith, a.word, a.m_fits)) }
encoded t w n A4 m d h = let a = encoded_a t w n A4 m d h in record { x = a.x; m_is = a.m_is; lays = laid_a t w n A4 m d 3 128 a refl (omega (arith, a.word, a.m_fits)) }
encoded t w n A5 m d h = let a = encoded_a t w n A5 m d h in record { x = a.x; m_is = a.m_is; lays = laid_a t w n A5 m d 4 64 a refl (omega (arith, a.word, a.m_fits)) }
encoded t w n L m d h = encoded_l t w n m d (word_of n) refl h
encoded t w n B m d h = encoded_b t w n m d h
