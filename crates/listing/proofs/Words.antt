use Rattle.std.proofs.Common.{◌≡◌, ℕ, suc, ◌+◌, ◌<◌, ◌≤◌, Bool, true, false, not, cond, eqb, ltb, List, [], ◌∷◌, length, take, drop, Some, None, Option, sym, refl, ap, ◌∙◌, ⊎_elim, arith}
use Rattle.std.specs.Borrow.{Bor}
use Rattle.std.specs.List.{position, position_or_len}
use Rattle.std.specs.Option.{unwrap_or}
use Rattle.std.proofs.lemmas.Bool.{ne_eqb, cases_Bool, ltb-true}
use Rattle.std.proofs.lemmas.Grind.{common_steps}
use Rattle.std.proofs.lemmas.List.{drop_all, length-take-le}
use Rattle.std.proofs.lemmas.List.Recursion.{is_position_or_len}
use Rattle.std.specs.List.{filter}
use Rattle.text.specs.Search.{Bytes, place_of, empty, cut_at, pair}
use Rattle.text.proofs.Parts.{by_cut as parts_by_cut, parts-cut}
use Rattle.listing.specs.Words.{is_word, words, words_of_pair}

-- the spaces that lead
abbrev spaces : Bytes → ℕ
spaces [] = 0
spaces (x ∷ xs) = cond (eqb x 32) (suc (spaces xs)) 0

spaces_is : (s : Bytes) → spaces s ≡ position_or_len (λ x. not (eqb x 32)) s
spaces_is s =
    let step : (b : Bool) (n : ℕ) → cond b (suc n) 0 ≡ cond (not b) 0 (1 + n) = λ b n. elim b as (λ v. cond v (suc n) 0 ≡ cond (not v) 0 (1 + n)) [ true ↦ omega arith | false ↦ refl ] in
    is_position_or_len spaces (λ x. not (eqb x 32)) refl (λ x xs. step (eqb x 32) (spaces xs)) s

-- spaces in front of the first word say nothing
spaces_skipped : (s : Bytes) → words (drop (spaces s) s) ≡ words s
spaces_skipped [] = refl
spaces_skipped (x ∷ xs) = ⊎_elim (λ (e : eqb x 32 ≡ true). simp e (spaces_skipped xs)) (λ (e : eqb x 32 ≡ false). simp e) (cases_Bool (eqb x 32))

-- behind the spaces stands no further space
lead : (s : Bytes) → spaces s < length s → place_of 32 (drop (spaces s) s) ≡ 0 → ⊥
lead [] h = λ _. omega arith
lead (x ∷ xs) h = ⊎_elim (λ (e : eqb x 32 ≡ true). simp e (lead xs (omega (arith, simp e at h)))) (λ (e : eqb x 32 ≡ false). simp e (λ (z : 1 + place_of 32 xs ≡ 0). omega arith)) (cases_Bool (eqb x 32))

none_le : (a b : ℕ) → None ≡ cond (ltb a b) (Some a) None → b ≤ a
none_le a b h = grind (arith, common_steps)

some_at : (a b k : ℕ) → Some k ≡ cond (ltb a b) (Some a) None → (k ≡ a) × (a < b)
some_at a b k h = grind (arith, common_steps)

pub no_word : (s : Bytes) → None ≡ position (λ x. not (eqb x 32)) s → [] ≡ words s
no_word s h =
    let e = spaces_is s in
    let le = none_le (spaces s) (length s) (rw e h) in
    ap words (sym (drop_all (spaces s) s le)) ∙ spaces_skipped s

-- a text by its first word and what follows
abbrev by_cut : Option (Bytes × Bytes) → Bytes → List Bytes
by_cut None t = t ∷ []
by_cut (Some p) t = p.0 ∷ words p.1

-- a first part that is no empty one
part_there : (k : ℕ) (t : Bytes) → (k ≡ 0 → ⊥) → k < length t → empty (take k t) ≡ false
part_there k t z h = ne_eqb (length (take k t)) 0 (λ e. z (omega (arith, length-take-le {A = ℕ} k t)))

text_there : (t : Bytes) → (place_of 32 t ≡ 0 → ⊥) → empty t ≡ false
text_there [] z = absurd (z refl)
text_there (x ∷ xs) z = ne_eqb (suc (length xs)) 0 (λ h. omega arith)

cut_word : (t : Bytes) → (place_of 32 t ≡ 0 → ⊥) → by_cut (cut_at 32 t) t ≡ words t
cut_word t z =
    let e : words t ≡ filter is_word (parts_by_cut 32 t (cut_at 32 t)) = ap (filter is_word) (parts-cut 32 t) in
    ⊎_elim
    (λ (h : ltb (place_of 32 t) (length t) ≡ true). let w = part_there (place_of 32 t) t z (ltb-true _ _ h) in let q = simp h at e in simp h (sym (q ∙ simp w)))
    (λ (h : ltb (place_of 32 t) (length t) ≡ false). let w = text_there t z in let q = simp h at e in simp h (sym (q ∙ simp w)))
    (cases_Bool (ltb (place_of 32 t) (length t)))

pair_by : (o : Option (Bor Bytes × Bor Bytes)) (d : Bor Bytes × Bor Bytes) → d.1.now ≡ [] → words_of_pair (Some (unwrap_or o d)) ≡ by_cut (pair o) d.0.now
pair_by None d h = ap (λ (v : Bytes). d.0.now ∷ words v) h
pair_by (Some p) d h = refl

-- the first word begins at p, and o is what stands before and after the space behind it
pub first_word : (s t : Bytes) (p : ℕ) (o : Option (Bor Bytes × Bor Bytes)) (d : Bor Bytes × Bor Bytes) → Some p ≡ position (λ x. not (eqb x 32)) s → t ≡ drop p s → d.0.now ≡ t → d.1.now ≡ [] → pair o ≡ cut_at 32 t → words_of_pair (Some (unwrap_or o d)) ≡ words s
first_word s t p o d h q a b c =
    let e = spaces_is s in
    let k = some_at (spaces s) (length s) p (rw e h) in
    let u : t ≡ drop (spaces s) s = q ∙ ap (λ i. drop i s) k.0 in
    let z : place_of 32 t ≡ 0 → ⊥ = λ y. lead s k.1 (ap (place_of 32) (sym u) ∙ y) in
    pair_by o d b ∙ ap (λ v. by_cut (pair o) v) a ∙ ap (λ v. by_cut v t) c ∙ cut_word t z ∙ ap words u ∙ spaces_skipped s
