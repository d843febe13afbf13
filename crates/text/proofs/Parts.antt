-- The parts of a text, one after the other.
use Rattle.std.proofs.Common.{◌≡◌, ℕ, ◌≤◌, true, false, eqb, ltb, List, [], ◌∷◌, length, Some, None, Option, refl, ap, ⊎_elim, arith}
use Rattle.std.specs.List.{onto_first}
use Rattle.std.proofs.lemmas.Bool.{cases_Bool, ltb-true, ltb-false}
use Rattle.std.proofs.lemmas.List.Splits.{slice_split_first}
use Rattle.text.specs.Search.{Bytes, place_of, cut_at, parts}

-- where the byte is nowhere, the text is its one part
one_part : (b : ℕ) (s : Bytes) → length s ≤ place_of b s → parts b s ≡ s ∷ []
one_part b [] h = refl
one_part b (x ∷ xs) h =
    ⊎_elim
    (λ (e : eqb x b ≡ true). let z = simp e at h in absurd (omega arith))
    (λ (e : eqb x b ≡ false). let z : length xs ≤ place_of b xs = omega (arith, simp e at h) in simp e (ap (onto_first x) (one_part b xs z)))
    (cases_Bool (eqb x b))

-- a text by its first part and what follows it
abbrev pub by_cut : ℕ → Bytes → Option (Bytes × Bytes) → List Bytes
by_cut b s None = s ∷ []
by_cut b s (Some p) = p.0 ∷ parts b p.1

pub parts-cut : (b : ℕ) (s : Bytes) → parts b s ≡ by_cut b s (cut_at b s)
parts-cut b s =
    ⊎_elim
    (λ (e : ltb (place_of b s) (length s) ≡ true). simp e (slice_split_first (λ x. eqb x b) s 0 (ltb-true (place_of b s) (length s) e)))
    (λ (e : ltb (place_of b s) (length s) ≡ false). simp e (one_part b s (ltb-false (place_of b s) (length s) e)))
    (cases_Bool (ltb (place_of b s) (length s)))
