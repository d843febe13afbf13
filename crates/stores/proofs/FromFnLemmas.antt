-- A list by its places, read at a place and changed at one.
use Rattle.std.proofs.Common.{◌≡◌, ℕ, zero, suc, ◌<◌, ◌≢◌, ◌⊎◌, get_or, set, refl, sym, ap, ◌∙◌, inl, inr, arith, length-set}
use Rattle.std.proofs.lemmas.List.{get_or-set_other, get_or-set_same}
use Rattle.std.proofs.lemmas.List.FromFn.{get_or-map-range_with_len}
use Rattle.std.proofs.lemmas.Grind.{same_number_lists}
use Rattle.stores.specs.FromFn.{from_fn, length-from_fn}

pub get_or-from_fn : (n : ℕ) (f : ℕ → ℕ) (i : ℕ) → i < n → get_or (from_fn n f) i 0 ≡ f i
unfolding from_fn
get_or-from_fn n f i h = get_or-map-range_with_len f 0 n i i 0 h (omega arith)

pub equal_or_not : (a b : ℕ) → (a ≡ b) ⊎ (a ≢ b)
equal_or_not zero zero = inl refl
equal_or_not zero (suc b) = inr (λ e. omega arith)
equal_or_not (suc a) zero = inr (λ e. omega arith)
equal_or_not (suc a) (suc b) = elim (equal_or_not a b) [ inl e ↦ inl (ap suc e) | inr n ↦ inr (λ e. n (omega arith)) ]

-- a list by f, and one by g, which is f but for v at a place
pub set-from_fn : (n : ℕ) (f g : ℕ → ℕ) (at v : ℕ) → at < n → g at ≡ v → ((k : ℕ) → k < n → k ≢ at → g k ≡ f k) → from_fn n g ≡ set (from_fn n f) at v
set-from_fn n f g at v h e k =
    same_number_lists (from_fn n g) (set (from_fn n f) at v) (length-from_fn n g ∙ sym (length-set (from_fn n f) at v ∙ length-from_fn n f))
    (λ i l.
    let m : i < n = let z = length-from_fn n g in omega arith in
    get_or-from_fn n g i m ∙ elim (equal_or_not i at) [
      | inl q ↦ ap g q ∙ e ∙ sym (ap (λ (j : ℕ). get_or (set (from_fn n f) at v) j 0) q ∙ get_or-set_same (from_fn n f) at v 0 (let z = length-from_fn n f in omega arith))
      | inr d ↦ k i m d ∙ sym (get_or-set_other (from_fn n f) at i v 0 d ∙ get_or-from_fn n f i m)
    ])

-- the same list by functions that agree below its length
pub same-from_fn : (n : ℕ) (f g : ℕ → ℕ) → ((k : ℕ) → k < n → f k ≡ g k) → from_fn n f ≡ from_fn n g
same-from_fn n f g h =
    same_number_lists (from_fn n f) (from_fn n g) (length-from_fn n f ∙ sym (length-from_fn n g))
    (λ i l. let m : i < n = let z = length-from_fn n f in omega arith in get_or-from_fn n f i m ∙ h i m ∙ sym (get_or-from_fn n g i m))
