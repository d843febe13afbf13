use Rattle.std.proofs.Common.{◌≡◌, ℕ, ◌+◌, ◌-◌, ◌*◌, ◌<◌, true, ◌&&◌, leb, List, [], ◌∷◌, Some, None, refl, subst, arith}
use Rattle.std.proofs.lemmas.Bool.{cond_both, lt-leb, and_right, cond-false}
use Rattle.text.specs.Search.{Bytes}
use Rattle.text.specs.Numbers.{digits, no_number, number_of}

-- more digits never make a number smaller
pub digits_past : (low high n : ℕ) (s : List ℕ) → high < n → digits low high n s ≡ None
digits_past low high n [] h = cond-false (leb low n && leb n high) (Some n) None (and_right _ _ (lt-leb n high h))
digits_past low high n (d ∷ ds) h = cond_both (leb 48 d && leb d 57) (digits low high (n * 10 + (d - 48)) ds) None (λ r. r ≡ None) (λ _. digits_past low high (n * 10 + (d - 48)) ds (omega arith)) (λ _. refl)

-- a number that is read lies from low to high
digits_within : (low high n : ℕ) (s : Bytes) (k : ℕ) → digits low high n s ≡ Some k → (leb low k && leb k high) ≡ true
digits_within low high n [] k e =
    cond_both (leb low n && leb n high) (Some n) None (λ o. o ≡ Some k → (leb low k && leb k high) ≡ true)
    (λ t r. let q : n ≡ k = cc in subst (λ m. (leb low m && leb m high) ≡ true) q t)
    (λ _ r. let z : ◌≡◌ {A = ℕ} 0 1 = cc in absurd (omega arith))
    e
digits_within low high n (d ∷ ds) k e =
    cond_both (leb 48 d && leb d 57) _ None (λ o. o ≡ Some k → (leb low k && leb k high) ≡ true)
    (λ _. digits_within low high (n * 10 + (d - 48)) ds k)
    (λ _ r. let z : ◌≡◌ {A = ℕ} 0 1 = cc in absurd (omega arith))
    e

pub number_within : (low high : ℕ) (s : Bytes) (k : ℕ) → number_of low high s ≡ Some k → (leb low k && leb k high) ≡ true
number_within low high s k e =
    cond_both (no_number s) None (digits low high 0 s) (λ o. o ≡ Some k → (leb low k && leb k high) ≡ true)
    (λ _ r. let z : ◌≡◌ {A = ℕ} 0 1 = cc in absurd (omega arith))
    (λ _. digits_within low high 0 s k)
    e
