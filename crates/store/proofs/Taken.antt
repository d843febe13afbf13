-- One more byte that is taken.
use Rattle.std.proofs.Common.{◌≡◌, ℕ, zero, suc, ◌+◌, ◌%◌, ◌<◌, List, [], ◌∷◌, ◌++◌, get_or, ap, arith}
use Rattle.store.specs.Bulk.{taken}

pub taken_more : (bs : List ℕ) (at n from : ℕ) → at < 65536 → from ≡ (at + n) % 65536 → taken bs at (suc n) ≡ taken bs at n ++ get_or bs from 0 ∷ []
taken_more bs at zero from low e = let same : at ≡ from = omega arith in ap (λ (i : ℕ). get_or bs i 0 ∷ []) same
taken_more bs at (suc n) from low e = ap (λ (l : List ℕ). get_or bs at 0 ∷ l) (taken_more bs ((at + 1) % 65536) n from (omega arith) (omega arith))
