-- A list by its places.
use Rattle.std.specs.Prelude.{◌≡◌, ℕ, List, length, map}
use Rattle.std.specs.List.{range_with_len}
use Rattle.std.proofs.lemmas.List.FromFn.{length-map-range_with_len}

-- f 0, f 1, .., f (n - 1)
unfoldable pub from_fn : ℕ → (ℕ → ℕ) → List ℕ
from_fn n f = map f (range_with_len 0 n)

pub length-from_fn : (n : ℕ) (f : ℕ → ℕ) → length (from_fn n f) ≡ n
unfolding from_fn
length-from_fn n f = length-map-range_with_len f 0 n
