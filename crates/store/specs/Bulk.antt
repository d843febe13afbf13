-- Many bytes at once, at successive addresses modulo 65,536.
use Rattle.std.specs.Prelude.{◌≡◌, ◌<◌, ℕ, zero, suc, ◌+◌, ◌%◌, List, [], ◌∷◌, ◌++◌, slice_index, slice_set}

-- bytes written from an address on
abbrev pub written : List ℕ → ℕ → List ℕ → List ℕ
written bs at [] = bs
written bs at (v ∷ vs) = written (slice_set bs at v) ((at + 1) % 65536) vs

-- n bytes taken from an address on
abbrev pub taken : List ℕ → ℕ → ℕ → List ℕ
taken bs at zero = []
taken bs at (suc n) = slice_index bs at ∷ taken bs ((at + 1) % 65536) n

-- what was listed before is followed by fewer than n bytes, taken from an address on
pub record StopsShort (old new bs : List ℕ) (at n : ℕ) : Type 0 where
  pub count : ℕ
  pub fewer : count < n
  pub items : new ≡ old ++ taken bs at count
