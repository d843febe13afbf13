use Rattle.std.specs.Prelude.{ℕ, List, Option, find}
use Rattle.std.specs.Str.{bytes_eq}

-- the first of a list that is spelled so
abbrev pub first : {X : Type 0} → (X → List ℕ) → List X → List ℕ → Option X
first spelled xs s = find (λ x. bytes_eq (spelled x) s) xs
