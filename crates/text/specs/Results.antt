use Rattle.std.specs.Prelude.{Ok, Err, Result}

-- the ? of the logic: what follows, or the first failure
infixl 10 ◌>>=◌
abbrev pub ◌>>=◌ : {T U E : Type 0} → Result T E → (T → Result U E) → Result U E
Ok x >>= f = f x
Err e >>= f = Err e
