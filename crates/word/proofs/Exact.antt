-- What 64 bits keep of the sum, the difference and the product of two numbers of 32 bits: all of it.
use Rattle.std.proofs.Common.{◌≡◌, ◌∙◌, ℤ, ◌+ℤ◌, ◌-ℤ◌, ◌*ℤ◌, FitsSigned, SFits, ap, subst, arith, to_z, of_z, w32, w64}
use borrow.Author.Numbers.{signed_product}
use Rattle.std.proofs.lemmas.Int.{ints, to_z-of_z}

widened : (x : ℤ) → FitsSigned w32 x → SFits w64 x
widened x p = grind (arith, ints)

back : (x : ℤ) → FitsSigned w32 x → to_z w64 (of_z w64 (to_z w32 (of_z w32 x))) ≡ x
back x p = ap (λ z. to_z w64 (of_z w64 z)) (to_z-of_z w32 x p) ∙ to_z-of_z w64 x (widened x p)

pub sum_fits : (x y : ℤ) → FitsSigned w32 x → FitsSigned w32 y → SFits w64 (x +ℤ y)
sum_fits x y p q = grind (arith, ints)

pub difference_fits : (x y : ℤ) → FitsSigned w32 x → FitsSigned w32 y → SFits w64 (x -ℤ y)
difference_fits x y p q = grind (arith, ints)

pub product_fits : (x y : ℤ) → FitsSigned w32 x → FitsSigned w32 y → SFits w64 (x *ℤ y)
product_fits x y p q = subst (SFits w64) (λ i. back x p i *ℤ back y q i) (signed_product w64 w32 w32 x y p q tt)

pub kept : (f : ℤ → ℤ → ℤ) (x y : ℤ) → FitsSigned w32 x → FitsSigned w32 y → SFits w64 (f x y) → to_z w64 (of_z w64 (f (to_z w64 (of_z w64 x)) (to_z w64 (of_z w64 y)))) ≡ f x y
kept f x y p q s = (λ i. to_z w64 (of_z w64 (f (to_z-of_z w64 x (widened x p) i) (to_z-of_z w64 y (widened y q) i)))) ∙ to_z-of_z w64 (f x y) s
