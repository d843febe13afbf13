-- What a register keeps of a number is the number modulo the register's size.
use Rattle.std.proofs.Common.{◌≡◌, ℕ, ◌^◌, ◌<◌, ℤ, pos, negsuc, SFits, sym, ap, ◌∙◌, arith, to_z, of_z, w64}
use Rattle.std.specs.Int.{Width, int_rem_euclid, int_wrap}
use Rattle.std.specs.Prelude.{unsigned_abs}
use Rattle.std.proofs.Math.Nat.{mod-lt}
use Rattle.std.proofs.lemmas.Nat.{pow_pos}
use Rattle.std.proofs.lemmas.Int.{of_z-to_z, to_z-of_z}
use mir.Val.{bits}
use Rattle.word.specs.Arithmetic.{cut}

remainder_below : (z : ℤ) (m : ℕ) → 0 < m → unsigned_abs (int_rem_euclid z (pos m)) < m
remainder_below (pos a) m h = mod-lt a h
remainder_below (negsuc a) m h = omega arith

pub cut_is : (w : Width) (m : ℕ) → m ≡ 2 ^ bits w → (z r : ℤ) → SFits w64 z → SFits w64 r → r ≡ int_rem_euclid (to_z w64 (of_z w64 z)) (pos m) → unsigned_abs (to_z w64 (of_z w64 r)) ≡ cut w z
unfolding int_wrap
cut_is w m h z r f g e =
    ap unsigned_abs (to_z-of_z w64 r g ∙ e)
    ∙ (λ i. unsigned_abs (int_rem_euclid (to_z-of_z w64 z f i) (pos (h i))))
    ∙ sym (of_z-to_z w _ (remainder_below z _ (pow_pos (bits w))))
