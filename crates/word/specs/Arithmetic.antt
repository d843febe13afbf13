-- Arithmetic in a register of 16 or 32 bits, two's complement.
-- to_z w v is the signed number that the bits v mean, of_z w z the bits that mean z.
use Rattle.std.specs.Prelude.{ℕ, ◌+◌, ◌-◌, ◌^◌, Bool, cond, not, ◌&&◌, ◌||◌, ℤ, pos, negsuc, ◌+ℤ◌, ◌-ℤ◌, ◌*ℤ◌, Some, None, Option, ◌==◌, int_div, int_lt, nat_le, nat_lt}
use mir.Val.{to_z, of_z, bits, hbits}
use Rattle.std.specs.Int.{int_wrap, Width, w16}
use Rattle.word.specs.declared.arithmetic.Outcome.{Outcome}

-- the true result cut to the register
abbrev pub cut : Width → ℤ → ℕ
cut w exact = of_z w (int_wrap w exact)

-- the true result does not fit the register, so that the apparent one differs from it
abbrev pub outside : Width → ℤ → Bool
outside w exact = int_lt exact (negsuc (2 ^ hbits w - 1)) || int_lt (pos (2 ^ hbits w - 1)) exact

-- the apparent result and the true one: negative is said of the true one, zero of the apparent one
abbrev pub told : Width → ℕ → ℤ → Bool → Outcome ℕ
told w v exact c = record { value = v; negative = int_lt exact (pos 0); zero = (v == 0); overflow = outside w exact; carry = c }

abbrev pub outcome : Width → ℤ → Bool → Outcome ℕ
outcome w exact c = told w (cut w exact) exact c

-- an outcome by the bits of its value
abbrev pub in_bits : {T : Type 0} → (T → ℕ) → Outcome T → Outcome ℕ
in_bits bits_of o = record { value = bits_of o.value; negative = o.negative; zero = o.zero; overflow = o.overflow; carry = o.carry }

-- a number without sign that does not fit the register
abbrev pub beyond : Width → ℕ → Bool
beyond w n = nat_le (2 ^ bits w) n

-- a number of length v in a register of length w: extended by its sign, or its low part
abbrev pub resized : Width → Width → ℕ → ℕ
resized w v b = cut w (to_z v b)

-- of a number of length w and one of length v, in a register of length w: the true result is of the whole of both, and the carry, or the
-- borrow, is that out of the sign bit, with the second number resized
abbrev pub sum : Width → Width → ℕ → ℕ → Outcome ℕ
sum w v a b = outcome w (to_z w a +ℤ to_z v b) (beyond w (a + resized w v b))

abbrev pub difference : Width → Width → ℕ → ℕ → Outcome ℕ
difference w v a b = outcome w (to_z w a -ℤ to_z v b) (nat_lt a (resized w v b))

abbrev pub product : Width → ℕ → ℕ → Bool → Outcome ℕ
product w a b c = outcome w (to_z w a *ℤ to_z w b) c

-- by 0 there is no quotient, and that of -32,768 by -1 does not fit
abbrev pub divides : ℕ → ℕ → Bool
divides a b = not (b == 0 || (a == 32768 && b == 65535))

-- the quotient rounded towards zero
abbrev pub rounded : ℕ → ℕ → ℕ
rounded a b = of_z w16 (int_div (to_z w16 a) (to_z w16 b))

abbrev pub quotient : ℕ → ℕ → Option ℕ
quotient a b = cond (divides a b) (Some (rounded a b)) None
