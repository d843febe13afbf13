-- Numbers and addresses, as a listing has them.
use Rattle.std.specs.Prelude.{ℕ, ◌-◌, ◌%◌, [], ◌∷◌, ℤ, pos, neg_ℤ, Some, None, Option, option_and_then, ◌==◌, if◌then◌else◌}
use Rattle.std.specs.Option.{option_map}
use Rattle.text.specs.Search.{Bytes}
use Rattle.text.specs.Numbers.{number_of}

-- what follows a minus sign
abbrev pub after_minus : Bytes → Option Bytes
after_minus [] = None
after_minus (x ∷ xs) = if x == 45 then Some xs else None

abbrev pub integer_by_sign : ℕ → Option Bytes → Bytes → Option ℤ
integer_by_sign least None s = option_map pos (number_of 0 65535 s)
integer_by_sign least (Some t) s = option_map (λ n. neg_ℤ (pos n)) (number_of 0 least t)

-- a number from -least to 65,535
abbrev pub integer : ℕ → Bytes → Option ℤ
integer least s = integer_by_sign least (after_minus s) s

-- a number from -65,535 to 65,535
abbrev pub signed_of : Bytes → Option ℤ
signed_of s = integer 65535 s

abbrev pub half_by_sign : Option Bytes → Bytes → Option ℕ
half_by_sign None s = number_of 0 65535 s
half_by_sign (Some t) s = option_map (λ n. (65536 - n) % 65536) (number_of 0 32768 t)

-- a number from -32,768 to 65,535, as a halfword in two's complement
abbrev pub half_of : Bytes → Option ℕ
half_of s = half_by_sign (after_minus s) s

-- an even number from 0 to 65,535
abbrev pub address_of : Bytes → Option ℕ
address_of s = option_and_then (λ n. if n % 2 == 0 then Some n else None) (number_of 0 65535 s)
