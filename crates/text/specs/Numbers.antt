-- Numbers in digits.
use Rattle.std.specs.Prelude.{ℕ, ◌+◌, ◌-◌, ◌*◌, Bool, ◌&&◌, ◌||◌, [], ◌∷◌, length, Some, None, Option, option_and_then, ◌==◌, nat_le, nat_lt, slice_index, if◌then◌else◌}
use Rattle.std.specs.Option.{option_map}
use Rattle.hex.specs.Hex.{hex_digit_value}
use Rattle.text.specs.Search.{Bytes}

-- the digits that follow the number n, and then whether the whole is from low to high
abbrev pub digits : ℕ → ℕ → ℕ → Bytes → Option ℕ
digits low high n [] = if nat_le low n && nat_le n high then Some n else None
digits low high n (d ∷ ds) =
    if nat_le 48 d && nat_le d 57 then digits low high (n * 10 + (d - 48)) ds
    else None

-- no digit at all, or a zero in front of another digit
abbrev pub no_number : Bytes → Bool
no_number s = length s == 0 || (slice_index s 0 == 48 && nat_lt 1 (length s))

-- a number from low to high: digits alone, and no zero in front of another digit
abbrev pub number_of : ℕ → ℕ → Bytes → Option ℕ
number_of low high s = if no_number s then None else digits low high 0 s

-- two hexadecimal digits
abbrev pub hex_byte : ℕ → ℕ → Option ℕ
hex_byte a b =
    option_and_then (λ high. option_map (λ low. high * 16 + low) (hex_digit_value b)) (hex_digit_value a)

-- a word of just four hexadecimal digits
abbrev pub hex_word : Bytes → Option ℕ
hex_word (a ∷ b ∷ c ∷ d ∷ []) =
    option_and_then (λ high. option_map (λ low. high * 256 + low) (hex_byte c d)) (hex_byte a b)
hex_word _ = None
