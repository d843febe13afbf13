use Rattle.std.specs.Prelude.{ℕ, ◌-◌, ◌*◌, cond, ℤ, pos, negsuc, Some, None, Option, nat_lt}

-- what a field of 2 * half values means in two's complement; negsuc x is -1 - x
abbrev pub as_signed : ℕ → ℕ → ℤ
as_signed half f = cond (nat_lt f half) (pos f) (negsuc (2 * half - 1 - f))

-- the field of so many values that holds a number, if it fits
abbrev pub unsigned_in : ℕ → ℤ → Option ℕ
unsigned_in limit (pos x) = cond (nat_lt x limit) (Some x) None
unsigned_in limit (negsuc x) = None

-- the field of 2 * half values that holds a number in two's complement, if it fits
abbrev pub signed_in : ℕ → ℤ → Option ℕ
signed_in half (pos x) = cond (nat_lt x half) (Some x) None
signed_in half (negsuc x) = cond (nat_lt x half) (Some (2 * half - 1 - x)) None
