-- Halfwords and fullwords: the most significant byte has the lowest address.
use Rattle.std.specs.Prelude.{ℕ, ◌+◌, ◌*◌}

abbrev pub half : ℕ → ℕ → ℕ
half high low = high * 256 + low

abbrev pub full : ℕ → ℕ → ℕ
full high low = high * 65536 + low
