-- Registers and markers, and what the common kinds of result do to them.
use Rattle.std.specs.Prelude.{ℕ, ◌+◌, ◌-◌, ◌%◌, ◌^◌, Bool, true, ◌||◌, Some, None, Option, ◌==◌, nat_le}
use Rattle.std.specs.Int.{Width}
use mir.Val.{hbits}
use Rattle.word.specs.declared.arithmetic.Outcome.{Outcome}
use Rattle.machine.specs.declared.registers.Registers.{Registers}

-- sums of 16 bits, modulo 65,536
abbrev pub plus : ℕ → ℕ → ℕ
plus a b = (a + b) % 65536

abbrev pub minus : ℕ → ℕ → ℕ
minus a b = (a + (65536 - b)) % 65536

abbrev pub with_a : Registers → ℕ → Registers
with_a r v = record r { a = v }

abbrev pub with_x : Registers → ℕ → Registers
with_x r v = record r { x = v }

abbrev pub with_y : Registers → ℕ → Registers
with_y r v = record r { y = v }

abbrev pub with_z : Registers → ℕ → Registers
with_z r v = record r { z = v }

abbrev pub with_s : Registers → ℕ → Registers
with_s r v = record r { s = v }

abbrev pub with_fm : Registers → Bool → Registers
with_fm r f = record r { fm = f }

-- N and ZR
abbrev pub with_nz : Registers → Bool → Bool → Registers
with_nz r negative zero = record r { n = negative; zr = zero }

abbrev pub with_of : Registers → Bool → Registers
with_of r o = record r { of = o }

abbrev pub with_ca : Registers → Bool → Registers
with_ca r c = record r { ca = c }

-- OF is made 1, or stays
abbrev pub raised : Registers → Bool → Registers
raised r o = with_of r (r.of || o)

-- the markers of a value of a register's width: N its top bit, ZR whether it is zero
abbrev pub signed : Width → Registers → ℕ → Registers
signed w r v = with_nz r (nat_le (2 ^ hbits w) v) (v == 0)

-- a register loaded: N its sign, ZR whether it is zero
abbrev pub loaded_a : Registers → ℕ → Registers
loaded_a r v = with_nz (with_a r v) (nat_le 0x80000000 v) (v == 0)

abbrev pub loaded_x : Registers → ℕ → Registers
loaded_x r v = with_nz (with_x r v) (nat_le 0x8000 v) (v == 0)

-- the markers of a sum, difference or product
abbrev pub marked : {T : Type 0} → Registers → Outcome T → Registers
marked r o = with_ca (raised (with_nz r o.negative o.zero) o.overflow) o.carry

abbrev pub computed_a : Registers → Outcome ℕ → Registers
computed_a r o = with_a (marked r o) o.value

abbrev pub computed_x : Registers → Outcome ℕ → Registers
computed_x r o = with_x (marked r o) o.value

-- a quotient that there is, or only overflow
abbrev pub divided : Registers → Option ℕ → Registers
divided r None = raised r true
divided r (Some q) = loaded_x r q

-- the next instruction
abbrev pub onward : Registers → ℕ → Registers
onward r bytes = with_s r (plus r.s bytes)

abbrev pub advanced : Registers → Registers
advanced r = onward r 2

-- s into z first
abbrev pub linked : Registers → Registers
linked r = with_z r r.s
