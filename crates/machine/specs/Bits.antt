-- The bit instructions: a control byte says what is done to which bit of AL, the low half of A.
use Rattle.std.specs.Prelude.{ℕ, ◌+◌, ◌-◌, ◌/◌, ◌%◌, ◌^◌, Bool, Some, None, Option, ◌==◌, bit_and, bit_or, bit_xor, if◌then◌else◌}
use Rattle.access.specs.declared.stop.Cause.TheVariants.{Undefined}
use Rattle.machine.specs.Act.{Act, done, fail}
use Rattle.machine.specs.Registers.{with_a, with_nz}
use Rattle.machine.specs.declared.bits.Operation.{Operation}
use Rattle.machine.specs.declared.bits.Operation.TheVariants.{Test, Toggle, Place, Set, Clear}
use Rattle.machine.specs.declared.registers.Registers.{Registers}

-- the control byte's high half
abbrev pub operation : ℕ → Option Operation
operation h =
    if h == 0 then Some Test
    else if h == 9 then Some Toggle
    else if h == 10 then Some Place
    else if h == 11 then Some Set
    else if h == 14 then Some Clear
    else None

-- bit 0 is the most significant of sixteen
abbrev pub mask : ℕ → ℕ
mask b = 32768 / 2 ^ b

abbrev pub altered : Operation → ℕ → ℕ → ℕ
altered Test al b = al
altered Toggle al b = bit_xor al (mask b)
altered Place al b = mask b
altered Set al b = bit_or al (mask b)
altered Clear al b = bit_and al (65535 - mask b)

-- ZR: whether the bit tested is 0, or AL ends zero
abbrev pub ends_zero : Operation → ℕ → ℕ → Bool
ends_zero Test al b = bit_and al (mask b) == 0
ends_zero Toggle al b = altered Toggle al b == 0
ends_zero Place al b = altered Place al b == 0
ends_zero Set al b = altered Set al b == 0
ends_zero Clear al b = altered Clear al b == 0

-- the high half of A stays, and so does N
abbrev pub bit_done : Operation → ℕ → Registers → Registers
bit_done o b r = with_nz (with_a r (r.a - r.a % 65536 + altered o (r.a % 65536) b)) r.n (ends_zero o (r.a % 65536) b)

abbrev pub by_operation : Option Operation → ℕ → Registers → Act
by_operation None b r = fail Undefined
by_operation (Some o) b r = done (bit_done o b r)

abbrev pub controlled : ℕ → Registers → Act
controlled c r = by_operation (operation (c / 16)) (c % 16) r
