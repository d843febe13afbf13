-- The string instructions: one element a step, from the far end of the string to its near one.
use Rattle.std.specs.Prelude.{ℕ, ◌+◌, ◌-◌, ◌%◌, Bool, true, false, cond, not, ◌==◌, bit_and, nat_lt, if◌then◌else◌}
use Rattle.access.specs.declared.item.Item.{Item}
use Rattle.access.specs.declared.item.Item.TheVariants.{Byte}
use Rattle.access.specs.declared.stop.Place.TheVariants.{Operand}
use Rattle.machine.specs.Act.{Act, done, store, ◌>>=◌}
use Rattle.machine.specs.Address.{address, element, entry}
use Rattle.machine.specs.Plan.{read}
use Rattle.machine.specs.Registers.{minus, with_nz, with_s, with_x}
use Rattle.machine.specs.declared.registers.Registers.{Registers}

-- x moved by one towards zero
abbrev pub nearer : ℕ → ℕ
nearer x = if nat_lt x 32768 then x - 1 else (x + 1) % 65536

-- N 0 and ZR 1, x being 0
abbrev pub complete : Registers → Registers
complete r = with_nz (with_x r 0) false true

-- the string goes on: s is put back for the next step
abbrev pub continued : Registers → ℕ → Registers
continued r x = with_s (with_x r x) (minus r.s 2)

abbrev pub ended : Registers → ℕ → Bool → Registers
ended r x negative = with_nz (with_x r x) negative false

-- after the element at the new x, which does not end the string
abbrev pub passed : Registers → ℕ → Registers
passed r x = if x == 0 then complete r else continued r x

-- after an element that ends the string unless it is the last
abbrev pub judged : Registers → ℕ → Bool → Bool → Registers
judged r x ends negative =
    if x == 0 then complete r else if ends then ended r x negative else continued r x

-- item z+x to y+x, x times its length
abbrev pub moved : Item → Registers → ℕ → Act
moved i r x = do
  from ← address (element i r.z x)
  v ← read Operand i from
  to ← address (element i r.y x)
  store i to v (passed r x)

-- byte b at y+x is replaced by that at z+b
abbrev pub translated : Registers → ℕ → Act
translated r x = do
  at ← address (element Byte r.y x)
  b ← read Operand Byte at
  from ← address (entry r.z b)
  v ← read Operand Byte from
  store Byte at v (passed r x)

-- byte z+x less byte y+x, unsigned
abbrev pub compared : Registers → ℕ → Act
compared r x = do
  from ← address (element Byte r.z x)
  c ← read Operand Byte from
  at ← address (element Byte r.y x)
  b ← read Operand Byte at
  done (judged r x (not (c == b)) (nat_lt c b))

-- the byte at z+b, b being that at y+x, and the low byte of A
abbrev pub scanned : Registers → ℕ → Act
scanned r x = do
  at ← address (element Byte r.y x)
  b ← read Operand Byte at
  from ← address (entry r.z b)
  v ← read Operand Byte from
  done (judged r x (not (bit_and v (r.a % 256) == 0)) false)

-- a string of no elements is complete
abbrev pub string : (Registers → ℕ → Act) → Registers → Act
string treated r = cond (r.x == 0) (done (complete r)) (treated r (nearer r.x))
