-- Addresses: the exact sum of their terms, in which x and the D of a branch are signed, is cut once to 16 bits.
use Rattle.std.specs.Prelude.{ℕ, ◌+◌, ◌*◌, ℤ, pos, ◌+ℤ◌, ◌*ℤ◌, Some, None, Option, ◌==◌, if◌then◌else◌}
use Rattle.std.specs.Int.{w16}
use mir.Val.{to_z}
use Rattle.word.specs.Arithmetic.{cut}
use Rattle.isa.specs.declared.format.Format.{Format}
use Rattle.isa.specs.declared.format.Format.TheVariants.{A1, A2, A3, A4, A5, L, B}
use Rattle.isa.specs.declared.name.Name.{Name}
use Rattle.isa.specs.declared.name.Name.TheVariants.{Ldb, Stb, Ldw, Stw, Adw, Sbw, Cpw, Nw}
use Rattle.access.specs.Access.{size}
use Rattle.access.specs.declared.item.Item.{Item}
use Rattle.access.specs.declared.item.Item.TheVariants.{Byte, Halfword, Fullword}
use Rattle.access.specs.declared.stop.Cause.TheVariants.{Undefined}
use Rattle.access.specs.declared.stop.Place.TheVariants.{Pointer, Operand}
use Rattle.machine.specs.Plan.{Plan, give, halt, read, ◌>>=◌}
use Rattle.machine.specs.declared.mode.Mode.{Mode}
use Rattle.machine.specs.declared.registers.Registers.{Registers}
use Rattle.machine.specs.declared.terms.Terms.{Terms}

-- the operand is a byte for LDB and STB, a fullword for names that end in W, else a halfword
abbrev pub item_of : Name → Item
item_of Ldb = Byte
item_of Stb = Byte
item_of Ldw = Fullword
item_of Stw = Fullword
item_of Adw = Fullword
item_of Sbw = Fullword
item_of Cpw = Fullword
item_of Nw = Fullword
item_of _ = Halfword

-- terms without sign, added up, alone or with a signed number of items of some bytes each
abbrev pub plain : ℕ → Terms
plain n = record { start = n; index = 0; scale = 0 }

abbrev pub indexed : ℕ → ℕ → ℕ → Terms
indexed n x k = record { start = n; index = x; scale = k }

abbrev pub exact : Terms → ℤ
exact a = pos a.start +ℤ to_z w16 a.index *ℤ pos a.scale

abbrev pub wrapped : Terms → ℕ
wrapped a = cut w16 (exact a)

-- an address as a step forms it
abbrev pub address : Terms → Plan ℕ
address a = give (wrapped a)

-- l, s, y or z for M 0 to 3; s is at the next instruction already
abbrev pub base : Registers → ℕ → ℕ
base r m = if m == 0 then r.l else if m == 1 then r.s else if m == 2 then r.y else r.z

-- the same with 0 in the place of s
abbrev pub far_base : Registers → ℕ → ℕ
far_base r m = if m == 1 then 0 else base r m

-- the address of an item by the formats without a pointer
abbrev pub direct_as : Format → ℕ → ℕ → Item → Registers → Option Terms
direct_as A1 m d i r = Some (plain (d * size i))
direct_as A2 m d i r = Some (plain (base r m + d * size i))
direct_as A3 m d i r = None
direct_as A4 m d i r = None
direct_as A5 m d i r = Some (indexed (far_base r m + d * size i) r.x (size i))
direct_as L m d i r = None
direct_as B m d i r = None

abbrev pub direct : Mode → Item → Registers → Option Terms
direct t i r = direct_as t.format t.m t.d i r

-- the address of the pointer of the other two; formats L and B have no operand in store, and no reading asks for one
abbrev pub pointer_as : Format → ℕ → ℕ → Registers → Option Terms
pointer_as A3 m d r = Some (plain (d * 2))
pointer_as A4 m d r = Some (plain (base r m + d * 2))
pointer_as _ m d r = None

abbrev pub pointer : Mode → Registers → Option Terms
pointer t r = pointer_as t.format t.m t.d r

-- the pointer's halfword, plus x items of k bytes
abbrev pub through : ℕ → ℕ → ℕ → Plan ℕ
through at x k = do
  p ← read Pointer Halfword at
  address (indexed p x k)

abbrev pub indirect : Option Terms → ℕ → ℕ → Plan ℕ
indirect None x k = halt Undefined
indirect (Some a) x k = do
  at ← address a
  through at x k

abbrev pub formed_by : Option Terms → Plan ℕ → Plan ℕ
formed_by (Some a) t = address a
formed_by None t = t

-- the operand's address
abbrev pub formed : Mode → Item → Registers → Plan ℕ
formed t i r = formed_by (direct t i r) (indirect (pointer t r) r.x (size i))

-- the operand itself
abbrev pub operand : Item → Mode → Registers → Plan ℕ
operand i t r = do
  at ← formed t i r
  read Operand i at

-- the element x of the string of items that begins at a register's address
abbrev pub element : Item → ℕ → ℕ → Terms
element i start x = indexed start x (size i)

-- the byte b of the table of bytes at a register's address
abbrev pub entry : ℕ → ℕ → Terms
entry start b = plain (start + b)

-- D halfwords from the next instruction, which s is at
abbrev pub target : ℕ → Registers → Terms
target d r = indexed r.s d 2
