-- What each instruction does, s being at the next one.
use Rattle.std.specs.Prelude.{ℕ, ◌+◌, ◌%◌, Bool, true, false, cond, not, ◌||◌, ◌==◌, bit_and, nat_le, nat_lt}
use Rattle.std.specs.Int.{w16, w32}
use Rattle.isa.specs.declared.name.Name.{Name}
use Rattle.isa.specs.declared.name.Name.TheVariants.{Ldb, Ld, Ldw, Ldx, Stb, St, Stw, Stx, Ad, Adw, Sb, Sbw, Adx, Sbx, Cp, Cpw, Cpx, Nw, Nx, Mx, Dx, Ldy, Sty, Ady, Sby, Ldz, Stz, Adz, Sbz, Bi, Bli, Ldl, Adl, Sbl, Cpl, Nl, Ml, Bitx, Bz, Bnz, Bn, Bnn, Bca, Bof, B, Bl, Mbs, Cpbs, Trbs, Scbs, Mhs, Rk, Hrk, Sfn, Sim, Sfm, Bitl}
use Rattle.word.specs.Arithmetic.{difference, product, quotient, resized, sum}
use Rattle.access.specs.Access.{Viewed}
use Rattle.access.specs.declared.item.Item.{Item}
use Rattle.access.specs.declared.item.Item.TheVariants.{Byte, Halfword}
use Rattle.access.specs.declared.stop.Cause.TheVariants.{Halt}
use Rattle.machine.specs.Act.{Act, done, store, fail, Ending, ending_of, ◌>>=◌}
use Rattle.machine.specs.Address.{address, formed, item_of, operand, target}
use Rattle.machine.specs.Bits.{controlled}
use Rattle.machine.specs.Registers.{computed_a, computed_x, divided, linked, loaded_a, loaded_x, marked, minus, plus, raised, with_fm, with_nz, with_of, with_s, with_y, with_z}
use Rattle.machine.specs.Strings.{compared, moved, scanned, string, translated}
use Rattle.machine.specs.declared.mode.Mode.{Mode}
use Rattle.machine.specs.declared.registers.Registers.{Registers}

-- a fits a signed halfword
abbrev pub narrow : ℕ → Bool
narrow a = nat_lt a 0x8000 || nat_le 0xffff8000 a

-- the markers of a stored item: N its top bit, ZR whether it is zero
abbrev pub stored_byte : Registers → Registers
stored_byte r = with_nz r false (r.a % 256 == 0)

abbrev pub stored_half : Registers → Registers
stored_half r = raised (with_nz r (nat_le 0x8000 (r.a % 65536)) (r.a % 65536 == 0)) (not (narrow r.a))

abbrev pub stored_full : Registers → Registers
stored_full r = with_nz r (nat_le 0x80000000 r.a) (r.a == 0)

abbrev pub stored_x : Registers → Registers
stored_x r = with_nz r (nat_le 0x8000 r.x) (r.x == 0)

-- an item stored where the operand lies, and the registers after it
abbrev pub item_stored : Item → Mode → Registers → ℕ → Registers → Act
item_stored i t r v after = do
  at ← formed t i r
  store i at v after

-- a branch, which changes some registers where it is taken
abbrev pub branched : ℕ → Registers → Registers → Act
branched d r after = do
  at ← address (target d r)
  done (with_s after at)

abbrev pub branched_if : Bool → ℕ → Registers → Registers → Act
branched_if taken d r after = cond taken (branched d r after) (done r)

abbrev pub executed : Name → Mode → Registers → Act
executed Ldb t r = do
  v ← operand (item_of Ldb) t r
  done (loaded_a r v)
executed Ld t r = do
  v ← operand (item_of Ld) t r
  done (loaded_a r (resized w32 w16 v))
executed Ldw t r = do
  v ← operand (item_of Ldw) t r
  done (loaded_a r v)
executed Ldl t r = done (loaded_a r t.d)
executed Ldx t r = do
  v ← operand (item_of Ldx) t r
  done (loaded_x r v)
executed Stb t r = item_stored (item_of Stb) t r (r.a % 256) (stored_byte r)
executed St t r = item_stored (item_of St) t r (r.a % 65536) (stored_half r)
executed Stw t r = item_stored (item_of Stw) t r r.a (stored_full r)
executed Stx t r = item_stored (item_of Stx) t r r.x (stored_x r)
executed Ad t r = do
  v ← operand (item_of Ad) t r
  done (computed_a r (sum w32 w16 r.a v))
executed Adw t r = do
  v ← operand (item_of Adw) t r
  done (computed_a r (sum w32 w32 r.a v))
executed Adl t r = done (computed_a r (sum w32 w32 r.a t.d))
executed Adx t r = do
  v ← operand (item_of Adx) t r
  done (computed_x r (sum w16 w16 r.x v))
executed Sb t r = do
  v ← operand (item_of Sb) t r
  done (computed_a r (difference w32 w16 r.a v))
executed Sbw t r = do
  v ← operand (item_of Sbw) t r
  done (computed_a r (difference w32 w32 r.a v))
executed Sbl t r = done (computed_a r (difference w32 w32 r.a t.d))
executed Sbx t r = do
  v ← operand (item_of Sbx) t r
  done (computed_x r (difference w16 w16 r.x v))
executed Cp t r = do
  v ← operand (item_of Cp) t r
  done (marked r (difference w32 w16 r.a v))
executed Cpw t r = do
  v ← operand (item_of Cpw) t r
  done (marked r (difference w32 w32 r.a v))
executed Cpl t r = done (marked r (difference w32 w32 r.a t.d))
executed Cpx t r = do
  v ← operand (item_of Cpx) t r
  done (marked r (difference w16 w16 r.x v))
executed Nw t r = do
  v ← operand (item_of Nw) t r
  done (loaded_a r (bit_and r.a v))
executed Nl t r = done (loaded_a r (bit_and r.a t.d))
executed Nx t r = do
  v ← operand (item_of Nx) t r
  done (loaded_x r (bit_and r.x v))
executed Ml t r = done (computed_a r (product w32 r.a t.d r.ca))
executed Mx t r = do
  v ← operand (item_of Mx) t r
  done (computed_x r (product w16 r.x v r.ca))
executed Dx t r = do
  v ← operand (item_of Dx) t r
  done (divided r (quotient r.x v))
executed Ldy t r = do
  v ← operand (item_of Ldy) t r
  done (with_y r v)
executed Sty t r = item_stored (item_of Sty) t r r.y r
executed Ady t r = do
  v ← operand (item_of Ady) t r
  done (with_y r (plus r.y v))
executed Sby t r = do
  v ← operand (item_of Sby) t r
  done (with_y r (minus r.y v))
executed Ldz t r = do
  v ← operand (item_of Ldz) t r
  done (with_z r v)
executed Stz t r = item_stored (item_of Stz) t r r.z r
executed Adz t r = do
  v ← operand (item_of Adz) t r
  done (with_z r (plus r.z v))
executed Sbz t r = do
  v ← operand (item_of Sbz) t r
  done (with_z r (minus r.z v))
executed Bi t r = do
  v ← operand (item_of Bi) t r
  done (with_s r v)
executed Bli t r = do
  v ← operand (item_of Bli) t r
  done (with_s (linked r) v)
executed B t r = branched t.d r r
executed Bl t r = branched t.d r (linked r)
executed Bz t r = branched_if r.zr t.d r r
executed Bnz t r = branched_if (not r.zr) t.d r r
executed Bn t r = branched_if r.n t.d r r
executed Bnn t r = branched_if (not r.n) t.d r r
executed Bca t r = branched_if r.ca t.d r r
executed Bof t r = branched_if r.of t.d r (with_of r false)
executed Bitl t r = controlled (t.d % 256) r
executed Bitx t r = controlled ((t.d + r.x) % 256) r
executed Rk t r = done (loaded_a r 0)
executed Sfn t r = done (loaded_a r 0)
executed Sfm t r = done (with_fm r true)
executed Sim t r = done (with_fm r false)
executed Hrk t r = fail Halt
executed Mbs t r = string (moved Byte) r
executed Mhs t r = string (moved Halfword) r
executed Trbs t r = string translated r
executed Cpbs t r = string compared r
executed Scbs t r = string scanned r

abbrev pub does : Name → Mode → Registers → Viewed → Ending
does n t r v = ending_of (executed n t) r v
