-- Examples by number and value, each beside what the rules give for it.
use Rattle.std.specs.Prelude.{ℕ, ◌+◌, true, false, List, [], ◌∷◌, replicate, pos, Some, None, Ok, Result, slice_index, slice_set}
use Rattle.book.specs.Read.{new_tables}
use Rattle.book.specs.Readings.{reading}
use Rattle.book.specs.declared.tables.Tables.{Tables}
use Rattle.isa.specs.declared.format.Format.TheVariants.{A1, A2, A4, L}
use Rattle.isa.specs.declared.format.Format.TheVariants as format
use Rattle.isa.specs.declared.name.Name.{Name}
use Rattle.isa.specs.declared.name.Name.TheVariants.{Adx, Bitl, Dx, Ld, Ml}
use Rattle.isa.specs.declared.name.Name.TheVariants as name
use Rattle.isa.specs.declared.reading.Reading.{Reading}
use Rattle.isa.specs.declared.reading.Reading.TheVariants.{Defined}
use Rattle.access.specs.Access.{rights_of, sight}
use Rattle.access.specs.declared.item.Item.TheVariants.{Halfword}
use Rattle.access.specs.declared.kind.Kind.TheVariants.{Write}
use Rattle.access.specs.declared.rights.Rights.{Rights}
use Rattle.access.specs.declared.stop.Cause.{Cause}
use Rattle.machine.specs.Act.{Effect, effect, perform}
use Rattle.machine.specs.Address.{formed}
use Rattle.machine.specs.Instructions.{executed}
use Rattle.machine.specs.Plan.{obey}
use Rattle.machine.specs.Registers.{with_a, with_nz, with_of, with_s, with_x, with_y, with_z}
use Rattle.machine.specs.declared.mode.Mode.{Mode}
use Rattle.machine.specs.declared.registers.Registers.{Registers}
use Rattle.turns.specs.Step.{mode}
use Rattle.turns.specs.Turn.{Run, run}

-- a new book with LD as 17 and B as 1
abbrev pub tables : Tables
tables = record new_tables {
  a = slice_set new_tables.a 17 (Some Ld);
  b = slice_set new_tables.b 1 (Some name.B);
}

-- one write grant for the whole store
abbrev pub rights : Rights
rights = rights_of (Some (record { kind = Write; first = 0; last = 65535 }) ∷ replicate 5 None)

-- a store with one halfword in it; what lies past the list is zero
abbrev pub holding : ℕ → ℕ → ℕ → List ℕ
holding at high low = slice_set (slice_set (replicate 1100 0) at high) (at + 1) low

abbrev pub zeros : Registers
zeros = record {
  a = 0;
  b = 0;
  x = 0;
  y = 0;
  z = 0;
  s = 0;
  l = 0;
  fm = false;
  n = false;
  zr = false;
  of = false;
  ca = false;
}

abbrev pub with_l : Registers → ℕ → Registers
with_l r v = record r { l = v }

-- what an example is of: a word's reading, an operand's address, what an instruction does, registers or bytes
-- after a turn
pub data Example : Type 0 where
  reads : Reading → Example
  address : Result ℕ Cause → Example
  obeyed : Result Effect Cause → Example
  registers : Registers → Example
  bytes : ℕ → ℕ → Example

-- an instruction, s being at the next one
abbrev pub does : Name → Mode → Registers → List ℕ → Example
does n t r bs = obeyed (perform (sight rights bs) (executed n t r))

-- one in format A1 with its halfword operand at 2
abbrev pub on : Name → ℕ → ℕ → Registers → Example
on n high low r = does n (mode A1 0 (pos 1)) r (holding 2 high low)

-- one that stores nothing, with the registers after it
abbrev pub ends_in : Registers → Example
ends_in r = obeyed (Ok (effect r None))

-- MBS at 1000, and the bytes 200 and 201
abbrev pub strings : List ℕ
strings = slice_set (slice_set (holding 1000 0x27 0x00) 200 77) 201 88

abbrev pub after_steps : ℕ → Registers → List ℕ → Run
after_steps n r bs = run (reading tables) rights n 0 r bs

abbrev pub moved : ℕ → Example
moved steps =
    let r = with_s (with_z (with_y (with_x zeros 65534) 101) 201) 1000 in
    let bs = (after_steps steps r strings).bytes in
    bytes (slice_index bs 100) (slice_index bs 101)

abbrev pub examples : List Example
examples =
    reads (reading tables 0x040b)
    ∷ registers (after_steps 1 (with_s zeros 1000) (holding 1000 0x04 0x0b)).registers
    ∷ reads (reading tables 0x4483)
    ∷ address (obey (sight rights []) (formed (mode A2 1 (pos 3)) Halfword (with_s zeros 202)))
    ∷ reads (reading tables 0x4702)
    ∷ address (obey (sight rights (holding 404 2 88))
    (formed (mode A4 0 (pos 2)) Halfword (with_l (with_x zeros 65535) 400)))
    ∷ does Bitl (mode L 0 (pos 0xac)) zeros []
    ∷ on Dx 0 2 (with_x zeros 65529)
    ∷ on Dx 255 255 (with_x zeros 32768)
    ∷ on Adx 0 1 (with_x zeros 32767)
    ∷ does Ml (mode L 0 (pos 2)) (with_a zeros 0x80000000) []
    ∷ moved 1
    ∷ moved 2
    ∷ []

abbrev pub answers : List Example
answers =
    -- hex 040B is B 11, and at 1000 makes s 1024
    reads (Defined name.B format.B 0 (pos 11))
    ∷ registers (with_s zeros 1024)
    -- hex 4483 is LD A2, M 1, D 3; at 200 the operand is at 208
    ∷ reads (Defined Ld A2 1 (pos 3))
    ∷ address (Ok 208)
    -- hex 4702 is LD A4, M 0, D 2; with l 400, halfword 600 at 404 and x -1 the operand is at 598
    ∷ reads (Defined Ld A4 0 (pos 2))
    ∷ address (Ok 598)
    -- hex 16AC makes AL hex 0008
    ∷ ends_in (with_a zeros 8)
    -- DX: -7 by 2 is -3, N 1; -32,768 by -1 keeps x, OF 1
    ∷ ends_in (with_nz (with_x zeros 65533) true false)
    ∷ ends_in (with_of (with_x zeros 32768) true)
    -- ADX: 32,767 + 1 is -32,768, N 0, OF 1, CA 0
    ∷ ends_in (with_of (with_x zeros 32768) true)
    -- ML: -2,147,483,648 by 2 is 0, N 1, ZR 1, OF 1
    ∷ ends_in (with_of (with_nz (with_a zeros 0) true true) true)
    -- MBS with x -2, y 101, z 201 moves byte 200 to 100, then 201 to 101
    ∷ bytes 77 0
    ∷ bytes 77 88
    ∷ []
