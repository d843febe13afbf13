-- The fields of a line, read from the first on.
use Rattle.std.specs.Prelude.{ℕ, ◌+◌, ◌*◌, not, ◌&&◌, List, [], ◌∷◌, Some, None, Ok, Err, Option, Result, ◌==◌, nat_le, if◌then◌else◌}
use Rattle.std.specs.Borrow.{Bor}
use Rattle.std.specs.Option.{ok_or}
use Rattle.std.specs.Str.{is_utf8}
use Rattle.text.specs.Search.{Bytes, empty, parts}
use Rattle.text.specs.Numbers.{number_of}
use Rattle.text.specs.Results as results
use Rattle.access.specs.Kinds.{kind_of}
use Rattle.access.specs.declared.rights.Grant.{Grant}
use Rattle.access.specs.declared.kind.Kind.{Kind}
use Rattle.machine.specs.declared.registers.Registers.{Registers}
use Rattle.bays.specs.Bays.{zeros}
use Rattle.job.specs.declared.area.Area.{Area}
use Rattle.job.specs.declared.entry.Entry.{Entry}
use Rattle.job.specs.declared.fault.Fault.{Fault}
use Rattle.job.specs.declared.fault.Fault.TheVariants as fault
use Rattle.job.specs.declared.job.Turns.{Turns}
use Rattle.job.specs.Entries.{entry_read}

-- the fields that tabs part
abbrev pub fields : Bytes → List Bytes
fields s = parts 9 s

-- what the first fields say, with the fields behind them, or the first fault
abbrev pub Reader : Type 0 → Type 0
Reader X = List Bytes → Result (X × List Bytes) Fault

-- one reader, and then another
infixl 10 ◌>>=◌
abbrev pub ◌>>=◌ : {X Y : Type 0} → Reader X → (X → Reader Y) → Reader Y
r >>= f = λ fs. results.◌>>=◌ (r fs) (λ p. f p.0 p.1)

-- a value that needs no field
abbrev pub give : {X : Type 0} → X → Reader X
give x fs = Ok (x, fs)

-- an answer, with the fields that are left
abbrev pub answer : {X : Type 0} → Result X Fault → Reader X
answer (Err e) fs = Err e
answer (Ok x) fs = Ok (x, fs)

abbrev pub a_field : Reader Bytes
a_field [] = Err fault.Fields
a_field (s ∷ fs) = Ok (s, fs)

-- the entry that the first field names
abbrev pub an_entry : Reader Entry
an_entry = do
  name ← a_field
  answer (entry_read name)

abbrev pub a_number : ℕ → ℕ → Reader ℕ
a_number low high = do
  digits ← a_field
  answer (ok_or (number_of low high digits) fault.Number)

abbrev pub a_half : Reader ℕ
a_half = a_number 0 65535

abbrev pub a_full : Reader ℕ
a_full = a_number 0 4294967295

abbrev pub a_bay : Reader ℕ
a_bay = a_number 1 8

abbrev pub a_kind : Reader Kind
a_kind = do
  word ← a_field
  answer (ok_or (kind_of word) fault.Kind)

abbrev pub a_grant : Reader Grant
a_grant = do
  kind ← a_kind
  first ← a_half
  last ← a_half
  give (record { kind = kind; first = first; last = last })

-- A, B, X, Y, Z, S and L, and no marker
abbrev pub some_registers : Reader Registers
some_registers = do
  a ← a_full
  b ← a_full
  x ← a_half
  y ← a_half
  z ← a_half
  s ← a_half
  l ← a_half
  give (record zeros { a = a; b = b; x = x; y = y; z = z; s = s; l = l })

-- so many halfwords from an address on, if they lie in the store whole
abbrev pub area_at : ℕ → ℕ → Option Area
area_at address halfwords =
    if nat_le (address + 2 * halfwords) 65536
    then Some (record { address = address; halfwords = halfwords })
    else None

-- one halfword at least
abbrev pub area_of : ℕ → ℕ → Result Area Fault
area_of address halfwords =
    if halfwords == 0 then Err fault.Number
    else ok_or (area_at address halfwords) fault.Outside

abbrev pub an_area : Reader Area
an_area = do
  address ← a_half
  halfwords ← a_half
  answer (area_of address halfwords)

abbrev pub some_turns : Reader Turns
some_turns = do
  count ← a_half
  budget ← a_half
  give (record { count = count; budget = budget })

-- the name of a file: UTF-8, and not empty
abbrev pub name_of : Bytes → Result Bytes Fault
name_of s = if is_utf8 s && not (empty s) then Ok s else Err fault.Text

abbrev pub a_file : Reader Bytes
a_file = do
  name ← a_field
  answer (name_of name)

-- no field is left
abbrev pub ended : List Bytes → Result (Unit {0}) Fault
ended [] = Ok tt
ended (s ∷ fs) = Err fault.Fields

-- the fields of what is left of a line
abbrev pub fields_in : Option (Bor Bytes) → List Bytes
fields_in None = []
fields_in (Some r) = fields r.now

-- the bytes that were read
abbrev pub shown_bytes : Result (Bor Bytes) Fault → Result Bytes Fault
shown_bytes (Err e) = Err e
shown_bytes (Ok r) = Ok r.now
