-- What a line adds to the tables.
use Rattle.std.specs.Prelude.{ℕ, List, [], ◌∷◌, Some, None, Ok, Err, Option, Result, ◌==◌, slice_set, if◌then◌else◌}
use Rattle.std.specs.Option.{ok_or}
use Rattle.isa.specs.declared.name.Name as isa
use Rattle.isa.specs.Formats.{format_of}
use Rattle.isa.specs.declared.letter.Letter.{Letter}
use Rattle.isa.specs.declared.letter.Letter.TheVariants as letter
use Rattle.isa.specs.Names.{name_under}
use Rattle.text.specs.Search.{Bytes}
use Rattle.text.specs.Numbers.{number_of}
use Rattle.text.specs.Results.{◌>>=◌}
use Rattle.book.specs.declared.fault.Fault.{Fault}
use Rattle.book.specs.declared.fault.Fault.TheVariants.{Name, Value, Repeated}
use Rattle.book.specs.declared.tables.Tables.{Tables}
use Rattle.book.specs.Columns.{FieldTexts}
use Rattle.book.specs.Rows.{taken}
use Rattle.book.specs.Patterns.{place_of, length_at, pattern_of, clashes}
use Rattle.book.specs.Sound.{reserved}

-- the table of a letter, how many numbers it has, and the tables with another one
abbrev pub rows_of : Letter → Tables → List (Option isa.Name)
rows_of letter.A t = t.a
rows_of letter.L t = t.l
rows_of letter.B t = t.b

abbrev pub row_count : Letter → ℕ
row_count letter.A = 64
row_count letter.L = 64
row_count letter.B = 4

abbrev pub with_rows : Letter → Tables → List (Option isa.Name) → Tables
with_rows letter.A t r = record t { a = r }
with_rows letter.L t r = record t { l = r }
with_rows letter.B t r = record t { b = r }

-- a line that has the pattern of a format
abbrev pub add_pattern : Tables → Bytes → Bytes → Result Tables Fault
add_pattern t name value = do
  format ← ok_or (format_of name) Name
  place ← ok_or (place_of format) Name
  v ← ok_or (pattern_of (length_at place) value) Value
  if clashes place v 0 t.patterns then Err Repeated
      else Ok (record t { patterns = slice_set t.patterns place (Some v) })

abbrev pub unreserved : Option ℕ → Option ℕ
unreserved None = None
unreserved (Some k) = if reserved k then None else Some k

-- the number that a name of a letter may have
abbrev pub number_under : Letter → Bytes → Option ℕ
number_under letter.A s = number_of 16 63 s
number_under letter.L s = unreserved (number_of 16 63 s)
number_under letter.B s = number_of 1 3 s

-- a line that has the number of a name; both are new
abbrev pub add_name : Letter → Tables → Bytes → Bytes → Result Tables Fault
add_name c t name value = do
  n ← ok_or (name_under c name) Name
  k ← ok_or (number_under c value) Value
  if taken (rows_of c t) n k then Err Repeated
      else Ok (with_rows c t (slice_set (rows_of c t) k (Some n)))

-- F, A, L and B are 70, 65, 76 and 66
abbrev pub by_letter : ℕ → Tables → Bytes → Bytes → Result Tables Fault
by_letter c t name value =
    if c == 70 then add_pattern t name value
    else if c == 65 then add_name letter.A t name value
    else if c == 76 then add_name letter.L t name value
    else if c == 66 then add_name letter.B t name value
    else Err Name

-- the first field is a letter, and nothing follows it
abbrev pub by_first : Bytes → Tables → Bytes → Bytes → Result Tables Fault
by_first (c ∷ []) t name value = by_letter c t name value
by_first _ t name value = Err Name

abbrev pub added : Tables → FieldTexts → Result Tables Fault
added t f = by_first f.letter t f.name f.value
