-- What a text makes of a book.
use Rattle.std.specs.Prelude.{◌∷◌, [], replicate, Some, None, Ok, Err, Result, if◌then◌else◌}
use Rattle.std.specs.Option.{ok_or}
use Rattle.text.specs.declared.fault.AtLine.{AtLine}
use Rattle.text.specs.Search.{Bytes}
use Rattle.text.specs.Faults.{at_line}
use Rattle.text.specs.Results.{◌>>=◌}
use Rattle.text.specs.TakeLine.{lines_taken}
use Rattle.book.specs.declared.fault.Fault.{Fault}
use Rattle.book.specs.declared.fault.Fault.TheVariants.{Fields, Missing}
use Rattle.book.specs.declared.tables.Tables.{Tables}
use Rattle.book.specs.Columns.{line_fields}
use Rattle.book.specs.Patterns.{every}
use Rattle.book.specs.Add.{added}

-- the tables with what a line says
abbrev pub line_rule : Tables → Bytes → Result Tables Fault
line_rule t s = ok_or (line_fields s) Fields >>= added t

-- each format has its pattern
abbrev pub finished : Tables → Result Tables Fault
finished t = if every t.patterns then Ok t else Err Missing

abbrev pub no_tables : Tables
no_tables = record {
  a = replicate 64 None;
  l = replicate 64 None;
  b = replicate 4 None;
  patterns = replicate 5 None;
}

-- the tables that a text has, read into empty ones line by line, or the first refusal with its line
unfoldable pub tables_of : Bytes → Result Tables (AtLine Fault)
tables_of s = do
  p ← lines_taken line_rule Fields no_tables s
  at_line p.1 (finished p.0)

-- the answer of a book that reads a text, and its tables after it
abbrev pub after_reading : Tables → Result Tables (AtLine Fault)
    → Result (Unit {0}) (AtLine Fault) × Tables
after_reading old (Ok t) = (Ok tt, t)
after_reading old (Err e) = (Err e, old)

-- A1 10, A2 0, A3 1110, A4 110, A5 1111, and no instruction
abbrev pub new_tables : Tables
new_tables = record no_tables {
  patterns = Some 0b10 ∷ Some 0 ∷ Some 0b1110 ∷ Some 0b110 ∷ Some 0b1111 ∷ [];
}
