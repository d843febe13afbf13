use Rattle.std.specs.Prelude.{ℕ, zero, suc, ◌+◌, ◌/◌, ◌%◌, Bool, false, List, [], ◌∷◌, pos, Some, None, Option, ◌==◌, nat_lt, slice_index_or, if◌then◌else◌}
use Rattle.isa.specs.declared.name.Name.{Name}
use Rattle.isa.specs.declared.name.Name.TheVariants.{Bitl}
use Rattle.isa.specs.declared.format.Format.{Format}
use Rattle.isa.specs.declared.format.Format.TheVariants.{A1, A2, A3, A4, A5, L, B}
use Rattle.isa.specs.declared.reading.Reading.{Reading}
use Rattle.isa.specs.declared.reading.Reading.TheVariants.{Undefined, NoPattern, Defined}
use Rattle.word.specs.Fields.{as_signed}
use Rattle.book.specs.declared.tables.Tables.{Tables}
use Rattle.book.specs.Wholes.{whole_of, l_d}

-- format B: the number in bits 4 and 5, and a signed D in the other ten
abbrev pub b_reading : Option Name → ℕ → Reading
b_reading None w = Undefined
b_reading (Some n) w = Defined n B 0 (as_signed 512 (w % 1024))

-- format L: the number in bits 2 to 7, and D in the other eight
abbrev pub named_l_reading : Option Name → ℕ → Reading
named_l_reading None w = Undefined
named_l_reading (Some n) w = Defined n L 0 (l_d n (w % 256))

abbrev pub l_reading_by : Option Name → Tables → ℕ → Reading
l_reading_by (Some n) t w = Defined n L 0 (pos 0)
l_reading_by None t w =
    if w / 256 == 22 then Defined Bitl L 0 (pos (w % 256))
    else named_l_reading (slice_index_or t.l (w / 256) None) w

abbrev pub l_reading : Tables → ℕ → Reading
l_reading t w = l_reading_by (whole_of w) t w

-- the bits are the pattern
abbrev pub is_pattern : Option ℕ → ℕ → Bool
is_pattern None x = false
is_pattern (Some v) x = v == x

-- the format whose pattern begins the four bits
abbrev pub format_at : List (Option ℕ) → ℕ → Option Format
format_at ps x =
    if is_pattern (slice_index_or ps 0 None) (x / 4) then Some A1
    else if is_pattern (slice_index_or ps 1 None) (x / 8) then Some A2
    else if is_pattern (slice_index_or ps 2 None) x then Some A3
    else if is_pattern (slice_index_or ps 3 None) (x / 2) then Some A4
    else if is_pattern (slice_index_or ps 4 None) x then Some A5
    else None

abbrev pub m_field : Format → ℕ → ℕ
m_field A1 w = 0
m_field A2 w = w / 128 % 4
m_field A3 w = 0
m_field A4 w = w / 32 % 4
m_field A5 w = w / 16 % 4
m_field L w = 0
m_field B w = 0

abbrev pub d_field : Format → ℕ → ℕ
d_field A1 w = w % 256
d_field A2 w = w % 128
d_field A3 w = w % 64
d_field A4 w = w % 32
d_field A5 w = w % 16
d_field L w = 0
d_field B w = 0

abbrev pub named_a_reading : Option Name → Format → ℕ → Reading
named_a_reading None f w = Undefined
named_a_reading (Some n) f w = Defined n f (m_field f w) (pos (d_field f w))

-- format A: the number in bits 0 to 5, the pattern from bit 6 on
abbrev pub a_reading_by : Option Format → Tables → ℕ → Reading
a_reading_by None t w = NoPattern
a_reading_by (Some f) t w = named_a_reading (slice_index_or t.a (w / 1024) None) f w

abbrev pub a_reading : Tables → ℕ → Reading
a_reading t w = a_reading_by (format_at t.patterns (w / 64 % 16)) t w

-- bits 0 to 5 zero, bits 0 to 3 zero, bits 0 and 1 zero, and the rest
abbrev pub meaning : Tables → ℕ → Reading
meaning t w =
    if nat_lt w 1024 then Undefined
    else if nat_lt w 4096 then b_reading (slice_index_or t.b (w / 1024) None) w
    else if nat_lt w 16384 then l_reading t w
    else a_reading t w

-- what a word means under the tables
unfoldable pub reading : Tables → ℕ → Reading
reading t w = meaning t w

-- the readings of n successive words
unfoldable pub readings_from : Tables → ℕ → ℕ → List Reading
readings_from t w zero = []
readings_from t w (suc n) = reading t w ∷ readings_from t ((w + 1) % 65536) n
