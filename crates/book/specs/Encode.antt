-- The word of a name, a format, M and D.
use Rattle.std.specs.Prelude.{ℕ, ◌+◌, ◌*◌, List, ℤ, Some, None, Ok, Option, Result, ◌==◌, option_and_then, slice_index_or, if◌then◌else◌}
use Rattle.std.specs.List.{position_from}
use Rattle.std.specs.Option.{ok_or}
use Rattle.isa.specs.declared.name.Name.{Name}
use Rattle.isa.specs.declared.name.Name.TheVariants.{Bitl}
use Rattle.isa.specs.declared.format.Format.{Format}
use Rattle.isa.specs.declared.format.Format.TheVariants.{A1, A2, A3, A4, A5, L, B}
use Rattle.isa.specs.Names.{rank}
use Rattle.text.specs.Results.{◌>>=◌}
use Rattle.word.specs.Fields.{unsigned_in, signed_in}
use Rattle.book.specs.declared.tables.Tables.{Tables}
use Rattle.book.specs.declared.encode_error.EncodeError.{EncodeError}
use Rattle.book.specs.declared.encode_error.EncodeError.TheVariants.{Unavailable, Unfit}
use Rattle.book.specs.Rows.{is_name}
use Rattle.book.specs.Patterns.{place_of}
use Rattle.book.specs.Wholes.{word_of, branches}

-- the number of each refusal
abbrev pub encode_error_number : EncodeError → ℕ
encode_error_number Unavailable = 21
encode_error_number Unfit = 22

-- the number of a name in a table that begins with the number i
abbrev pub number_in : Name → ℕ → List (Option Name) → Option ℕ
number_in n i t = position_from (is_name n) i t

-- how many values the pattern, M and D of an A format have
abbrev pub pattern_values : Format → ℕ
pattern_values A1 = 4
pattern_values A2 = 2
pattern_values A3 = 16
pattern_values A4 = 8
pattern_values A5 = 16
pattern_values L = 0
pattern_values B = 0

abbrev pub m_values : Format → ℕ
m_values A1 = 1
m_values A2 = 4
m_values A3 = 1
m_values A4 = 4
m_values A5 = 4
m_values L = 1
m_values B = 1

abbrev pub d_values : Format → ℕ
d_values A1 = 256
d_values A2 = 128
d_values A3 = 64
d_values A4 = 32
d_values A5 = 16
d_values L = 1
d_values B = 1

-- the word of an A format: number, pattern, M and D
abbrev pub a_word : Format → ℕ → ℕ → ℕ → ℕ → ℕ
a_word A1 k v m d = k * 1024 + v * 256 + d
a_word A2 k v m d = k * 1024 + v * 512 + m * 128 + d
a_word A3 k v m d = k * 1024 + v * 64 + d
a_word A4 k v m d = k * 1024 + v * 128 + m * 32 + d
a_word A5 k v m d = k * 1024 + v * 64 + m * 16 + d
a_word L k v m d = 0
a_word B k v m d = 0

abbrev pub pattern_at : Tables → Format → Option ℕ
pattern_at t f = option_and_then (λ i. slice_index_or t.patterns i None) (place_of f)

abbrev pub encode_a : Tables → Name → Format → ℤ → ℤ → Result ℕ EncodeError
encode_a t n f m d = do
  k ← ok_or (number_in n 0 t.a) Unavailable
  v ← ok_or (pattern_at t f) Unavailable
  x ← ok_or (unsigned_in (m_values f) m) Unfit
  y ← ok_or (unsigned_in (d_values f) d) Unfit
  Ok (a_word f k v x y)

-- M is not used, and D stands below the rest
abbrev pub word_without_m : ℕ → ℤ → Option ℕ → Result ℕ EncodeError
word_without_m base m d = do
  x ← ok_or (unsigned_in 1 m) Unfit
  y ← ok_or d Unfit
  Ok (base + y)

abbrev pub encode_b : Tables → Name → ℤ → ℤ → Result ℕ EncodeError
encode_b t n m d = do
  k ← ok_or (number_in n 0 t.b) Unavailable
  word_without_m (k * 1024) m (signed_in 512 d)

-- an L name of the book, whose D is signed where it branches
abbrev pub encode_named_l : Tables → Name → ℤ → ℤ → Result ℕ EncodeError
encode_named_l t n m d = do
  k ← ok_or (number_in n 0 t.l) Unavailable
  word_without_m (k * 256) m (if branches n then signed_in 128 d else unsigned_in 256 d)

abbrev pub encode_l : Option ℕ → Tables → Name → ℤ → ℤ → Result ℕ EncodeError
encode_l (Some w) t n m d = word_without_m w m (unsigned_in 1 d)
encode_l None t n m d =
    if rank n == rank Bitl then word_without_m (22 * 256) m (unsigned_in 256 d)
    else encode_named_l t n m d

abbrev pub encoding : Tables → Name → Format → ℤ → ℤ → Result ℕ EncodeError
encoding t n A1 m d = encode_a t n A1 m d
encoding t n A2 m d = encode_a t n A2 m d
encoding t n A3 m d = encode_a t n A3 m d
encoding t n A4 m d = encode_a t n A4 m d
encoding t n A5 m d = encode_a t n A5 m d
encoding t n L m d = encode_l (word_of n) t n m d
encoding t n B m d = encode_b t n m d

-- the word of a name, a format, M and D: unavailable if the book has none, else unfit if M or D is
unfoldable pub encode : Tables → Name → Format → ℤ → ℤ → Result ℕ EncodeError
encode t n f m d = encoding t n f m d
