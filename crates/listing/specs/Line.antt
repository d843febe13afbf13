-- What a line says.
use Rattle.std.specs.Prelude.{ℕ, List, [], ◌∷◌, Some, None, Ok, Err, codes, Option, Result, if◌then◌else◌}
use Rattle.std.specs.Option.{ok_or}
use Rattle.std.specs.Str.{bytes_eq}
use Rattle.isa.specs.Formats.{format_of}
use Rattle.isa.specs.Names.{name_of}
use Rattle.text.specs.Numbers.{hex_word}
use Rattle.text.specs.Results.{◌>>=◌}
use Rattle.text.specs.Search.{Bytes}
use Rattle.book.specs.declared.encode_error.EncodeError.{EncodeError}
use Rattle.book.specs.declared.tables.Tables.{Tables}
use Rattle.book.specs.Encode.{encode}
use Rattle.listing.specs.declared.fault.Fault.{Fault}
use Rattle.listing.specs.declared.fault.Fault.TheVariants.{Address, Words, Name, Format, Number, Encode}
use Rattle.listing.specs.declared.entry.Content.{Content}
use Rattle.listing.specs.declared.entry.Content.TheVariants.{Word, Halfwords}
use Rattle.listing.specs.declared.entry.Entry.{Entry}
use Rattle.listing.specs.Numbers.{signed_of, address_of}
use Rattle.listing.specs.Words.{words, only_word, three_words}

-- what a line places: a word, or the halfwords that words spell
pub data Says : Type 0 where
  a_word : ℕ → Says
  halfwords : List Bytes → Says

-- a refusal of the book, as a fault
abbrev pub or_fault : Result ℕ EncodeError → Result ℕ Fault
or_fault (Ok w) = Ok w
or_fault (Err e) = Err (Encode e)

-- a name, and then the words of a format, M and D
abbrev pub instruction : Tables → Bytes → List Bytes → Result ℕ Fault
instruction t name ws = do
  v ← ok_or (three_words ws) Words
  n ← ok_or (name_of name) Name
  f ← ok_or (format_of v.0) Format
  m ← ok_or (signed_of v.1) Number
  d ← ok_or (signed_of v.2) Number
  or_fault (encode t n f m d)

-- four hexadecimal digits
abbrev pub spelled_word : List Bytes → Result ℕ Fault
spelled_word ws = do
  digits ← ok_or (only_word ws) Words
  ok_or (hex_word digits) Number

-- one halfword at least
abbrev pub some_halfwords : List Bytes → Result Says Fault
some_halfwords [] = Err Words
some_halfwords (w ∷ ws) = Ok (halfwords (w ∷ ws))

-- what follows the address: its first word says of what kind the line is
abbrev pub content_of : Tables → Bytes → List Bytes → Result Says Fault
content_of t kind ws =
    if bytes_eq kind (codes "halfwords") then some_halfwords ws
    else if bytes_eq kind (codes "word") then (spelled_word ws >>= λ w. Ok (a_word w))
    else (instruction t kind ws >>= λ w. Ok (a_word w))

-- what a line says, with its address, if it says anything
abbrev pub Line : Type 0
Line = Result (Option (ℕ × Says)) Fault

abbrev pub after_address : Tables → ℕ → List Bytes → Line
after_address t a [] = Err Words
after_address t a (kind ∷ ws) = content_of t kind ws >>= λ says. Ok (Some (a, says))

-- the words of a line: none, or an address and what follows it
abbrev pub line_rule : Tables → List Bytes → Line
line_rule t [] = Ok None
line_rule t (w ∷ ws) = ok_or (address_of w) Address >>= λ a. after_address t a ws

-- the words that borrowed content has
abbrev pub content_says : Content → Says
content_says (Word w) = a_word w
content_says (Halfwords s) = halfwords (words s.now)

abbrev pub shown_content : Result Content Fault → Result Says Fault
shown_content (Err e) = Err e
shown_content (Ok c) = Ok (content_says c)

abbrev pub entry_says : Option Entry → Option (ℕ × Says)
entry_says None = None
entry_says (Some e) = Some (e.address, content_says e.content)

abbrev pub shown_entry : Result (Option Entry) Fault → Line
shown_entry (Err e) = Err e
shown_entry (Ok o) = Ok (entry_says o)
