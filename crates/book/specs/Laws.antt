-- What readings and encodings promise together.
use Rattle.std.specs.Prelude.{◌≡◌, ℕ, ℤ, pos, Ok, Err, Result}
use Rattle.isa.specs.declared.name.Name.{Name}
use Rattle.isa.specs.declared.format.Format.{Format}
use Rattle.isa.specs.declared.reading.Reading.{Reading}
use Rattle.isa.specs.declared.reading.Reading.TheVariants.{Undefined, NoPattern, Defined}
use Rattle.book.specs.declared.tables.Tables.{Tables}
use Rattle.book.specs.declared.encode_error.EncodeError.{EncodeError}
use Rattle.book.specs.Readings.{reading}
use Rattle.book.specs.Encode.{encode}
use Rattle.book.specs.Layout.{Lays}

-- the word has no layout
abbrev pub HasNoLayout : Tables → ℕ → Type 0
HasNoLayout t w = (n : Name) (f : Format) (m : ℕ) (d : ℤ) → Lays t w n f m d → ⊥

-- a defined reading is a layout of the word, and any other says that it has none
abbrev pub IsLayout : Tables → ℕ → Reading → Type 0
IsLayout t w Undefined = HasNoLayout t w
IsLayout t w NoPattern = HasNoLayout t w
IsLayout t w (Defined n f m d) = Lays t w n f m d

-- no layout of the word is any but this reading
abbrev pub IsSoleLayout : Tables → ℕ → Reading → Type 0
IsSoleLayout t w r =
    (n : Name) (f : Format) (m : ℕ) (d : ℤ) → Lays t w n f m d → r ≡ Defined n f m d

-- a defined reading, encoded, gives the word again
abbrev pub EncodesBack : Tables → ℕ → Reading → Type 0
EncodesBack t w Undefined = Unit {0}
EncodesBack t w NoPattern = Unit {0}
EncodesBack t w (Defined n f m d) = encode t n f (pos m) d ≡ Ok w

-- M is this number, and the word reads as the name, the format, M and D
pub record ReadsAs (t : Tables) (w : ℕ) (n : Name) (f : Format) (m d : ℤ) : Type 0 where
  pub x : ℕ
  pub m_is : m ≡ pos x
  pub reads : reading t w ≡ Defined n f x d

-- a word that was encoded reads as what it was encoded from
abbrev pub ReadsBack : Tables → Name → Format → ℤ → ℤ → Result ℕ EncodeError → Type 0
ReadsBack t n f m d (Ok w) = ReadsAs t w n f m d
ReadsBack t n f m d (Err e) = Unit {0}
