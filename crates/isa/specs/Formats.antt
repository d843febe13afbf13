use Rattle.std.specs.Prelude.{ℕ, List, [], ◌∷◌, codes, Option, Result}
use Rattle.std.specs.Option.{ok_or}
use Rattle.text.specs.Spelling.{first}
use Rattle.isa.specs.declared.format.Format.{Format}
use Rattle.isa.specs.declared.format.UnknownFormat.{UnknownFormat}
use Rattle.isa.specs.declared.format.Format.TheVariants.{A1, A2, A3, A4, A5, L, B}

-- how a format is written
abbrev pub spelled : Format → List ℕ
spelled A1 = codes "A1"
spelled A2 = codes "A2"
spelled A3 = codes "A3"
spelled A4 = codes "A4"
spelled A5 = codes "A5"
spelled L = codes "L"
spelled B = codes "B"

abbrev pub formats : List Format
formats = A1 ∷ A2 ∷ A3 ∷ A4 ∷ A5 ∷ L ∷ B ∷ []

-- the format that is spelled so
unfoldable pub format_of : List ℕ → Option Format
format_of s = first spelled formats s

-- the same, or that there is none
abbrev pub format_read : List ℕ → Result Format UnknownFormat
format_read s = ok_or (format_of s) (record {})
