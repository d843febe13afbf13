use Rattle.std.specs.Prelude.{ℕ, List, ◌++◌, codes, decimal}
use Rattle.std.specs.Fmt.{signed_decimal}
use Rattle.isa.specs.declared.reading.Reading.{Reading}
use Rattle.isa.specs.declared.reading.Reading.TheVariants.{Undefined, NoPattern, Defined}
use Rattle.isa.specs.Formats as formats
use Rattle.isa.specs.Names as names

-- how a reading is written: a defined one as its name, its format, M and D
abbrev pub reading_text : Reading → List ℕ
reading_text Undefined = codes "undefined"
reading_text NoPattern = codes "no pattern"
reading_text (Defined n f m d) =
    names.spelled n ++ (codes " " ++ (formats.spelled f ++ (codes " "
    ++ (decimal m ++ (codes " " ++ signed_decimal d)))))
