-- The fields of a line.
use Rattle.std.specs.Prelude.{◌||◌, List, [], ◌∷◌, Some, None, Option, if◌then◌else◌}
use Rattle.text.specs.Search.{Bytes, empty, parts}
use Rattle.book.specs.declared.fields.Fields.{Fields}

pub record FieldTexts : Type 0 where
  pub letter : Bytes
  pub name : Bytes
  pub value : Bytes

-- just three fields, none of them empty
abbrev pub three_fields : List Bytes → Option FieldTexts
three_fields (a ∷ b ∷ c ∷ []) =
    if empty a || (empty b || empty c) then None
    else Some (record { letter = a; name = b; value = c })
three_fields _ = None

-- the fields of a line, which tabs part
abbrev pub line_fields : Bytes → Option FieldTexts
line_fields s = three_fields (parts 9 s)

-- the bytes that borrowed fields hold
abbrev pub texts : Fields → FieldTexts
texts f = record { letter = f.letter.now; name = f.name.now; value = f.value.now }

abbrev pub field_texts : Option Fields → Option FieldTexts
field_texts None = None
field_texts (Some f) = Some (texts f)
