use Rattle.std.proofs.Common.{◌≡◌, List, Option}
use Rattle.std.specs.List.{position}
use Rattle.std.proofs.lemmas.Iterator.Adapters.{position_from-zero}
use Rattle.isa.specs.declared.name.Name.{Name}
use Rattle.book.specs.Rows.{is_name}
use Rattle.book.specs.Encode.{number_in}

-- the place of a name is its number
pub number_is : (n : Name) (t : List (Option Name)) → position (is_name n) t ≡ number_in n 0 t
number_is n t = position_from-zero (is_name n) t
