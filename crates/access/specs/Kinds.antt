-- What a grant lets be done with its bytes, by its kind: the table that steps, loads, copies, closes, clashes and histories go by.
use Rattle.std.specs.Prelude.{ℕ, List, [], ◌∷◌, Bool, true, false, Option, Result, codes}
use Rattle.std.specs.Option.{ok_or}
use Rattle.text.specs.Spelling.{first}
use Rattle.access.specs.declared.kind.Kind.{Kind}
use Rattle.access.specs.declared.kind.Kind.TheVariants as kind
use Rattle.access.specs.declared.kind.UnknownKind.{UnknownKind}
use Rattle.access.specs.declared.kind.Use.{Use}
use Rattle.access.specs.declared.kind.Use.TheVariants.{Fetch, Read, Write, Load, Copy, Clear}
use Rattle.access.specs.declared.stop.Access.{Access}
use Rattle.access.specs.declared.stop.Access.TheVariants as access

abbrev pub permits : Kind → Use → Bool
permits kind.Read Fetch = true
permits kind.Read Read = true
permits kind.Read Write = false
permits kind.Read Load = false
permits kind.Read Copy = true
permits kind.Read Clear = false
permits kind.Write Fetch = true
permits kind.Write Read = true
permits kind.Write Write = true
permits kind.Write Load = true
permits kind.Write Copy = true
permits kind.Write Clear = true

-- what a stop tells of a use
abbrev pub access_of : Use → Access
access_of Fetch = access.Read
access_of Read = access.Read
access_of Write = access.Write
access_of Load = access.Write
access_of Copy = access.Read
access_of Clear = access.Write

-- how a kind is written
abbrev pub spelled : Kind → List ℕ
spelled kind.Read = codes "read"
spelled kind.Write = codes "write"

abbrev pub kinds : List Kind
kinds = kind.Read ∷ kind.Write ∷ []

-- the kind that is spelled so
unfoldable pub kind_of : List ℕ → Option Kind
kind_of s = first spelled kinds s

-- the same, or that there is none
abbrev pub kind_read : List ℕ → Result Kind UnknownKind
kind_read s = ok_or (kind_of s) (record {})
