-- A table: the names of its numbers.
use Rattle.std.specs.Prelude.{ℕ, Bool, false, ◌||◌, List, is_some, Some, None, Ok, Err, Option, Result, ◌==◌, slice_index_or, slice_set, if◌then◌else◌}
use Rattle.std.specs.List.{list_any}
use Rattle.isa.specs.declared.name.Name.{Name}
use Rattle.isa.specs.Names.{rank}
use Rattle.book.specs.declared.fault.Fault.{Fault}
use Rattle.book.specs.declared.fault.Fault.TheVariants.{Repeated}

abbrev pub is_name : Name → Option Name → Bool
is_name n None = false
is_name n (Some m) = rank m == rank n

abbrev pub has_name : Name → List (Option Name) → Bool
has_name n t = list_any (is_name n) t

-- the number has a name, or the name a number
abbrev pub taken : List (Option Name) → Name → ℕ → Bool
taken t n k = is_some (slice_index_or t k None) || has_name n t

-- the answer where a name is entered at a number, and the table after it
abbrev pub entered : List (Option Name) → Name → ℕ → Result (Unit {0}) Fault × List (Option Name)
entered t n k = if taken t n k then (Err Repeated, t) else (Ok tt, slice_set t k (Some n))
