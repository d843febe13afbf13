-- A store by the pages of another, of 1,024 bytes each, and the check of its table.
use Rattle.std.specs.Prelude.{◌≡◌, ℕ, ◌+◌, ◌*◌, ◌/◌, ◌%◌, Bool, true, not, ◌&&◌, ◌==◌, List, [], ◌∷◌, length, nat_lt, Ok, Err, Result, slice_index, if◌then◌else◌}
use Rattle.std.specs.List.{list_any}
use Rattle.stores.specs.FromFn.{from_fn, length-from_fn}
use Rattle.stores.specs.declared.table_check.TableError.{TableError}
use Rattle.stores.specs.declared.table_check.TableError.TheVariants.{Page}

-- where the byte at an address stands below: at the same offset of the page that the table gives
abbrev pub place : List ℕ → ℕ → ℕ
place table at = slice_index table (at / 1024) * 1024 + at % 1024

abbrev pub mapped_bytes : List ℕ → List ℕ → List ℕ
mapped_bytes table below = from_fn 65536 (λ at. slice_index below (place table at))

pub length-mapped_bytes : (table below : List ℕ) → length (mapped_bytes table below) ≡ 65536
length-mapped_bytes table below = length-from_fn 65536 (λ at. slice_index below (place table at))

-- a page number is below 64, and none of the others
abbrev pub is_new_page : ℕ → List ℕ → Bool
is_new_page page others = nat_lt page 64 && not (list_any (λ other. other == page) others)

-- each page number is below 64, and none stands twice
abbrev pub is_page_table : List ℕ → Bool
is_page_table [] = true
is_page_table (page ∷ pages) = is_new_page page pages && is_page_table pages

-- the check of a table: refused for a page number out of range or repeated
abbrev pub table_check : List ℕ → Result (Unit {0}) TableError
table_check table = if is_page_table table then Ok tt else Err Page

-- each refusal's number
abbrev pub number : TableError → ℕ
number Page = 9
