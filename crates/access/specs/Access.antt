-- Which bytes a program may reach, and how items of one, two and four bytes are read and claimed.
use Rattle.std.specs.Prelude.{ℕ, zero, suc, ◌+◌, ◌-◌, ◌%◌, Bool, true, false, ◌&&◌, List, Some, None, Ok, Err, Option, Result, nat_le, slice_index, if◌then◌else◌}
use Rattle.std.specs.List.{list_any}
use Rattle.word.specs.Bytes as bytes
use Rattle.access.specs.Kinds.{access_of, permits}
use Rattle.access.specs.declared.item.Item.{Item}
use Rattle.access.specs.declared.item.Item.TheVariants.{Byte, Halfword, Fullword}
use Rattle.access.specs.declared.kind.Use.{Use}
use Rattle.access.specs.declared.kind.Use.TheVariants.{Fetch, Read, Write}
use Rattle.access.specs.declared.rights.Grant.{Grant}
use Rattle.access.specs.declared.rights.Rights.{Rights}
use Rattle.access.specs.declared.stop.Denial.{Denial}

-- the first failure, or what follows
abbrev pub bind : {T U E : Type 0} → Result T E → (T → Result U E) → Result U E
bind (Ok x) f = f x
bind (Err e) f = Err e

-- what is read, by its bits
abbrev pub held : {T E : Type 0} → (T → ℕ) → Result T E → Result ℕ E
held bits (Ok x) = Ok (bits x)
held bits (Err e) = Err e

-- one grant has all the bytes from a to b, and is of a kind that lets this be done with them
abbrev pub covers_all : Option Grant → Use → ℕ → ℕ → Bool
covers_all None u a b = false
covers_all (Some g) u a b = (nat_le g.first a && nat_le b g.last) && permits g.kind u

abbrev pub covers : Option Grant → Use → ℕ → Bool
covers g u at = covers_all g u at at

abbrev pub granted : List (Option Grant) → Use → ℕ → Bool
granted gs u at = list_any (λ g. covers g u at) gs

-- what a program may reach, by the grants of its bay
abbrev pub rights_of : List (Option Grant) → Rights
rights_of gs = record { grants = gs }

-- some grant has the byte, and is of a kind that lets this be done with it
abbrev pub allows : Rights → Use → ℕ → Bool
allows rights u at = granted rights.grants u at

-- each of n bytes, from an address on; past 65,535 there is none
abbrev pub allows_all : Rights → Use → ℕ → ℕ → Bool
allows_all rights u at zero = true
allows_all rights u at (suc n) = allows rights u at && allows_all rights u (at + 1) n

abbrev pub within : Rights → Use → ℕ → ℕ → Bool
within rights u at n = nat_le (at + n) 65536 && allows_all rights u at n

abbrev pub denial : Use → ℕ → Denial
denial u at = record { access = access_of u; byte = at }

abbrev pub checked : Rights → Use → ℕ → Result (Unit {0}) Denial
checked rights u at = if allows rights u at then Ok tt else Err (denial u at)

-- all that a step can ask: a byte of an instruction, a byte to read, leave to write a byte
pub record Sight : Type 0 where
  pub fetch : ℕ → Result ℕ Denial
  pub look : ℕ → Result ℕ Denial
  pub may : ℕ → Result (Unit {0}) Denial

abbrev pub seen : Rights → Use → List ℕ → ℕ → Result ℕ Denial
seen rights u bs at = bind (checked rights u at) (λ _. Ok (slice_index bs at))

abbrev pub sight : Rights → List ℕ → Sight
sight rights bs = record { fetch = seen rights Fetch bs; look = seen rights Read bs; may = checked rights Write }

-- the bytes of a store, and what a program may reach of them
pub record Viewed : Type 0 where
  pub rights : Rights
  pub bytes : List ℕ

abbrev pub viewed : Rights → List ℕ → Viewed
viewed rights bs = record { rights = rights; bytes = bs }

abbrev pub sight_of : Viewed → Sight
sight_of v = sight v.rights v.bytes

abbrev pub size : Item → ℕ
size Byte = 1
size Halfword = 2
size Fullword = 4

-- the address with its lowest bits taken as 0, so that no item lies across 65,535
abbrev pub aligned : Item → ℕ → ℕ
aligned Byte at = at
aligned Halfword at = at - at % 2
aligned Fullword at = at - at % 4

-- the bytes in ascending order, so that the lowest one that is refused is told
abbrev pub half_at : (ℕ → Result ℕ Denial) → ℕ → Result ℕ Denial
half_at look at = bind (look at) (λ high. bind (look ((at + 1) % 65536)) (λ low. Ok (bytes.half high low)))

abbrev pub full_at : (ℕ → Result ℕ Denial) → ℕ → Result ℕ Denial
full_at look at =
    bind (half_at look at) (λ high. bind (half_at look ((at + 2) % 65536)) (λ low. Ok (bytes.full high low)))

abbrev pub item_read : Item → (ℕ → Result ℕ Denial) → ℕ → Result ℕ Denial
item_read Byte look at = look at
item_read Halfword look at = half_at look (aligned Halfword at)
item_read Fullword look at = full_at look (aligned Fullword at)

abbrev pub half_may : (ℕ → Result (Unit {0}) Denial) → ℕ → Result (Unit {0}) Denial
half_may may at = bind (may at) (λ _. may ((at + 1) % 65536))

abbrev pub full_may : (ℕ → Result (Unit {0}) Denial) → ℕ → Result (Unit {0}) Denial
full_may may at = bind (half_may may at) (λ _. half_may may ((at + 2) % 65536))

abbrev pub item_may : Item → (ℕ → Result (Unit {0}) Denial) → ℕ → Result (Unit {0}) Denial
item_may Byte may at = may at
item_may Halfword may at = half_may may (aligned Halfword at)
item_may Fullword may at = full_may may (aligned Fullword at)
