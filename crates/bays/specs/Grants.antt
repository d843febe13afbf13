-- Grants: which bytes they have, when two clash, the check of a new one, and the places for six.
use Rattle.std.specs.Prelude.{ℕ, suc, Bool, false, ◌&&◌, ◌||◌, List, [], ◌∷◌, length, Some, None, Ok, Err, Option, Result, nat_le, nat_lt, slice_set, if◌then◌else◌}
use Rattle.std.specs.List.{list_any}
use Rattle.access.specs.Access.{granted}
use Rattle.access.specs.Kinds.{permits}
use Rattle.access.specs.declared.kind.Use.TheVariants.{Clear}
use Rattle.access.specs.declared.rights.Grant.{Grant}
use Rattle.bays.specs.declared.refusal.Refusal.{Refusal}
use Rattle.bays.specs.declared.refusal.Refusal.TheVariants.{Reversed, Full, Clash}

-- the byte lies in the grant's range
abbrev pub has : Grant → ℕ → Bool
has g at = nat_le g.first at && nat_le at g.last

-- a vacant place passes no test
abbrev pub passes : (Grant → Bool) → Option Grant → Bool
passes test None = false
passes test (Some g) = test g

abbrev pub any_grant : (Grant → Bool) → List (Option Grant) → Bool
any_grant test gs = list_any (λ g. passes test g) gs

-- some grant has the byte
abbrev pub holds : List (Option Grant) → ℕ → Bool
holds gs at = any_grant (λ g. has g at) gs

-- some grant has it that is exclusive: a close makes its bytes zero, and it shares none
abbrev pub excludes : List (Option Grant) → ℕ → Bool
excludes gs at = granted gs Clear at

-- the two ranges have a byte in common
abbrev pub shares : Grant → Grant → Bool
shares g h = nat_le g.first h.last && nat_le h.first g.last

-- two grants may share bytes if neither is exclusive
abbrev pub clashes : Grant → Option Grant → Bool
clashes g None = false
clashes g (Some h) = (permits g.kind Clear || permits h.kind Clear) && shares g h

abbrev pub clashes_any : Grant → List (Option Grant) → Bool
clashes_any g hs = list_any (clashes g) hs

-- how many places there are before the first vacant one, that one if there is one, and a grant put there
abbrev pub vacant : List (Option Grant) → ℕ
vacant [] = 0
vacant (None ∷ gs) = 0
vacant (Some h ∷ gs) = suc (vacant gs)

abbrev pub room : List (Option Grant) → Bool
room gs = nat_lt (vacant gs) (length gs)

abbrev pub place : List (Option Grant) → Option ℕ
place gs = if room gs then Some (vacant gs) else None

abbrev pub added : Grant → List (Option Grant) → List (Option Grant)
added g gs = slice_set gs (vacant gs) (Some g)

-- the check of a grant, by the ranges of its own bay, and whether it clashes with some range: its place, or the refusal
abbrev pub checked : Grant → List (Option Grant) → Bool → Result ℕ Refusal
checked g own clash =
    if nat_le g.first g.last then (if room own then (if clash then Err Clash else Ok (vacant own)) else Err Full) else Err Reversed
