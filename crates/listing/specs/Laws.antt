-- What a listing leaves in a store, seen halfword by halfword.
use Rattle.std.specs.Prelude.{◌≡◌, ℕ, ◌+◌, ◌/◌, ◌%◌, ◌<◌, ◌≤◌, List, [], ◌∷◌, Ok, Err, ◌≢◌, slice_index}
use Rattle.listing.specs.declared.placed.Placed.{Placed}
use Rattle.listing.specs.Listing.{Read}

-- the addresses are even and rise from e on, so that no two halfwords share a byte
abbrev pub IsRising : ℕ → List Placed → Type 0
IsRising e [] = Unit {0}
IsRising e (p ∷ ps) =
    (e ≤ p.address) × (p.address % 2 ≡ 0) × (p.address < 65536) × IsRising (p.address + 2) ps

-- each halfword is found where it was placed
abbrev pub AreFound : List Placed → List ℕ → Type 0
AreFound [] bs = Unit {0}
AreFound (p ∷ ps) bs =
    (slice_index bs p.address ≡ p.halfword / 256)
    × (slice_index bs (p.address + 1) ≡ p.halfword % 256)
    × AreFound ps bs

-- no halfword has a byte at i
abbrev pub IsApart : ℕ → List Placed → Type 0
IsApart i [] = Unit {0}
IsApart i (p ∷ ps) = (i ≢ p.address) × (i ≢ p.address + 1) × IsApart i ps

-- all halfwords are there and nothing else has changed; a refused listing changes nothing at all
abbrev pub IsLaid : Read → List ℕ → List ℕ → Type 0
IsLaid (Err e) old new = new ≡ old
IsLaid (Ok ps) old new =
    IsRising 0 ps × AreFound ps new
    × ((i : ℕ) → IsApart i ps → slice_index new i ≡ slice_index old i)
