-- What a listing makes of a store.
use Rattle.std.specs.Prelude.{ℕ, ◌/◌, ◌%◌, List, [], ◌∷◌, Ok, Err, Result}
use Rattle.store.specs.Bulk.{written}
use Rattle.text.specs.declared.fault.AtLine.{AtLine}
use Rattle.listing.specs.declared.fault.Fault.{Fault}
use Rattle.listing.specs.declared.placed.Placed.{Placed}
use Rattle.listing.specs.Listing.{Read}

-- the answer alone
abbrev pub answer_of : Read → Result (Unit {0}) (AtLine Fault)
answer_of (Ok ps) = Ok tt
answer_of (Err e) = Err e

-- a halfword has its more significant byte first
abbrev pub with_placed : List ℕ → Placed → List ℕ
with_placed bs p = written bs p.address (p.halfword / 256 ∷ p.halfword % 256 ∷ [])

abbrev pub with_all : List ℕ → List Placed → List ℕ
with_all bs [] = bs
with_all bs (p ∷ ps) = with_all (with_placed bs p) ps

-- the bytes of a store after a listing; a refused one leaves them as they were
abbrev pub bytes_after : List ℕ → Read → List ℕ
bytes_after bs (Ok ps) = with_all bs ps
bytes_after bs (Err e) = bs

-- the answer, and the bytes of the store after it
abbrev pub assembled : List ℕ → Read → Result (Unit {0}) (AtLine Fault) × List ℕ
assembled bs r = (answer_of r, bytes_after bs r)
