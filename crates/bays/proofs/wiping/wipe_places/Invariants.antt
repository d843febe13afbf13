use Rattle.std.proofs.Common.{◌≡◌, drop}
use Rattle.bays.specs.Bays.{wiped}
use Rattle.bays.proofs.wiping.wipe_places.Given as goal

-- what is left to wipe makes the bytes what all of it makes of the old
abbrev pub invariant-loop-place : goal.invariant-loop-place
invariant-loop-place g l =
    (wiped (drop l.place-index l.places) 0 (g.S.Store.bytes l.store) ≡ wiped l.places 0 (g.S.Store.bytes l.initial.store))
    × (g.S.Store.footing l.store ≡ g.S.Store.footing l.initial.store)
