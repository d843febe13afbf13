use Rattle.std.proofs.Common.{◌≡◌, ◌+◌, ◌-◌, ◌≤◌, length}
use Rattle.bays.proofs.Bytes.{ZeroedTo}
use Rattle.bays.proofs.wiping.wipe_grant.Given as goal

abbrev pub invariant-loop-at : goal.invariant-loop-at
invariant-loop-at g l =
    (l.at ≤ l.fn.grant.first + (l.fn.grant.last - l.fn.grant.first))
    × ZeroedTo l.fn.grant.first l.at (g.S.Store.bytes l.initial.store) (g.S.Store.bytes l.store)
    × (length (g.S.Store.bytes l.store) ≡ 65536)
    × (g.S.Store.footing l.store ≡ g.S.Store.footing l.initial.store)
