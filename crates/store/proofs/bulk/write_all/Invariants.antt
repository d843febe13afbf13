use Rattle.std.proofs.Common.{◌≡◌, drop}
use Rattle.store.specs.Bulk.{written}
use Rattle.store.proofs.bulk.write_all.Given as goal

abbrev pub invariant-loop-byte : goal.invariant-loop-byte
invariant-loop-byte g l =
    (written (g.S.Store.bytes l.store) l.to (drop l.byte-index l.bytes) ≡ written (g.S.Store.bytes l.initial.store) l.address l.bytes)
    × (g.S.Store.footing l.store ≡ g.S.Store.footing l.initial.store)
