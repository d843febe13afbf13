use Rattle.std.proofs.Common.{◌≡◌, ◌+◌, ◌%◌, ◌++◌, vec_items}
use Rattle.store.specs.Bulk.{taken}
use Rattle.store.proofs.bulk.append_all.Given as goal

abbrev pub invariant-loop : goal.invariant-loop
invariant-loop g l =
    (vec_items l.out ≡ vec_items l.initial.out ++ taken (g.S.Store.bytes l.store) l.address l.counter)
    × (l.from ≡ (l.address + l.counter) % 65536)
