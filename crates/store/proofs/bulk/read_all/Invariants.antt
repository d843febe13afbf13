use Rattle.std.proofs.Common.{◌≡◌, ◌-◌, ◌++◌, length, take}
use Rattle.store.specs.Bulk.{taken}
use Rattle.store.proofs.bulk.read_all.Given as goal

abbrev pub invariant-loop-byte : goal.invariant-loop-byte
invariant-loop-byte g l = take l.byte-index l.buffer ++ taken (g.S.Store.bytes l.store) l.next (length l.buffer - l.byte-index) ≡ taken (g.S.Store.bytes l.store) l.address (length l.buffer)
