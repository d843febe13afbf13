use Rattle.std.proofs.Common.{◌≡◌, ℕ, suc, ◌+◌, ◌-◌, ◌%◌, List, [], ◌∷◌, length, take, append_assoc, arith, length-set}
use Rattle.std.proofs.lemmas.List.{take_more_set}
use Rattle.store.specs.Bulk.{taken}
use Rattle.store.proofs.bulk.read_all.Goals as goal

pub loop-byte-preserved : goal.loop-byte-preserved
loop-byte-preserved g c =
    let bs : List ℕ = g.S.Store.bytes c.args.store.now in
    let n : ℕ = length c.loop-byte.buffer - (c.loop-byte.byte-index + 1) in
    let d : length c.loop-byte.buffer - c.loop-byte.byte-index ≡ suc n = omega arith in
    let i = rw d at c.loop-byte.invariant in
    let v = c.read.ensures in
    let e = take_more_set c.loop-byte.buffer c.loop-byte.byte-index c.read.result (omega arith) in
    let s = length-set c.loop-byte.buffer c.loop-byte.byte-index c.read.result in
    let a = append_assoc (take c.loop-byte.byte-index c.loop-byte.buffer) (c.read.result ∷ []) (taken bs ((c.loop-byte.next + 1) % 65536) n) in
    cc
