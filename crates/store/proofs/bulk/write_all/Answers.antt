use Rattle.std.proofs.Common.{◌≡◌, ◌∙◌, ℕ, ◌+◌, ◌%◌, List, get_or, drop, set}
use Rattle.std.proofs.lemmas.List.{at_drop_more}
use Rattle.store.specs.Bulk.{written}
use Rattle.store.proofs.bulk.write_all.Goals as goal

pub loop-byte-preserved : goal.loop-byte-preserved
loop-byte-preserved g c =
    let bs : List ℕ = g.S.Store.bytes c.loop-byte.store in
    let vs : List ℕ = c.args.bytes.now in
    let e : written bs c.loop-byte.to (drop c.loop-byte.byte-index vs) ≡ written (set bs c.loop-byte.to (get_or vs c.loop-byte.byte-index 0)) ((c.loop-byte.to + 1) % 65536) (drop (c.loop-byte.byte-index + 1) vs)
    = at_drop_more (written bs c.loop-byte.to) vs c.loop-byte.byte-index 0 c.loop-byte-test.true in
    let w = c.write.ensures.bytes in
    let i = c.loop-byte.invariant.0 in
    (cc, c.write.ensures.footing ∙ c.loop-byte.invariant.1)
