use Rattle.std.proofs.Common.{◌≡◌, ℕ, suc, ◌+◌, ◌-◌, ◌%◌, [], ◌∷◌, length, take, append_assoc, arith, length-set}
use Rattle.std.proofs.lemmas.List.{take_more_set}
use Rattle.book.specs.Readings.{readings_from}
use Rattle.book.proofs.readings.fill.Goals as goal

pub loop-reading-preserved : goal.loop-reading-preserved
unfolding readings_from
loop-reading-preserved c =
    let n : ℕ = length c.loop-reading.readings - (c.loop-reading.reading-index + 1) in
    let d : length c.loop-reading.readings - c.loop-reading.reading-index ≡ suc n = omega arith in
    let i = rw d at c.loop-reading.invariant in
    let v = c.read_word.ensures in
    let e = take_more_set c.loop-reading.readings c.loop-reading.reading-index c.read_word.result (omega arith) in
    let s = length-set c.loop-reading.readings c.loop-reading.reading-index c.read_word.result in
    let a = append_assoc (take c.loop-reading.reading-index c.loop-reading.readings) (c.read_word.result ∷ []) (readings_from c.args.tables.now ((c.loop-reading.word + 1) % 65536) n) in
    cc
