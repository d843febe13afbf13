use Rattle.std.proofs.Common.{◌≡◌, ◌-◌, ◌++◌, length, take}
use Rattle.book.specs.Readings.{readings_from}
use Rattle.book.proofs.readings.fill.Given as goal

abbrev pub invariant-loop-reading : goal.invariant-loop-reading
invariant-loop-reading l = take l.reading-index l.readings ++ readings_from l.tables l.word (length l.readings - l.reading-index) ≡ readings_from l.tables 0 (length l.readings)
