use Rattle.std.proofs.Common.{◌≡◌, ◌*◌, max, List, ◌++◌, map, Ok}
use Rattle.std.specs.List.{FoldsTo, flat_map}
use Rattle.std.specs.Slice.Iter.{chunks_rest, chunks_size}
use Rattle.book.specs.Readings.{reading}
use Rattle.turns.specs.Turn.{Run}
use Rattle.cli.specs.Runs.{pieces, records_of, runs, output_of, ran_of, bytes_left}
use Rattle.cli.proofs.runs.run_records.Given as goal

-- what is there, and what the runs that are left make of it, is the whole
abbrev pub invariant-loop-counts : goal.invariant-loop-counts
invariant-loop-counts g l =
    let left : List Run = runs (reading l.book.tables) l.job l.store.held.items (pieces (chunks_size l.counts-iterator) (chunks_rest l.counts-iterator)) in
    let all : List Run = runs (reading l.book.tables) l.job l.initial.store.held.items (records_of l.job l.records) in
    record {
      can_next : (goal.iterator-loop-counts g).can_next l.counts-iterator;
      is_finite : (goal.iterator-loop-counts g).is_finite l.counts-iterator;
      callable : goal.F-IsAlwaysCallable g l.told;
      size : chunks_size l.counts-iterator ≡ max (2 * l.job.input.halfwords) 1;
      results : l.results.items ++ flat_map (output_of l.job) left ≡ flat_map (output_of l.job) all;
      bytes : bytes_left l.store.held.items left ≡ bytes_left l.initial.store.held.items all;
      calls : (last : _) → FoldsTo (λ now ran next. goal.F-step g now ran (Ok tt) next) l.told (map ran_of left) last
          → FoldsTo (λ now ran next. goal.F-step g now ran (Ok tt) next) l.fn.told (map ran_of all) last;
    }
