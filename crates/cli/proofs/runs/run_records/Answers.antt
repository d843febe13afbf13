use Rattle.std.proofs.Common.{◌≡◌, ℕ, ◌<◌, List, ◌∷◌, ◌++◌, map, sym, ap, ◌∙◌, subst, Ok, arith, rules, of_calls}
use Rattle.std.specs.List.{FoldsTo, flat_map}
use Rattle.std.specs.Slice.Iter.{chunks_rest, chunks_size}
use Rattle.book.specs.Readings.{reading}
use Rattle.job.specs.declared.run.Ran.{Ran}
use Rattle.job.specs.Ran.{recorded}
use Rattle.turns.specs.Turn.{Run}
use Rattle.cli.proofs.Pieces.{pieces_more}
use Rattle.cli.proofs.Steps.{one_output, one_run, one_call}
use Rattle.cli.specs.Runs.{bytes_left, output_of, pieces, ran_of, runs}
use Rattle.cli.proofs.runs.run_records.Goals as goal

pub loop-counts-preserved : goal.loop-counts-preserved
loop-counts-preserved g c =
    let j = c.args.job.now in
    let reads = reading c.args.book.now.tables in
    let at = c.loop-counts in
    let bs = at.store.held.items in
    let after = c.run_record-ran.new.store.held.items in
    let size = chunks_size at.counts-iterator in
    let again = chunks_size c.next.new.self in
    let counts = c.in-Some.counts.now in
    let left = chunks_rest c.next.new.self in
    let steps = c.in-Some.ensures.steps in
    let some : 0 < size = omega arith in
    let cut : pieces size (chunks_rest at.counts-iterator) ≡ counts ∷ pieces again left = pieces_more size again _ counts left some steps.0 steps.1.0 steps.1.1 steps.1.2 in
    let ran : after ≡ (recorded reads j bs counts).bytes = ap (λ (r : Run). r.bytes) c.run_record-ran.ensures in
    record {
      can_next = search rules;
      is_finite = tt;
      callable = search of_calls;
      size = steps.0 ∙ at.invariant.size;
      results = one_output reads j bs counts after (pieces again left) ran at.results.items _ _ c.in_ok-append_output.ensures
          (ap (λ (rs : List (List ℕ)). at.results.items ++ flat_map (output_of j) (runs reads j bs rs)) (sym cut) ∙ at.invariant.results);
      bytes = one_run reads j bs counts after (pieces again left) ran _ (ap (λ (rs : List (List ℕ)). bytes_left bs (runs reads j bs rs)) (sym cut) ∙ at.invariant.bytes);
      calls = λ last h.
          let Step : g.row.F.Denot → Ran → g.row.F.Denot → Type 0 = λ now ended next. goal.F-step g now ended (Ok tt) next in
          let told = rw c.in_ok-told.was at c.told.ensures in
          at.invariant.calls last (subst (λ (rs : List (List ℕ)). FoldsTo Step at.told (map ran_of (runs reads j bs rs)) last) (sym cut)
          (one_call reads j bs counts after (pieces again left) ran Step at.told c.told.new.self last c.run_record-ran.result (ap ran_of c.run_record-ran.ensures) told h));
    }
