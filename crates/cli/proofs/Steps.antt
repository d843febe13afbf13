-- A run with one record more.
use Rattle.std.proofs.Common.{◌≡◌, ℕ, List, ◌∷◌, ◌++◌, map, subst, append_assoc}
use Rattle.std.specs.List.{FoldsTo, flat_map}
use Rattle.isa.specs.declared.reading.Reading.{Reading}
use Rattle.job.specs.declared.job.Job.{Job}
use Rattle.job.specs.declared.run.Ran.{Ran}
use Rattle.job.specs.Ran.{recorded}
use Rattle.cli.specs.Runs.{bytes_left, output_in, output_of, ran_of, runs}

module _ (reads : ℕ → Reading) (j : Job) (bs counts after : List ℕ) (rest : List (List ℕ)) (ran : after ≡ (recorded reads j bs counts).bytes) where
  pub one_output : (so_far more whole : List ℕ) → more ≡ so_far ++ output_in j after
      → so_far ++ flat_map (output_of j) (runs reads j bs (counts ∷ rest)) ≡ whole → more ++ flat_map (output_of j) (runs reads j after rest) ≡ whole
  one_output so_far more whole w i = rw (w, append_assoc, ran) i

  pub one_run : (whole : List ℕ) → bytes_left bs (runs reads j bs (counts ∷ rest)) ≡ whole → bytes_left after (runs reads j after rest) ≡ whole
  one_run whole i = rw ran i

  pub one_call : {F : Type 0} (step : F → Ran → F → Type 0) (now next last : F) (ended : Ran) → ended ≡ ran_of (recorded reads j bs counts) → step now ended next
      → FoldsTo step next (map ran_of (runs reads j after rest)) last → FoldsTo step now (map ran_of (runs reads j bs (counts ∷ rest))) last
  one_call step now next last ended e s h =
      (next, subst (λ x. step now x next) e s, subst (λ b. FoldsTo step next (map ran_of (runs reads j b rest)) last) ran h)
