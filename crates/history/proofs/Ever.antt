-- Grants by the ledger as it stands, at any time of a history.
use Rattle.std.proofs.Common.{ℕ, Bool, ◌||◌, List, [], ◌∷◌, Option}
use Rattle.access.specs.declared.rights.Grant.{Grant}
use Rattle.bays.specs.declared.bay.Bay.{Bay}
use Rattle.bays.specs.declared.stage.Stage.{Stage}
use Rattle.bays.specs.Bays.{bay_at}
use Rattle.bays.specs.Grants.{holds, excludes}
use Rattle.history.specs.Calls.{Call}
use Rattle.history.specs.Hall.{Hall, apply}

abbrev pub grants_at : List Bay → ℕ → List (Option Grant)
grants_at l k = (bay_at l k).rights.grants

abbrev pub stage_at : List Bay → ℕ → Option Stage
stage_at l k = (bay_at l k).stage

-- at some time of a history the grants of w pass the test
abbrev pub ever : (List (Option Grant) → Bool) → ℕ → List Call → Hall → Bool
ever f w [] H = f (grants_at H.bays w)
ever f w (c ∷ h) H = f (grants_at H.bays w) || ever f w h (apply c H).hall

abbrev pub ever_holds : ℕ → ℕ → List Call → Hall → Bool
ever_holds w a h H = ever (λ gs. holds gs a) w h H

abbrev pub ever_excludes : ℕ → ℕ → List Call → Hall → Bool
ever_excludes w a h H = ever (λ gs. excludes gs a) w h H
