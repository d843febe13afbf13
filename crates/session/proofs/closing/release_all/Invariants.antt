use Rattle.std.proofs.Common.{◌≡◌, ◌<◌, ℕ, slice_index_or, true}
use Rattle.session.specs.Serve.{all_fit, closed_to}
use Rattle.session.specs.declared.slot.Slot.TheVariants.{Empty}
use Rattle.session.proofs.closing.release_all.Given as goal

abbrev pub invariant-loop-place : goal.invariant-loop-place
invariant-loop-place g l =
    (all_fit l.hall.bays l.slots ≡ true)
    × ((i : ℕ) → i < l.place → slice_index_or l.slots i Empty ≡ Empty)
    × (l.hall ≡ closed_to l.place l.initial.hall)
