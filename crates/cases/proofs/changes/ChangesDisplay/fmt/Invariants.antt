use denote.Text.{Utf8}
use denote.Shadow.{shadow}
use Rattle.cases.proofs.changes.ChangesDisplay.fmt.Given as goal

-- what stands between two bytes is text
abbrev pub invariant-loop-address : goal.invariant-loop-address
invariant-loop-address g l =
    (goal.iterator-loop-address g).can_next l.address-iterator ×
    (goal.iterator-loop-address g).is_finite l.address-iterator ×
    shadow (Utf8 l.between)
