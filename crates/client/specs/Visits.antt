-- What a visit to a new hall is answered.
use Rattle.std.specs.Prelude.{ℕ, nat_le, if◌then◌else◌}
use Rattle.access.specs.declared.rights.Grant.{Grant}
use Rattle.bays.specs.declared.stage.Stage.TheVariants.{Preparing, Sealed}
use Rattle.history.specs.Calls.{Answer, call, grant, open_bay, own, refused, seal, shared, turn}
use Rattle.history.specs.Hall.{Hall, CallEnd, apply}

-- bay 1 with one grant, and the same bay sealed
abbrev pub granted : Grant → Hall → CallEnd
granted g H = apply (call 1 Preparing (shared (grant g))) (apply (call 1 Preparing (shared open_bay)) H).hall

abbrev pub sealed : Grant → Hall → Hall
sealed g H = (apply (call 1 Preparing (shared seal)) (granted g H).hall).hall

-- what the turn is answered, or 4 for a grant whose last address is below its first
abbrev pub visited : Grant → ℕ → Hall → Answer
visited g n H =
    if nat_le g.first g.last then (apply (call 1 Sealed (own (turn n))) (sealed g H)).answer else refused 4
