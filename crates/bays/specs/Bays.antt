-- The bays by their numbers, and what calls make of one.
use Rattle.std.specs.Prelude.{ℕ, zero, suc, ◌-◌, Bool, false, ◌&&◌, List, [], ◌∷◌, replicate, Some, None, Ok, Err, Option, Result, is_some, nat_le, slice_index_or, slice_set, if◌then◌else◌}
use Rattle.std.specs.List.{list_any}
use Rattle.access.specs.Access.{rights_of}
use Rattle.access.specs.declared.rights.Grant.{Grant}
use Rattle.access.specs.declared.stop.Stop.{Stop}
use Rattle.machine.specs.declared.registers.Registers.{Registers}
use Rattle.bays.specs.Grants.{clashes_any, excludes, vacant}
use Rattle.bays.specs.Stages.{at_stage}
use Rattle.bays.specs.declared.bay.Bay.{Bay}
use Rattle.bays.specs.declared.refusal.Refusal.{Refusal}
use Rattle.bays.specs.declared.refusal.Refusal.TheVariants.{OtherStage}
use Rattle.bays.specs.declared.stage.Stage.{Stage}
use Rattle.bays.specs.declared.stage.Stage.TheVariants.{Preparing}

abbrev pub zeros : Registers
zeros = record { a = 0; b = 0; x = 0; y = 0; z = 0; s = 0; l = 0; fm = false; n = false; zr = false; of = false; ca = false }

abbrev pub free : Bay
free = record { stage = None; rights = rights_of (replicate 6 None); registers = zeros; stop = None }

-- the ranges that count among a bay's six, and in clashes
abbrev pub ranges : Bay → List (Option Grant)
ranges b = b.rights.grants

abbrev pub with_stage : Bay → Stage → Bay
with_stage b s = record b { stage = Some s }

-- a free bay begins its preparation
abbrev pub opened : Bay
opened = with_stage free Preparing

-- a grant at a place, of the six that there are
abbrev pub with_grant_at : Bay → ℕ → Grant → Bay
with_grant_at b place g = record b { rights = rights_of (slice_set (ranges b) place (Some g)) }

-- a grant at the first vacant place
abbrev pub with_grant : Bay → Grant → Bay
with_grant b g = with_grant_at b (vacant (ranges b)) g

abbrev pub with_program : Bay → Registers → Option Stop → Bay
with_program b r t = record b { registers = r; stop = t }

-- bays are numbered from 1
unfoldable pub bay_at : List Bay → ℕ → Bay
bay_at l zero = free
bay_at l (suc k) = slice_index_or l k free

-- the place of a number, if a bay has it
abbrev pub place_of : ℕ → Option ℕ
place_of n = if nat_le 1 n && nat_le n 8 then Some (n - 1) else None

-- the bay of a number, if a bay has it
abbrev pub numbered : List Bay → ℕ → Option Bay
numbered l n = if is_some (place_of n) then Some (bay_at l n) else None

-- the bay, at the stage that a call wants
abbrev pub entered : Stage → List Bay → ℕ → Result Bay Refusal
entered s l n = if at_stage s (bay_at l n).stage then Ok (bay_at l n) else Err OtherStage

unfoldable pub put_bay : List Bay → ℕ → Bay → List Bay
put_bay l zero b = l
put_bay l (suc k) b = slice_set l k b

-- a grant clashes with a range of any bay
abbrev pub clash : Grant → List Bay → Bool
clash g l = list_any (λ b. clashes_any g (ranges b)) l

-- each byte zero if an exclusive grant has it, else as it was; the first is at an address
abbrev pub wiped : List (Option Grant) → ℕ → List ℕ → List ℕ
wiped gs at [] = []
wiped gs at (b ∷ bs) = (if excludes gs at then 0 else b) ∷ wiped gs (suc at) bs
