-- Refusals of a hall, as faults of a job.
use Rattle.bays.specs.declared.refusal.Refusal.{Refusal}
use Rattle.bays.specs.declared.refusal.Refusal.TheVariants as refusal
use Rattle.job.specs.declared.fault.Fault.{Fault}
use Rattle.job.specs.declared.fault.Fault.TheVariants.{Reversed, SeventhGrant, Clash}

-- a grant is refused for one of three reasons
abbrev pub grant_fault : Refusal → Fault
grant_fault refusal.Reversed = Reversed
grant_fault refusal.Full = SeventhGrant
grant_fault _ = Clash
