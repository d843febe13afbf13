use Rattle.job.proofs.Columns.{not_ended}
use Rattle.job.proofs.fields.Fields.end.Goals as goal

pub returns-in-Some : goal.returns-in-Some
returns-in-Some c = rw (← c.self.view_is) (not_ended c.self.inside.rest c.in-Some.field-0 c.in-Some.is)
