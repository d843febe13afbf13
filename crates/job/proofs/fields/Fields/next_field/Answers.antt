use Rattle.std.proofs.Common.{Ok, sym, ap, ◌∙◌}
use Rattle.job.specs.Fields.{fields_in}
use Rattle.job.proofs.Columns.{last_field, first_field}
use Rattle.job.proofs.fields.Fields.next_field.Goals as goal

pub returns-in_default : goal.returns-in_default
returns-in_default c =
    let t = c.in_ok-text.text in
    rw (← c.self.view_is) (ap (λ v. Ok (t.now, fields_in v)) c.take.ensures.after ∙ last_field c.self.inside.rest t c.cut.result (sym c.take.ensures.value ∙ c.in_ok-text.ensures.ok_part) c.cut.ensures c.in_default.is)

pub returns : goal.returns
returns c = rw (← c.self.view_is) (first_field c.self.inside.rest c.in_ok-text.text c.cut.result (c.in-Some.field, c.in-Some.rest) (sym c.take.ensures.value ∙ c.in_ok-text.ensures.ok_part) c.cut.ensures c.in-Some.is)
