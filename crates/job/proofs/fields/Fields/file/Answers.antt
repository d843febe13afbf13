use Rattle.std.proofs.Common.{Ok, sym, ap, ◌∙◌}
use Rattle.job.proofs.Names.{no_text, a_name}
use Rattle.job.proofs.fields.Fields.file.Goals as goal

pub returns-in_default : goal.returns-in_default
returns-in_default c = no_text c.args.self.now c.next_field.new.self c.in_ok-next_field.field-0.now c.in_ok-next_field.ensures c.in_default.ensures.cases.0

pub returns : goal.returns
returns c =
    let e = c.in-Ok.ensures.cases in
    let fs = c.next_field.new.self in
    ap (λ s. Ok (s, fs)) e.0 ∙ a_name c.args.self.now fs c.in_ok-next_field.field-0.now c.in_ok-next_field.ensures e.1 (rw (← e.0) (sym c.is_empty.ensures ∙ c.if-is_empty.false))
