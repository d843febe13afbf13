-- The fields of a line, by its first tab.
use Rattle.std.proofs.Common.{◌≡◌, [], Some, None, Ok, Err, Option, refl, sym, ap, ◌∙◌}
use Rattle.std.specs.Borrow.{Bor}
use Rattle.text.specs.Search.{Bytes, cut_at, pair}
use Rattle.text.proofs.Parts.{by_cut, parts-cut}
use Rattle.job.specs.declared.fault.Fault.TheVariants as fault
use Rattle.job.specs.Fields.{fields, a_field, ended, fields_in}

-- where something is left, there is a field
pub not_ended : (o : Option (Bor Bytes)) (r : Bor Bytes) → o ≡ Some r → Err fault.Fields ≡ ended (fields_in o)
not_ended o r h =
    let there : (p : Option (Bytes × Bytes)) → ended (by_cut 9 r.now p) ≡ Err fault.Fields = λ p. elim p as (λ v. ended (by_cut 9 r.now v) ≡ Err fault.Fields) [ None ↦ refl | Some q ↦ refl ] in
    sym (ap (λ v. ended (fields_in v)) h ∙ ap ended (parts-cut 9 r.now) ∙ there (cut_at 9 r.now))

by_parts : (o : Option (Bor Bytes)) (r : Bor Bytes) (p : Option (Bor Bytes × Bor Bytes)) → o ≡ Some r → pair p ≡ cut_at 9 r.now → a_field (by_cut 9 r.now (pair p)) ≡ a_field (fields_in o)
by_parts o r p h e = sym (ap (λ v. a_field (fields_in v)) h ∙ ap a_field (parts-cut 9 r.now) ∙ ap (λ v. a_field (by_cut 9 r.now v)) (sym e))

pub last_field : (o : Option (Bor Bytes)) (r : Bor Bytes) (p : Option (Bor Bytes × Bor Bytes)) → o ≡ Some r → pair p ≡ cut_at 9 r.now → p ≡ None → Ok (r.now, []) ≡ a_field (fields_in o)
last_field o r p h e q = sym (ap (λ v. a_field (by_cut 9 r.now (pair v))) q) ∙ by_parts o r p h e

pub first_field : (o : Option (Bor Bytes)) (r : Bor Bytes) (p : Option (Bor Bytes × Bor Bytes)) (q : Bor Bytes × Bor Bytes) → o ≡ Some r → pair p ≡ cut_at 9 r.now → p ≡ Some q → Ok (q.0.now, fields q.1.now) ≡ a_field (fields_in o)
first_field o r p q h e k = sym (ap (λ v. a_field (by_cut 9 r.now (pair v))) k) ∙ by_parts o r p h e
