-- The name of a file, by its bytes.
use Rattle.std.proofs.Common.{◌≡◌, true, false, List, Ok, Err, Result, sym, ap, ◌∙◌, ⊎_elim}
use Rattle.std.specs.Str.{IsUtf8, is_utf8}
use Rattle.std.proofs.lemmas.Bool.{cases_Bool}
use Rattle.std.proofs.lemmas.Str.{IsUtf8-from_is_utf8, is_utf8-from_IsUtf8}
use Rattle.text.specs.Search.{Bytes, empty}
use Rattle.text.specs.Results.{◌>>=◌}
use Rattle.job.specs.declared.fault.Fault.{Fault}
use Rattle.job.specs.declared.fault.Fault.TheVariants as fault
use Rattle.job.specs.Fields.{answer, a_field, name_of, a_file}

by_name : (fs fs' : List Bytes) (s : Bytes) (r : Result Bytes Fault) → Ok (s, fs') ≡ a_field fs → name_of s ≡ r → answer r fs' ≡ a_file fs
by_name fs fs' s r h e = sym (ap (λ v. v >>= λ p. answer (name_of p.0) p.1) (sym h) ∙ ap (λ v. answer v fs') e)

pub no_text : (fs fs' : List Bytes) (s : Bytes) → Ok (s, fs') ≡ a_field fs → ¬ (IsUtf8 s) → Err fault.Text ≡ a_file fs
no_text fs fs' s h n = by_name fs fs' s (Err fault.Text) h (⊎_elim (λ (e : is_utf8 s ≡ true). absurd (n (IsUtf8-from_is_utf8 s e))) (λ (e : is_utf8 s ≡ false). simp e) (cases_Bool (is_utf8 s)))

pub no_name : (fs fs' : List Bytes) (s : Bytes) → Ok (s, fs') ≡ a_field fs → IsUtf8 s → empty s ≡ true → Err fault.Text ≡ a_file fs
no_name fs fs' s h u e = by_name fs fs' s (Err fault.Text) h (let q = is_utf8-from_IsUtf8 s u in simp (q, e))

pub a_name : (fs fs' : List Bytes) (s : Bytes) → Ok (s, fs') ≡ a_field fs → IsUtf8 s → empty s ≡ false → Ok (s, fs') ≡ a_file fs
a_name fs fs' s h u e = by_name fs fs' s (Ok s) h (let q = is_utf8-from_IsUtf8 s u in simp (q, e))
