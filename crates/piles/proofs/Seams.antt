-- A mapped store stands on its table, and then on what lies below.
use Rattle.std.proofs.Common.{◌≡◌, ℕ, List, ◌++◌, length, take, drop, sym, ◌∙◌}
use Rattle.std.proofs.Math.Seq.{drop-append_seam, take-append_seam}

pub same_start : (t u xs ys : List ℕ) → length t ≡ length u → t ++ xs ≡ u ++ ys → t ≡ u
same_start t u xs ys n e = sym (take-append_seam t xs) ∙ (λ i. take (n i) (e i)) ∙ take-append_seam u ys

pub same_rest : (t u xs ys : List ℕ) → length t ≡ length u → t ++ xs ≡ u ++ ys → xs ≡ ys
same_rest t u xs ys n e = sym (drop-append_seam t xs) ∙ (λ i. drop (n i) (e i)) ∙ drop-append_seam u ys
