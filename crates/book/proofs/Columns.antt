-- The fields of a line, by its tabs.
use Rattle.std.proofs.Common.{◌≡◌, ◌||◌, true, cond, ◌∷◌, Some, None, Option, refl, sym, ap, ◌∙◌, subst, arith}
use Rattle.std.proofs.Math.Bool.{or-false}
use Rattle.std.proofs.lemmas.Bool.{cond-true}
use Rattle.std.specs.Option.{is_some}
use Rattle.text.specs.Search.{Bytes, cut_at, empty}
use Rattle.text.proofs.Parts.{by_cut, parts-cut}
use Rattle.book.specs.Columns.{FieldTexts, three_fields, line_fields}

-- two fields, and what follows the second tab
abbrev pub by_value : Bytes → Bytes → Bytes → Option FieldTexts
by_value a b c = cond (empty a || (empty b || (empty c || is_some (cut_at 9 c)))) None (Some (record { letter = a; name = b; value = c }))

-- a field, and what follows the first tab
abbrev pub by_name : Bytes → Option (Bytes × Bytes) → Option FieldTexts
by_name a None = None
by_name a (Some p) = by_value a p.0 p.1

abbrev pub by_letter : Option (Bytes × Bytes) → Option FieldTexts
by_letter None = None
by_letter (Some p) = by_name p.0 (cut_at 9 p.1)

by_third : (a b c : Bytes) (o : Option (Bytes × Bytes)) → three_fields (a ∷ b ∷ by_cut 9 c o) ≡ cond (empty a || (empty b || (empty c || is_some o))) None (Some (record { letter = a; name = b; value = c }))
by_third a b c None = ap (λ t. cond (empty a || (empty b || t)) None (Some (record { letter = a; name = b; value = c }))) (sym (or-false (empty c)))
by_third a b c (Some p) =
    let e : (empty a || (empty b || (empty c || true))) ≡ true = grind arith in
    subst (λ ps. three_fields (a ∷ b ∷ p.0 ∷ ps) ≡ None) (sym (parts-cut 9 p.1)) (elim (cut_at 9 p.1) as (λ o. three_fields (a ∷ b ∷ p.0 ∷ by_cut 9 p.1 o) ≡ None) [ None ↦ refl | Some q ↦ refl ]) ∙ sym (cond-true _ None _ e)

by_second : (a : Bytes) (o : Option (Bytes × Bytes)) (s : Bytes) → three_fields (a ∷ by_cut 9 s o) ≡ by_name a o
by_second a None s = refl
by_second a (Some p) s = subst (λ ps. three_fields (a ∷ p.0 ∷ ps) ≡ by_value a p.0 p.1) (sym (parts-cut 9 p.1)) (by_third a p.0 p.1 (cut_at 9 p.1))

by_first : (o : Option (Bytes × Bytes)) (s : Bytes) → three_fields (by_cut 9 s o) ≡ by_letter o
by_first None s = refl
by_first (Some p) s = subst (λ ps. three_fields (p.0 ∷ ps) ≡ by_name p.0 (cut_at 9 p.1)) (sym (parts-cut 9 p.1)) (by_second p.0 (cut_at 9 p.1) p.1)

pub by_cuts : (x : Option FieldTexts) (s : Bytes) → x ≡ by_letter (cut_at 9 s) → x ≡ line_fields s
by_cuts x s h = h ∙ sym (ap three_fields (parts-cut 9 s) ∙ by_first (cut_at 9 s) s)
