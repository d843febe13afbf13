-- What a text comes to, by the line that comes next.
use Rattle.std.proofs.Common.{◌≡◌, ℕ, suc, ◌+◌, false, List, [], ◌∷◌, length, Some, None, Ok, Err, Option, Result, refl, sym, ap, ◌∙◌, subst, arith}
use Rattle.std.proofs.lemmas.Bool.{cond_both, ne_eqb}
use Rattle.text.specs.declared.fault.AtLine.{AtLine}
use Rattle.text.specs.Search.{Bytes, cut_at, empty, parts}
use Rattle.text.specs.Lines.{Rest, Next, a_line, unended, the_end, next, next_by_cut}
use Rattle.text.specs.Faults.{at_line}
use Rattle.text.specs.Results.{◌>>=◌}
use Rattle.text.specs.LineRule.{LineRule, parts_read, rest_read}
use Rattle.text.specs.TakeLine.{outcome}
use Rattle.text.proofs.Parts.{by_cut, parts-cut}

module _ {S R : Type 0} (r : LineRule S R) where
  -- what comes next, and then the rest
  abbrev pub read_on : S → Next × Rest → R
  read_on s (a_line n l, rest) = r.line n s l (λ s'. rest_read r s' rest)
  read_on s (unended n, rest) = r.unended n
  read_on s (the_end, rest) = r.end rest.line s

  by_parts : (s : S) (n : ℕ) (t : Bytes) (o : Option (Bytes × Bytes)) → empty t ≡ false → parts_read r n s (by_cut 10 t o) ≡ read_on s (next_by_cut (record { text = t; line = n }) o)
  by_parts s n t None h = simp h
  by_parts s n t (Some p) h =
      let P : List Bytes → Type 0 = λ ps. parts_read r n s (p.0 ∷ ps) ≡ r.line n s p.0 (λ s'. parts_read r (n + 1) s' ps) in
      subst P (sym (parts-cut 10 p.1)) (elim (cut_at 10 p.1) as (λ o. P (by_cut 10 p.1 o)) [ None ↦ refl | Some q ↦ refl ])

  by_text : (s : S) (n : ℕ) (t : Bytes) → rest_read r s (record { text = t; line = n }) ≡ read_on s (next (record { text = t; line = n }))
  by_text s n [] = refl
  by_text s n (x ∷ xs) =
      let e : empty (x ∷ xs) ≡ false = ne_eqb (suc (length xs)) 0 (λ h. omega arith) in
      ap (parts_read r n s) (parts-cut 10 (x ∷ xs)) ∙ by_parts s n (x ∷ xs) (cut_at 10 (x ∷ xs)) e ∙ simp e

  pub rest_read-next : (s : S) (rest rest' : Rest) (o : Next) → (o, rest') ≡ next rest → rest_read r s rest ≡ read_on s (o, rest')
  rest_read-next s rest rest' o h = by_text s rest.line rest.text ∙ ap (read_on s) (sym h)

-- a line was taken, or turned away
pub then-taken : {S F R : Type 0} (n : ℕ) (q : Result (Unit {0}) F) (u : Unit {0}) (s : S) (r : Result S F) (rest : S → Result R (AtLine F)) → outcome q s ≡ r → Ok u ≡ at_line n q → (at_line n r >>= rest) ≡ rest s
then-taken n (Ok v) u s r rest h e = ap (λ o. at_line n o >>= rest) (sym h)
then-taken n (Err f) u s r rest h e = let z : ◌≡◌ {A = ℕ} 0 1 = cc in absurd (omega arith)

pub then-turned_away : {S F R : Type 0} (n : ℕ) (q : Result (Unit {0}) F) (f : AtLine F) (s : S) (r : Result S F) (rest : S → Result R (AtLine F)) → outcome q s ≡ r → Err f ≡ at_line n q → (at_line n r >>= rest) ≡ Err f
then-turned_away n (Ok v) f s r rest h e = let z : ◌≡◌ {A = ℕ} 0 1 = cc in absurd (omega arith)
then-turned_away n (Err g) f s r rest h e = let q : record { fault = g; line = n } ≡ f = cc in ap (λ o. at_line n o >>= rest) (sym h) ∙ ap Err q

-- what holds at the end and at an unended line, and at a line where it holds of the rest, holds of the whole
module _ {S R : Type 0} (r : LineRule S R) (P : S → R → Type 0) (end : (n : ℕ) (s : S) → P s (r.end n s)) (unended : (n : ℕ) (s : S) → P s (r.unended n)) (line : (n : ℕ) (s : S) (l : Bytes) (k : S → R) → ((s' : S) → P s' (k s')) → P s (r.line n s l k)) where
  by_lines : (ls : List Bytes) (n : ℕ) (s : S) → P s (parts_read r n s ls)
  by_lines [] n s = end n s
  by_lines (l ∷ []) n s = cond_both (empty l) (r.end n s) (r.unended n) (P s) (λ _. end n s) (λ _. unended n s)
  by_lines (l ∷ m ∷ ms) n s = line n s l (λ s'. parts_read r (n + 1) s' (m ∷ ms)) (λ s'. by_lines (m ∷ ms) (n + 1) s')

  pub rest_read-holds : (s : S) (rest : Rest) → P s (rest_read r s rest)
  rest_read-holds s rest = by_lines (parts 10 rest.text) rest.line s

-- what comes next has the number of the rest
abbrev pub IsNumbered : Next → ℕ → Type 0
IsNumbered (a_line m l) n = m ≡ n
IsNumbered (unended m) n = m ≡ n
IsNumbered the_end n = Unit {0}

cut_numbered : (r : Rest) (o : Option (Bytes × Bytes)) → IsNumbered (next_by_cut r o).0 r.line
cut_numbered r None = refl
cut_numbered r (Some p) = refl

pub next-number : (r rest : Rest) (o : Next) → (o, rest) ≡ next r → IsNumbered o r.line
next-number r rest o h = subst (λ (p : Next × Rest). IsNumbered p.0 r.line) (sym h) (cond_both (empty r.text) (the_end, r) (next_by_cut r (cut_at 10 r.text)) (λ (p : Next × Rest). IsNumbered p.0 r.line) (λ _. tt) (λ _. cut_numbered r (cut_at 10 r.text)))
