use Rattle.std.proofs.Common.{◌≡◌, ℕ, Bool, true, false, not, eqb, [], ◌∷◌, get_or, set, is_some, Some, None, Ok, Err, Option, Result, refl, ap, subst, arith}
use Rattle.std.proofs.lemmas.Bool.{or_parts, and_from, cond_both}
use Rattle.isa.specs.declared.name.Name.{Name}
use Rattle.isa.specs.Formats.{format_of}
use Rattle.isa.specs.declared.letter.Letter.{Letter}
use Rattle.isa.specs.declared.letter.Letter.TheVariants as letter
use Rattle.isa.specs.Names.{rank, names_of, name_under}
use Rattle.text.specs.Search.{Bytes}
use Rattle.text.specs.Numbers.{number_of}
use Rattle.text.proofs.Digits.{number_within}
use Rattle.book.specs.declared.tables.Tables.{Tables}
use Rattle.std.specs.Option.{ok_or}
use Rattle.text.specs.declared.fault.AtLine.{AtLine}
use Rattle.text.specs.Faults.{at_line}
use Rattle.text.specs.Lines.{whole}
use Rattle.text.specs.Results.{◌>>=◌}
use Rattle.text.specs.TakeLine.{taking, lines_taken}
use Rattle.text.proofs.Reading.{rest_read-holds}
use Rattle.book.specs.declared.fault.Fault.{Fault}
use Rattle.book.specs.declared.fault.Fault.TheVariants as fault
use Rattle.book.specs.Columns.{FieldTexts, line_fields}
use Rattle.book.specs.Rows.{has_name, taken}
use Rattle.book.specs.Patterns.{place_of, length_at, pattern_of, clashes, every}
use Rattle.book.specs.Sound.{between, reserved, legal_a, legal_l, legal_b, legal_pattern, sound}
use Rattle.book.specs.Add.{rows_of, with_rows, unreserved, number_under, add_pattern, add_name, by_letter, by_first, added}
use Rattle.book.specs.Read.{line_rule, finished, no_tables, tables_of}
use Rattle.book.proofs.Facts.{Facts, facts, sound_by}
use Rattle.book.proofs.Entering.{nothing, legal_set, apart_set, parted_set, every_name, named_every, pattern_fits}

-- what is read is sound
abbrev pub Keeps : {E : Type 0} → Result Tables E → Type 0
Keeps (Ok t) = sound t ≡ true
Keeps (Err e) = Unit {0}

or_else : {X : Type 0} (o : Option X) (e : Fault) (f : X → Result Tables Fault) → ((x : X) → o ≡ Some x → Keeps (f x)) → Keeps (ok_or o e >>= f)
or_else None e f h = tt
or_else (Some x) e f h = h x refl

rank_in : (P : Name → Bool) (c : Letter) (s : Bytes) (n : Name) → every_name P (names_of c) ≡ true → name_under c s ≡ Some n → P n ≡ true
unfolding name_under
rank_in P c s n a e = named_every P (names_of c) s n a e

unreserved_was : (o : Option ℕ) (k : ℕ) → unreserved o ≡ Some k → (o ≡ Some k) × (reserved k ≡ false)
unreserved_was None k h = let z : ◌≡◌ {A = ℕ} 0 1 = cc in absurd (omega arith)
unreserved_was (Some j) k h =
    cond_both (reserved j) None (Some j) (λ o. o ≡ Some k → (Some j ≡ Some k) × (reserved k ≡ false))
    (λ _ e. let z : ◌≡◌ {A = ℕ} 0 1 = cc in absurd (omega arith))
    (λ r e. let q : j ≡ k = cc in (ap Some q, subst (λ x. reserved x ≡ false) q r))
    h

-- a number and a name that go together under a letter
abbrev legal : Letter → ℕ → Name → Bool
legal letter.A = legal_a
legal letter.L = legal_l
legal letter.B = legal_b

legal_in : (c : Letter) (s v : Bytes) (n : Name) (k : ℕ) → name_under c s ≡ Some n → number_under c v ≡ Some k → legal c k n ≡ true
legal_in letter.A s v n k e q = and_from _ _ (number_within 16 63 v k q) (rank_in (λ m. between 0 30 (rank m)) letter.A s n refl e)
legal_in letter.L s v n k e q =
    let u = unreserved_was (number_of 16 63 v) k q in
    and_from _ _ (number_within 16 63 v k u.0) (and_from _ _ (ap not u.1) (rank_in (λ m. between 31 43 (rank m)) letter.L s n refl e))
legal_in letter.B s v n k e q = and_from _ _ (number_within 1 3 v k q) (rank_in (λ m. between 44 45 (rank m)) letter.B s n refl e)

sound_with : (c : Letter) (t : Tables) → Facts t → (n : Name) (k : ℕ) → legal c k n ≡ true → taken (rows_of c t) n k ≡ false → sound (with_rows c t (set (rows_of c t) k (Some n))) ≡ true
sound_with letter.A t g n k l h =
    let p = or_parts (is_some (get_or t.a k None)) (has_name n t.a) h in
    sound_by (with_rows letter.A t (set t.a k (Some n))) (record { a_legal = legal_set legal_a t.a k n l g.a_legal; a_apart = apart_set t.a k n g.a_apart (nothing _ p.0) p.1; l_legal = g.l_legal; l_apart = g.l_apart; b_legal = g.b_legal; b_apart = g.b_apart; p_legal = g.p_legal; p_parted = g.p_parted })
sound_with letter.L t g n k l h =
    let p = or_parts (is_some (get_or t.l k None)) (has_name n t.l) h in
    sound_by (with_rows letter.L t (set t.l k (Some n))) (record { a_legal = g.a_legal; a_apart = g.a_apart; l_legal = legal_set legal_l t.l k n l g.l_legal; l_apart = apart_set t.l k n g.l_apart (nothing _ p.0) p.1; b_legal = g.b_legal; b_apart = g.b_apart; p_legal = g.p_legal; p_parted = g.p_parted })
sound_with letter.B t g n k l h =
    let p = or_parts (is_some (get_or t.b k None)) (has_name n t.b) h in
    sound_by (with_rows letter.B t (set t.b k (Some n))) (record { a_legal = g.a_legal; a_apart = g.a_apart; l_legal = g.l_legal; l_apart = g.l_apart; b_legal = legal_set legal_b t.b k n l g.b_legal; b_apart = apart_set t.b k n g.b_apart (nothing _ p.0) p.1; p_legal = g.p_legal; p_parted = g.p_parted })

keeps_name : (c : Letter) (t : Tables) → Facts t → (s v : Bytes) → Keeps (add_name c t s v)
keeps_name c t g s v =
    or_else (name_under c s) fault.Name _ (λ n e. or_else (number_under c v) fault.Value _ (λ k q.
    cond_both (taken (rows_of c t) n k) (Err fault.Repeated) (Ok (with_rows c t (set (rows_of c t) k (Some n)))) Keeps (λ _. tt) (λ h. sound_with c t g n k (legal_in c s v n k e q) h)))

keeps_pattern : (t : Tables) → Facts t → (s v : Bytes) → Keeps (add_pattern t s v)
keeps_pattern t g s v =
    or_else (format_of s) fault.Name _ (λ f _. or_else (place_of f) fault.Name _ (λ i _. or_else (pattern_of (length_at i) v) fault.Value _ (λ x e.
    cond_both (clashes i x 0 t.patterns) (Err fault.Repeated) (Ok (record t { patterns = set t.patterns i (Some x) })) Keeps (λ _. tt) (λ c.
    sound_by (record t { patterns = set t.patterns i (Some x) }) (record { a_legal = g.a_legal; a_apart = g.a_apart; l_legal = g.l_legal; l_apart = g.l_apart; b_legal = g.b_legal; b_apart = g.b_apart; p_legal = legal_set legal_pattern t.patterns i x (pattern_fits i v x e) g.p_legal; p_parted = parted_set t.patterns i x c g.p_parted })))))

keeps_letter : (t : Tables) → sound t ≡ true → (c : ℕ) (s v : Bytes) → Keeps (by_letter c t s v)
keeps_letter t h c s v =
    let g = facts t h in
    cond_both (eqb c 70) (add_pattern t s v) _ Keeps (λ _. keeps_pattern t g s v) (λ _.
    cond_both (eqb c 65) (add_name letter.A t s v) _ Keeps (λ _. keeps_name letter.A t g s v) (λ _.
    cond_both (eqb c 76) (add_name letter.L t s v) _ Keeps (λ _. keeps_name letter.L t g s v) (λ _.
    cond_both (eqb c 66) (add_name letter.B t s v) (Err fault.Name) Keeps (λ _. keeps_name letter.B t g s v) (λ _. tt))))

keeps_first : (t : Tables) → sound t ≡ true → (c s v : Bytes) → Keeps (by_first c t s v)
keeps_first t h [] s v = tt
keeps_first t h (c ∷ []) s v = keeps_letter t h c s v
keeps_first t h (c ∷ d ∷ cs) s v = tt

keeps_line : (t : Tables) → sound t ≡ true → (o : Option FieldTexts) → Keeps (ok_or o fault.Fields >>= added t)
keeps_line t h None = tt
keeps_line t h (Some f) = keeps_first t h f.letter f.name f.value

-- the tables of lines that were read
abbrev Sound : Tables → Result (Tables × ℕ) (AtLine Fault) → Type 0
Sound s (Err e) = Unit {0}
Sound s (Ok p) = sound s ≡ true → sound p.0 ≡ true

on_line : (n : ℕ) (s : Tables) (r : Result Tables Fault) (k : Tables → Result (Tables × ℕ) (AtLine Fault)) → (sound s ≡ true → Keeps r) → ((s' : Tables) → Sound s' (k s')) → Sound s (at_line n r >>= k)
on_line n s (Err f) k h after = tt
on_line n s (Ok t) k h after = by_rest (k t) (after t)
  where
    by_rest : (q : Result (Tables × ℕ) (AtLine Fault)) → Sound t q → Sound s q
    by_rest (Err e) g = tt
    by_rest (Ok p) g = λ x. g (h x)

lines_sound : (s : Bytes) → Sound no_tables (lines_taken line_rule fault.Fields no_tables s)
lines_sound s = rest_read-holds (taking line_rule fault.Fields) Sound (λ n t h. h) (λ n t. tt) (λ n t l k. on_line n t (line_rule t l) k (λ h. keeps_line t h (line_fields l))) no_tables (whole s)

by_lines : (r : Result (Tables × ℕ) (AtLine Fault)) (t : Tables) → Sound no_tables r → Ok t ≡ (r >>= λ p. at_line p.1 (finished p.0)) → sound t ≡ true
by_lines (Err e) t h q = let z : ◌≡◌ {A = ℕ} 0 1 = cc in absurd (omega arith)
by_lines (Ok p) t h q =
    cond_both (every p.0.patterns) (Ok p.0) (Err fault.Missing) (λ (o : Result Tables Fault). Ok t ≡ at_line p.1 o → sound t ≡ true)
    (λ _ e. let z : p.0 ≡ t = cc in subst (λ x. sound x ≡ true) z (h refl))
    (λ _ e. let z : ◌≡◌ {A = ℕ} 0 1 = cc in absurd (omega arith))
    q

pub read_sound : (s : Bytes) (t : Tables) → Ok t ≡ tables_of s → sound t ≡ true
unfolding tables_of
read_sound s t e = by_lines (lines_taken line_rule fault.Fields no_tables s) t (lines_sound s) e
