use Rattle.std.proofs.Common.{◌≡◌, true, ◌&&◌}
use Rattle.std.proofs.lemmas.Bool.{and_parts, and_from}
use Rattle.book.specs.declared.tables.Tables.{Tables}
use Rattle.book.specs.Sound.{legal_a, legal_l, legal_b, legal_pattern, entries, apart, parted, sound}

-- what it says of tables that they are sound, part by part
pub record Facts (t : Tables) : Type 0 where
  pub a_legal : entries legal_a 0 t.a ≡ true
  pub a_apart : apart t.a ≡ true
  pub l_legal : entries legal_l 0 t.l ≡ true
  pub l_apart : apart t.l ≡ true
  pub b_legal : entries legal_b 0 t.b ≡ true
  pub b_apart : apart t.b ≡ true
  pub p_legal : entries legal_pattern 0 t.patterns ≡ true
  pub p_parted : parted 0 t.patterns ≡ true

pub facts : (t : Tables) → sound t ≡ true → Facts t
facts t h =
    let a = and_parts (entries legal_a 0 t.a && apart t.a) _ h in
    let l = and_parts (entries legal_l 0 t.l && apart t.l) _ a.1 in
    let b = and_parts (entries legal_b 0 t.b && apart t.b) _ l.1 in
    let p = and_parts (entries legal_pattern 0 t.patterns) _ b.1 in
    let a' = and_parts (entries legal_a 0 t.a) _ a.0 in
    let l' = and_parts (entries legal_l 0 t.l) _ l.0 in
    let b' = and_parts (entries legal_b 0 t.b) _ b.0 in
    record { a_legal = a'.0; a_apart = a'.1; l_legal = l'.0; l_apart = l'.1; b_legal = b'.0; b_apart = b'.1; p_legal = p.0; p_parted = p.1 }

pub sound_by : (t : Tables) → Facts t → sound t ≡ true
sound_by t f = and_from _ _ (and_from _ _ f.a_legal f.a_apart) (and_from _ _ (and_from _ _ f.l_legal f.l_apart) (and_from _ _ (and_from _ _ f.b_legal f.b_apart) (and_from _ _ f.p_legal f.p_parted)))
