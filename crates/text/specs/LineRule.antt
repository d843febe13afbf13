-- Whole texts, read line by line.
use Rattle.std.specs.Prelude.{ℕ, ◌+◌, List, [], ◌∷◌, if◌then◌else◌}
use Rattle.text.specs.Search.{Bytes, empty, parts}
use Rattle.text.specs.Lines.{Rest}

-- S is what the lines so far say, and R what the whole text comes to: at line n, by the lines after it;
-- past the last line, where n is the number of the line after it; and at line n that lacks its line feed
pub record LineRule (S R : Type 0) : Type 0 where
  pub line : ℕ → S → Bytes → (S → R) → R
  pub end : ℕ → S → R
  pub unended : ℕ → R

-- the parts of a text between its line feeds are its lines; the last, if not empty, lacks its line feed
abbrev pub parts_read : {S R : Type 0} → LineRule S R → ℕ → S → List Bytes → R
parts_read r n s [] = r.end n s
parts_read r n s (l ∷ []) = if empty l then r.end n s else r.unended n
parts_read r n s (l ∷ m ∷ ms) = r.line n s l (λ s'. parts_read r (n + 1) s' (m ∷ ms))

-- what a rest of a text comes to, where the lines before it say s
abbrev pub rest_read : {S R : Type 0} → LineRule S R → S → Rest → R
rest_read r s rest = parts_read r rest.line s (parts 10 rest.text)
