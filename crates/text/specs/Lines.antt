-- A text that is read line by line.
use Rattle.std.specs.Prelude.{ℕ, ◌+◌, Some, None, Ok, Err, Option, Result, if◌then◌else◌}
use Rattle.text.specs.declared.line.Line.{Line}
use Rattle.text.specs.declared.line.Unended.{Unended}
use Rattle.text.specs.Search.{Bytes, cut_at, empty}

-- what is left of a text, and the number of the line that begins there
pub record Rest : Type 0 where
  pub text : Bytes
  pub line : ℕ

abbrev pub whole : Bytes → Rest
whole s = record { text = s; line = 1 }

-- what comes next: a line, with its number, one that lacks its line feed, or none
pub data Next : Type 0 where
  a_line : ℕ → Bytes → Next
  unended : ℕ → Next
  the_end : Next

abbrev pub next_by_cut : Rest → Option (Bytes × Bytes) → Next × Rest
next_by_cut r None = (unended r.line, r)
next_by_cut r (Some p) = (a_line r.line p.0, record { text = p.1; line = r.line + 1 })

-- what comes next, and what is left after it
abbrev pub next : Rest → Next × Rest
next r = if empty r.text then (the_end, r) else next_by_cut r (cut_at 10 r.text)

abbrev pub shown : Result (Option Line) Unended → Next
shown (Ok (Some l)) = a_line l.number l.text.now
shown (Ok None) = the_end
shown (Err e) = unended e.line
