-- Texts whose lines are taken up one after the other, up to the first fault.
use Rattle.std.specs.Prelude.{ℕ, Ok, Err, Result}
use Rattle.text.specs.declared.fault.AtLine.{AtLine}
use Rattle.text.specs.Search.{Bytes}
use Rattle.text.specs.Lines.{whole}
use Rattle.text.specs.Faults.{at_line}
use Rattle.text.specs.Results.{◌>>=◌}
use Rattle.text.specs.LineRule.{LineRule, rest_read}

-- what is said after an answer, or the fault
abbrev pub outcome : {S F : Type 0} → Result (Unit {0}) F → S → Result S F
outcome (Ok u) s = Ok s
outcome (Err f) s = Err f

-- the same, with the number that is the answer
abbrev pub whole_outcome : {S F : Type 0} → Result ℕ F → S → Result (S × ℕ) F
whole_outcome (Ok n) s = Ok (s, n)
whole_outcome (Err f) s = Err f

-- a rule for one line, made one for a text: what its lines say, and the number of the line after the last
abbrev pub taking : {S F : Type 0} → (S → Bytes → Result S F) → F
    → LineRule S (Result (S × ℕ) (AtLine F))
taking rule fault = record {
  line = λ n s l rest. at_line n (rule s l) >>= rest;
  end = λ n s. Ok (s, n);
  unended = λ n. at_line n (Err fault);
}

abbrev pub lines_taken : {S F : Type 0} → (S → Bytes → Result S F) → F → S → Bytes
    → Result (S × ℕ) (AtLine F)
lines_taken rule fault s text = rest_read (taking rule fault) s (whole text)
