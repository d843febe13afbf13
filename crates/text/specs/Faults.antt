-- Faults of a text, with their lines.
use Rattle.std.specs.Prelude.{ℕ, List, ◌++◌, Ok, Err, codes, decimal, Result}
use Rattle.text.specs.declared.fault.AtLine.{AtLine}

-- a fault is one of line n
abbrev pub at_line : {X F : Type 0} → ℕ → Result X F → Result X (AtLine F)
at_line n (Ok x) = Ok x
at_line n (Err f) = Err (record { fault = f; line = n })

-- how what is said of line n is written
abbrev pub written_at : ℕ → List ℕ → List ℕ
written_at n said = codes "line " ++ (decimal n ++ (codes ": " ++ said))
