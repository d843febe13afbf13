-- The words of a line.
use Rattle.std.specs.Prelude.{Bool, not, List, [], ◌∷◌, Some, None, Option, ◌==◌, filter}
use Rattle.std.specs.Borrow.{Bor}
use Rattle.std.specs.List.{before_first}
use Rattle.text.specs.Search.{Bytes, empty, parts}

-- what stands before the comment, which # begins
abbrev pub uncommented : Bytes → Bytes
uncommented s = before_first (λ x. x == 35) s

abbrev pub is_word : Bytes → Bool
is_word w = not (empty w)

-- the words that spaces part
abbrev pub words : Bytes → List Bytes
words s = filter is_word (parts 32 s)

-- a first word with what follows it, as the words of both
abbrev pub words_of_pair : Option (Bor Bytes × Bor Bytes) → List Bytes
words_of_pair None = []
words_of_pair (Some p) = p.0.now ∷ words p.1.now

abbrev pub only_word : List Bytes → Option Bytes
only_word (a ∷ []) = Some a
only_word _ = None

abbrev pub three_words : List Bytes → Option (Bytes × Bytes × Bytes)
three_words (a ∷ b ∷ c ∷ []) = Some (a, b, c)
three_words _ = None

-- the bytes that borrowed words hold
abbrev pub word_bytes : Option (Bor Bytes) → Option Bytes
word_bytes None = None
word_bytes (Some r) = Some r.now

abbrev pub triple_bytes :
    Option (Bor Bytes × Bor Bytes × Bor Bytes) → Option (Bytes × Bytes × Bytes)
triple_bytes None = None
triple_bytes (Some p) = Some (p.0.now, p.1.now, p.2.now)
