use Rattle.std.specs.Prelude.{ℕ, Bool, ◌&&◌, List, [], ◌∷◌, ℤ, pos, Some, None, Option, ◌==◌, nat_le, if◌then◌else◌}
use Rattle.isa.specs.declared.name.Name.{Name}
use Rattle.isa.specs.declared.name.Name.TheVariants.{Bz, Bof, Mbs, Cpbs, Trbs, Scbs, Mhs, Rk, Hrk, Sfn, Sim, Sfm}
use Rattle.isa.specs.Names.{rank}
use Rattle.word.specs.Fields.{as_signed}

-- the words that are one instruction each, in every book
abbrev pub whole_words : List (Name × ℕ)
whole_words =
    (Mbs, 0x2700) ∷ (Cpbs, 0x2740) ∷ (Trbs, 0x2780) ∷ (Scbs, 0x27c0) ∷ (Mhs, 0x3700)
    ∷ (Rk, 0x1200) ∷ (Hrk, 0x1201) ∷ (Sfn, 0x1202) ∷ (Sim, 0x1700) ∷ (Sfm, 0x1701) ∷ []

-- the name of a whole word, and the word of a name
abbrev pub whole_in : List (Name × ℕ) → ℕ → Option Name
whole_in [] w = None
whole_in (r ∷ rs) w = if w == r.1 then Some r.0 else whole_in rs w

abbrev pub word_in : List (Name × ℕ) → Name → Option ℕ
word_in [] n = None
word_in (r ∷ rs) n = if rank r.0 == rank n then Some r.1 else word_in rs n

abbrev pub whole_of : ℕ → Option Name
whole_of w = whole_in whole_words w

abbrev pub word_of : Name → Option ℕ
word_of n = word_in whole_words n

-- BZ, BNZ, BN, BNN, BCA and BOF, which stand together among the names
abbrev pub branches : Name → Bool
branches n = nat_le (rank Bz) (rank n) && nat_le (rank n) (rank Bof)

-- what a D of eight bits means, which the branches have signed
abbrev pub l_d : Name → ℕ → ℤ
l_d n d = if branches n then as_signed 128 d else pos d
