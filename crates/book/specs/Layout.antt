use Rattle.std.specs.Prelude.{◌≡◌, ℕ, ◌+◌, ◌*◌, ◌<◌, ◌⊎◌, ℤ, pos, Some, None, slice_index_or}
use Rattle.isa.specs.declared.name.Name.{Name}
use Rattle.isa.specs.declared.name.Name.TheVariants.{Bitl}
use Rattle.isa.specs.declared.format.Format.{Format}
use Rattle.isa.specs.declared.format.Format.TheVariants.{A1, A2, A3, A4, A5, L, B}
use Rattle.word.specs.Fields.{as_signed}
use Rattle.book.specs.declared.tables.Tables.{Tables}
use Rattle.book.specs.Wholes.{word_of, l_d}

-- an A word: the number k of the name, the pattern v of the place, M and D, from left to right;
-- one more in v counts unit, and M and D have ms and ds values
pub record LaysA (t : Tables) (place unit ms ds w : ℕ) (n : Name) (m : ℕ) (d : ℤ) : Type 0 where
  pub k : ℕ
  pub v : ℕ
  pub x : ℕ
  pub name : slice_index_or t.a k None ≡ Some n
  pub pattern : slice_index_or t.patterns place None ≡ Some v
  pub m_fits : m < ms
  pub d_fits : x < ds
  pub d_is : d ≡ pos x
  pub word : w ≡ k * 1024 + v * unit + m * ds + x

-- a B word: the number k of the name, and a signed D of ten bits
pub record LaysB (t : Tables) (w : ℕ) (n : Name) (m : ℕ) (d : ℤ) : Type 0 where
  pub k : ℕ
  pub x : ℕ
  pub name : slice_index_or t.b k None ≡ Some n
  pub m_is : m ≡ 0
  pub d_fits : x < 1024
  pub d_is : d ≡ as_signed 512 x
  pub word : w ≡ k * 1024 + x

-- an L word that the book names: the number k of the name, and a D of eight bits
pub record LaysL (t : Tables) (w : ℕ) (n : Name) (m : ℕ) (d : ℤ) : Type 0 where
  pub k : ℕ
  pub x : ℕ
  pub name : slice_index_or t.l k None ≡ Some n
  pub m_is : m ≡ 0
  pub d_fits : x < 256
  pub d_is : d ≡ l_d n x
  pub word : w ≡ k * 256 + x

-- BITL has the number 22 in every book
pub record LaysBitl (w : ℕ) (n : Name) (m : ℕ) (d : ℤ) : Type 0 where
  pub x : ℕ
  pub name : n ≡ Bitl
  pub m_is : m ≡ 0
  pub d_fits : x < 256
  pub d_is : d ≡ pos x
  pub word : w ≡ 22 * 256 + x

-- a word that is one instruction in every book
pub record LaysWhole (w : ℕ) (n : Name) (m : ℕ) (d : ℤ) : Type 0 where
  pub m_is : m ≡ 0
  pub d_is : d ≡ pos 0
  pub word : word_of n ≡ Some w

-- the word w has this name, format, M and D under the tables
abbrev pub Lays : Tables → ℕ → Name → Format → ℕ → ℤ → Type 0
Lays t w n A1 m d = LaysA t 0 256 1 256 w n m d
Lays t w n A2 m d = LaysA t 1 512 4 128 w n m d
Lays t w n A3 m d = LaysA t 2 64 1 64 w n m d
Lays t w n A4 m d = LaysA t 3 128 4 32 w n m d
Lays t w n A5 m d = LaysA t 4 64 4 16 w n m d
Lays t w n L m d = LaysWhole w n m d ⊎ (LaysBitl w n m d ⊎ LaysL t w n m d)
Lays t w n B m d = LaysB t w n m d
