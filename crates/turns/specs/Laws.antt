-- Laws of steps and turns, in the machine's own words.
use Rattle.std.specs.Prelude.{◌≡◌, ℕ, zero, suc, ◌+◌, ◌-◌, ◌%◌, ◌<◌, Bool, true, false, ◌&&◌, ◌||◌, ◌⊎◌, List, [], ◌∷◌, pos, Some, None, Ok, Err, Option, Result, ◌==◌, nat_lt, slice_index, if◌then◌else◌}
use Rattle.isa.specs.Names.{names_a}
use Rattle.isa.specs.declared.format.Format.TheVariants.{L}
use Rattle.isa.specs.declared.name.Name.{Name}
use Rattle.isa.specs.declared.name.Name.TheVariants.{Mbs, Mhs}
use Rattle.isa.specs.declared.reading.Reading.{Reading}
use Rattle.isa.specs.declared.reading.Reading.TheVariants.{Defined}
use Rattle.word.specs.Bytes as bytes
use Rattle.access.specs.Access.{Sight, aligned, allows, bind, sight}
use Rattle.access.specs.declared.item.Item.{Item}
use Rattle.access.specs.declared.item.Item.TheVariants.{Byte, Halfword, Fullword}
use Rattle.access.specs.declared.kind.Use.TheVariants.{Fetch, Read, Write}
use Rattle.access.specs.declared.rights.Rights.{Rights}
use Rattle.access.specs.declared.stop.Stop.{Stop}
use Rattle.machine.specs.Act.{Act, claim, done, effect, fail, pending, perform, store, ◌>>=◌}
use Rattle.machine.specs.Address.{element, formed, item_of, operand, wrapped}
use Rattle.machine.specs.Instructions.{executed}
use Rattle.machine.specs.Plan.{fetch, obey}
use Rattle.machine.specs.Registers.{advanced}
use Rattle.machine.specs.Strings.{complete, nearer}
use Rattle.machine.specs.declared.mode.Mode.{Mode}
use Rattle.machine.specs.declared.registers.Registers.{Registers}
use Rattle.turns.specs.Step.{into, planned, stepped}
use Rattle.turns.specs.Turn.{Run, run, run_end}

-- a stop alters nothing
abbrev pub Unaltered : Result (Unit {0}) Stop → Registers → Registers → List ℕ → List ℕ → Type 0
Unaltered (Ok u) r r' bs bs' = Unit {0}
Unaltered (Err t) r r' bs bs' = (r' ≡ r) × (bs' ≡ bs)

-- no byte changes but one of those
abbrev pub Only : (ℕ → Bool) → List ℕ → List ℕ → Type 0
Only p bs bs' = (at : ℕ) → p at ≡ false → slice_index bs' at ≡ slice_index bs at

-- the bytes of an item
abbrev pub item_bytes : Item → ℕ → List ℕ
item_bytes Byte at = at ∷ []
item_bytes Halfword at = aligned Halfword at ∷ (aligned Halfword at + 1) % 65536 ∷ []
item_bytes Fullword at = aligned Fullword at ∷ (aligned Fullword at + 1) % 65536 ∷ (aligned Fullword at + 2) % 65536 ∷ ((aligned Fullword at + 2) % 65536 + 1) % 65536 ∷ []

abbrev pub among : ℕ → List ℕ → Bool
among at [] = false
among at (b ∷ bs) = at == b || among at bs

-- the bytes of the operand that an instruction stores; none where it stores none, or stops before
abbrev pub target : Sight → Act → List ℕ
target v (done r) = []
target v (store i at w r) = item_bytes i at
target v (fail c) = []
target v (t >>= f) = elim (obey v t) [ Ok x ↦ target v (f x) | Err c ↦ [] ]

-- under a write grant, and where the next instruction's operand lies
abbrev pub operand_granted : (ℕ → Reading) → Rights → Registers → List ℕ → ℕ → Bool
operand_granted reads rights r bs at = allows rights Write at && among at (target (sight rights bs) (planned reads r))

-- a program may fetch the byte, or read it
abbrev pub readable : Rights → ℕ → Bool
readable rights at = allows rights Fetch at || allows rights Read at

-- two stores agree on what a program may fetch or read
abbrev pub Agree : Rights → List ℕ → List ℕ → Type 0
Agree rights bs cs = (at : ℕ) → readable rights at ≡ true → slice_index bs at ≡ slice_index cs at

-- a step depends on the bytes that its program may fetch or read, and on no other
abbrev pub Local : Type 0
Local = (reads : ℕ → Reading) (rights : Rights) (bs cs : List ℕ) (r : Registers) → Agree rights bs cs → stepped reads r (sight rights bs) ≡ stepped reads r (sight rights cs)

-- of each in a list
abbrev pub Each : {A : Type 0} → (A → Type 0) → List A → Type 0
Each P [] = Unit {0}
Each P (x ∷ xs) = P x × Each P xs

-- an instruction that reads the item at the address that its operand has for that item, and ends in registers by what it read
abbrev pub ReadsItem : Item → (Mode → Registers → Act) → Type 0
ReadsItem i act =
    (t : Mode) (r : Registers) → (after : ℕ → Registers)
    × ((v : Sight) → perform v (act t r) ≡ bind (obey v (operand i t r)) (λ x. Ok (effect (after x) None)))

-- one that stores the item there
abbrev pub StoresItem : Item → (Mode → Registers → Act) → Type 0
StoresItem i act =
    (t : Mode) (r : Registers) → (value : ℕ) × ((after : Registers)
    × ((v : Sight) → perform v (act t r)
    ≡ bind (obey v (formed t i r)) (λ at. bind (claim v i at value) (λ p. Ok (effect after (Some p))))))

-- each name of format A forms its operand's address for the item of that name, and then reads that item or stores one there
abbrev pub OperandsByName : Type 0
OperandsByName = Each (λ n. ReadsItem (item_of n) (executed n) ⊎ StoresItem (item_of n) (executed n)) names_a

-- a run with j steps counted before it
abbrev pub later : ℕ → Run → Run
later j q = run_end q.registers q.bytes (record { steps = j + q.turned.steps; stop = q.turned.stop })

-- a turn, and then another unless the first has met a stop
abbrev pub unless : Option Stop → Run → (Registers → List ℕ → Run) → Run
unless None q next = later q.turned.steps (next q.registers q.bytes)
unless (Some t) q next = q

abbrev pub followed : Run → (Registers → List ℕ → Run) → Run
followed q next = unless q.turned.stop q next

-- a turn of m + n steps is a turn of m and then one of n
abbrev pub Split : Type 0
Split = (reads : ℕ → Reading) (rights : Rights) (m n : ℕ) (r : Registers) (bs : List ℕ) → run reads rights (m + n) 0 r bs ≡ followed (run reads rights m 0 r bs) (run reads rights n 0)

-- how many elements a string has: x without its sign
abbrev pub elements : ℕ → ℕ
elements x = if nat_lt x 32768 then x else 65536 - x

-- the values of x at which n elements are treated
abbrev pub places : ℕ → ℕ → List ℕ
places zero x = []
places (suc n) x = nearer x ∷ places n (nearer x)

-- what an item holds
abbrev pub value : Item → List ℕ → ℕ → ℕ
value Byte bs at = slice_index bs at
value Halfword bs at = bytes.half (slice_index bs (aligned Halfword at)) (slice_index bs ((aligned Halfword at + 1) % 65536))
value Fullword bs at = bytes.full (bytes.half (slice_index bs (aligned Fullword at)) (slice_index bs ((aligned Fullword at + 1) % 65536))) (bytes.half (slice_index bs ((aligned Fullword at + 2) % 65536)) (slice_index bs (((aligned Fullword at + 2) % 65536 + 1) % 65536)))

-- each element of one string put where the other's lies, all as they were in the store old
abbrev pub copied : Item → (ℕ → ℕ) → (ℕ → ℕ) → List ℕ → List ℕ → List ℕ → List ℕ
copied i from to old bs [] = bs
copied i from to old bs (x ∷ xs) = copied i from to old (into bs (pending i (to x) (value i old (from x)))) xs

-- a program may read, or may write, every byte of an item
abbrev pub Readable : Rights → Item → ℕ → Type 0
Readable rights i at = Each (λ b. allows rights Read b ≡ true) (item_bytes i at)

abbrev pub Writable : Rights → Item → ℕ → Type 0
Writable rights i at = Each (λ b. allows rights Write b ≡ true) (item_bytes i at)

-- two items have no byte in common
abbrev pub Apart : Item → ℕ → Item → ℕ → Type 0
Apart i at j at' = Each (λ b. among b (item_bytes i at) ≡ false) (item_bytes j at')

-- a string instruction stands at s, its strings are granted, and what it writes is neither read by it nor the instruction itself
pub record Movable (reads : ℕ → Reading) (rights : Rights) (name : Name) (i : Item) (from to : ℕ → ℕ) (xs : List ℕ) (r : Registers) (bs : List ℕ) : Type 0 where
  pub word : ℕ
  pub fetched : obey (sight rights bs) (fetch r.s) ≡ Ok word
  pub read_as : reads word ≡ Defined name L 0 (pos 0)
  pub readable : Each (λ x. Readable rights i (from x)) xs
  pub writable : Each (λ x. Writable rights i (to x)) xs
  pub apart : Each (λ x. Each (λ x'. Apart i (to x) i (from x')) xs) xs
  pub beside : Each (λ x. Apart i (to x) Halfword r.s) xs

-- where the element x of a string of items lies
abbrev pub element_at : Item → ℕ → ℕ → ℕ
element_at i start x = wrapped (element i start x)

-- as many steps as the string has elements move it whole
abbrev pub Moves : Name → Item → Type 0
Moves name i =
    (reads : ℕ → Reading) (rights : Rights) (r : Registers) (bs : List ℕ) → r.s < 65536 → 0 < r.x → r.x < 65536
    → Movable reads rights name i (element_at i r.z) (element_at i r.y) (places (elements r.x) r.x) r bs
    → run reads rights (elements r.x) 0 r bs
    ≡ run_end (complete (advanced r)) (copied i (element_at i r.z) (element_at i r.y) bs bs (places (elements r.x) r.x))
    (record { steps = elements r.x; stop = None })

abbrev pub MovesBytes : Type 0
MovesBytes = Moves Mbs Byte

abbrev pub MovesHalfwords : Type 0
MovesHalfwords = Moves Mhs Halfword
