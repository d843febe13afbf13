-- An instruction: a plan that ends in new registers, with at most one item stored, or in a stop.
use Rattle.std.specs.Prelude.{ℕ, Some, None, Ok, Err, Option, Result}
use Rattle.access.specs.Access.{aligned, bind, item_may, Sight, sight_of, Viewed}
use Rattle.access.specs.declared.item.Item.{Item}
use Rattle.access.specs.declared.item.Item.TheVariants as item
use Rattle.access.specs.declared.stop.Cause.{Cause}
use Rattle.access.specs.declared.stop.Place.TheVariants.{Operand}
use Rattle.machine.specs.Plan.{Plan, obey, placed}
use Rattle.machine.specs.Registers.{advanced}
use Rattle.machine.specs.declared.pending.Pending.{Pending}
use Rattle.machine.specs.declared.pending.Pending.TheVariants.{Byte, Halfword, Fullword}
use Rattle.machine.specs.declared.registers.Registers.{Registers}

infixl 10 ◌>>=◌
pub data Act : Type 1 where
  done : Registers → Act
  store : Item → ℕ → ℕ → Registers → Act
  fail : Cause → Act
  ◌>>=◌ : {T : Type 0} → Plan T → (T → Act) → Act

-- what a step does that can be done: the new registers, and what it has yet to write
pub record Effect : Type 0 where
  pub registers : Registers
  pub pending : Option Pending

abbrev pub effect : Registers → Option Pending → Effect
effect r o = record { registers = r; pending = o }

abbrev pub pending : Item → ℕ → ℕ → Pending
pending item.Byte at v = Byte at v
pending item.Halfword at v = Halfword (aligned item.Halfword at) v
pending item.Fullword at v = Fullword (aligned item.Fullword at) v

-- leave to write an item, and what is then to be written
abbrev pub claim : Sight → Item → ℕ → ℕ → Result Pending Cause
claim v i at w = bind (placed Operand (item_may i v.may at)) (λ _. Ok (pending i at w))

abbrev pub perform : Sight → Act → Result Effect Cause
perform v (done r) = Ok (effect r None)
perform v (store i at w r) = bind (claim v i at w) (λ p. Ok (effect r (Some p)))
perform v (fail c) = Err c
perform v (t >>= f) = bind (obey v t) (λ x. perform v (f x))

-- what an instruction answers, and the registers after it
pub record Ending : Type 0 where
  pub answer : Result (Option Pending) Cause
  pub registers : Registers

abbrev pub ending : Result (Option Pending) Cause → Registers → Ending
ending a r = record { answer = a; registers = r }

-- from the registers r; a stop alters nothing
abbrev pub settled : Registers → Result Effect Cause → Ending
settled r (Ok e) = ending (Ok e.pending) e.registers
settled r (Err c) = ending (Err c) r

-- of an instruction at s, which is obeyed with s at the next one
abbrev pub ending_of : (Registers → Act) → Registers → Viewed → Ending
ending_of f r v = settled r (perform (sight_of v) (f (advanced r)))
