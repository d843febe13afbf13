-- A step as a plan: what it asks, in order, what it makes of each answer, and its one ending.
use Rattle.std.specs.Prelude.{ℕ, Ok, Err, Result}
use Rattle.access.specs.Access.{bind, item_read, Sight}
use Rattle.access.specs.declared.item.Item.{Item}
use Rattle.access.specs.declared.item.Item.TheVariants.{Halfword}
use Rattle.access.specs.declared.stop.Cause.{Cause}
use Rattle.access.specs.declared.stop.Cause.TheVariants.{Denied}
use Rattle.access.specs.declared.stop.Denial.{Denial}
use Rattle.access.specs.declared.stop.Place.{Place}
use Rattle.access.specs.declared.stop.Place.TheVariants.{Fetch}

infixl 10 ◌>>=◌
pub data Plan : Type 0 → Type 1 where
  give : {T : Type 0} → T → Plan T
  halt : {T : Type 0} → Cause → Plan T
  fetch : ℕ → Plan ℕ
  read : Place → Item → ℕ → Plan ℕ
  ◌>>=◌ : {T U : Type 0} → Plan T → (T → Plan U) → Plan U

-- a denial, with the place where it was met
abbrev pub placed : {T : Type 0} → Place → Result T Denial → Result T Cause
placed p (Ok x) = Ok x
placed p (Err e) = Err (Denied p e)

abbrev pub obey : {T : Type 0} → Sight → Plan T → Result T Cause
obey v (give x) = Ok x
obey v (halt c) = Err c
obey v (fetch at) = placed Fetch (item_read Halfword v.fetch at)
obey v (read p i at) = placed p (item_read i v.look at)
obey v (t >>= f) = bind (obey v t) (λ x. obey v (f x))
