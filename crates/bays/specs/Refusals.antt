-- Each refusal's number.
use Rattle.std.specs.Prelude.{ℕ}
use Rattle.bays.specs.declared.refusal.Refusal.{Refusal}
use Rattle.bays.specs.declared.refusal.Refusal.TheVariants.{NoSuchBay, OtherStage, Taken, Reversed, Full, Clash, Ungranted}

abbrev pub number : Refusal → ℕ
number NoSuchBay = 1
number OtherStage = 2
number Taken = 3
number Reversed = 4
number Full = 5
number Clash = 6
number Ungranted = 7
