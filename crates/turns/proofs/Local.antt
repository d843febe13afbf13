-- A step depends on the bytes that its program may fetch or read, and on no other.
use Rattle.std.proofs.Common.{◌≡◌, ℕ, Bool, true, false, ◌||◌, List, Result, get_or, refl, ap, ◌∙◌}
use mathlib.Core.Path.{fun_ext}
use Rattle.access.specs.Access.{allows, checked, seen}
use Rattle.access.specs.declared.kind.Use.{Use}
use Rattle.access.specs.declared.kind.Use.TheVariants.{Fetch, Read, Write}
use Rattle.access.specs.declared.rights.Rights.{Rights}
use Rattle.access.specs.declared.stop.Denial.{Denial}
use Rattle.turns.specs.Laws.{Agree, Local}
use Rattle.turns.specs.Step.{stepped}

seen_same : (rights : Rights) (u : Use) (bs cs : List ℕ) (a : ℕ) → (allows rights u a ≡ true → get_or bs a 0 ≡ get_or cs a 0) → (b : Bool) → allows rights u a ≡ b → seen rights u bs a ≡ seen rights u cs a
seen_same rights u bs cs a h true e = let g = h e in cc
seen_same rights u bs cs a h false e = cc

either_true : (x y : Bool) → y ≡ true → x || y ≡ true
either_true true y e = refl
either_true false y e = e

pub local : Local
local reads rights bs cs r h =
    let fetched = λ (a : ℕ). seen_same rights Fetch bs cs a (λ t. h a (ap (λ x. x || allows rights Read a) t)) (allows rights Fetch a) refl in
    let looked = λ (a : ℕ). seen_same rights Read bs cs a (λ t. h a (either_true (allows rights Fetch a) (allows rights Read a) t)) (allows rights Read a) refl in
    (λ i. stepped reads r (record { fetch = fun_ext fetched i; look = fun_ext looked i; may = checked rights Write }))
