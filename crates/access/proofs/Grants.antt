-- The bytes one by one.
use Rattle.std.proofs.Common.{◌≡◌, ℕ, zero, suc, ◌+◌, ◌&&◌, refl, ap}
use Rattle.std.specs.List.{list_all, range_with_len}
use Rattle.access.specs.Access.{allows, allows_all}
use Rattle.access.specs.declared.rights.Rights.{Rights}
use Rattle.access.specs.declared.kind.Use.{Use}

pub all_allowed : (rights : Rights) (u : Use) (at n : ℕ) → list_all (allows rights u) (range_with_len at n) ≡ allows_all rights u at n
all_allowed rights u at zero = refl
all_allowed rights u at (suc n) = ap (λ b. allows rights u at && b) (all_allowed rights u (at + 1) n)
