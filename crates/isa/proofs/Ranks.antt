use Rattle.std.proofs.Common.{◌≡◌}
use denote.Enum.Bare.{tag_one}
use Rattle.isa.specs.declared.name.Name.{Name}
use Rattle.isa.specs.contracts.name.Name.{the_type}
use Rattle.isa.specs.Names.{rank}

-- names of one rank are one name
pub rank_tells : (m n : Name) → rank m ≡ rank n → m ≡ n
rank_tells m n e = tag_one the_type tt m n e
