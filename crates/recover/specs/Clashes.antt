-- Which of some jobs has a bay, and which a grant clashes with.
use Rattle.std.specs.Prelude.{ℕ, Bool, List, Option, ◌==◌}
use Rattle.std.specs.List.{find}
use Rattle.access.specs.declared.rights.Grant.{Grant}
use Rattle.bays.specs.Grants.{clashes_any}
use Rattle.recover.specs.declared.institute.Institute.{Institute}

-- its job's bay has that number
abbrev pub has_bay : ℕ → Institute → Bool
has_bay n i = i.job.number == n

-- the first of them
abbrev pub first_of_bay : ℕ → List Institute → Option Institute
first_of_bay n is = find (has_bay n) is

-- with a grant of its job
abbrev pub clashes_with : Grant → Institute → Bool
clashes_with g i = clashes_any g i.job.rights.grants

-- the first of them
abbrev pub first_clash : Grant → List Institute → Option Institute
first_clash g is = find (clashes_with g) is
