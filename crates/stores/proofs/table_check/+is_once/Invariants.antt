use Rattle.std.proofs.Common.{length}
use Rattle.stores.proofs.table_check.+is_once.Given as goal

abbrev pub decreases-is_once : goal.decreases-is_once
decreases-is_once l = length l.pages.now
