use Rattle.std.proofs.Common.{◌-◌}
use Rattle.assemble.proofs.print.print_listing.Given as goal

abbrev pub decreases-halfwords : goal.decreases-halfwords
decreases-halfwords l = 65537 - l.reader.end
