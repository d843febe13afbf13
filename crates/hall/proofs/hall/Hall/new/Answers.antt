use Rattle.std.proofs.Common.{rules}
use Rattle.history.proofs.Law.{confinement, exchanges, isolation, order}
use Rattle.history.proofs.Footing.{any_footing, footing_unheard}
use Rattle.hall.proofs.hall.Hall.new.Goals as goal

pub returns : goal.returns
returns g c = record { made = search rules; isolation = isolation; order = order; exchange = exchanges; confinement = confinement; any_footing = any_footing; footing_unheard = footing_unheard }
