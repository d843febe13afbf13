use Rattle.std.proofs.Common.{◌/◌, arith, rules}
use Rattle.stores.proofs.MappedLemmas.{small_of}
use Rattle.stores.proofs.mapped.Mapped.page_at.Goals as goal

pub returns-clause-within : goal.returns-clause-within
returns-clause-within g c =
    let s = small_of c.args.self.now.table c.args.self.now.once (c.args.address / 1024) (omega arith) in
    search rules
