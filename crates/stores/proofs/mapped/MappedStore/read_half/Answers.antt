use Rattle.stores.proofs.MappedLemmas.{mapped_read_half}
use Rattle.stores.proofs.mapped.MappedStore.read_half.Goals as goal

pub returns : goal.returns
returns g c = mapped_read_half c.args.self.now.table (g.S.Store.bytes c.args.self.now.below) c.args.address c.place_of.result c.read_half.result c.read_half.ensures c.place_of.ensures c.ranges.address.fits
