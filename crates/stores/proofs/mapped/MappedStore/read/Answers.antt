use Rattle.stores.proofs.MappedLemmas.{mapped_read}
use Rattle.stores.proofs.mapped.MappedStore.read.Goals as goal

pub returns : goal.returns
returns g c = mapped_read c.args.self.now.table (g.S.Store.bytes c.args.self.now.below) c.args.address c.place_of.result c.read.result c.read.ensures c.place_of.ensures c.ranges.address.fits
