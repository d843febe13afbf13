use Rattle.stores.proofs.MappedLemmas.{mapped_write}
use Rattle.stores.proofs.mapped.MappedStore.write.Goals as goal

pub returns-clause-bytes : goal.returns-clause-bytes
returns-clause-bytes g c = mapped_write c.args.self.now.table (g.S.Store.bytes c.args.self.now.below) (g.S.Store.bytes c.write.new.self) c.args.address c.place_of-place.result c.args.byte c.args.self.now.once c.args.self.now.paged (g.met.S.Store.full c.args.self.now.below) c.ranges.address.fits c.place_of-place.ensures c.write.ensures.bytes
