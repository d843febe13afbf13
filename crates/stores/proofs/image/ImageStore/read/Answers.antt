use Rattle.stores.proofs.ImageLemmas.{copied_byte, uncopied_byte}
use Rattle.stores.specs.Image.{layers_of}
use Rattle.stores.proofs.image.ImageStore.read.Goals as goal

pub returns-then-self-at : goal.returns-then-self-at
returns-then-self-at c = copied_byte (layers_of c.args.self.now) c.args.address c.from-at.result c.from-at.ensures c.ranges.address.fits c.if-self-at.true

pub returns-else-self-at : goal.returns-else-self-at
returns-else-self-at c = uncopied_byte (layers_of c.args.self.now) c.args.address c.from-at.result c.from-at.ensures c.ranges.address.fits c.if-self-at.false
