use Rattle.stores.proofs.ImageLemmas.{copied_pair, uncopied_pair}
use Rattle.stores.specs.Image.{layers_of}
use Rattle.stores.proofs.image.ImageStore.read_half.Goals as goal

pub returns-then-self-page : goal.returns-then-self-page
returns-then-self-page c = copied_pair (layers_of c.args.self.now) c.args.address c.from-at.result c.from-at.ensures c.ranges.address.fits c.if-self-page.true

pub returns-else-self-page : goal.returns-else-self-page
returns-else-self-page c = uncopied_pair (layers_of c.args.self.now) c.args.address c.from-at.result c.from-at.ensures c.ranges.address.fits c.if-self-page.false
