use Rattle.stores.proofs.ImageLemmas.{bytes_of-new}
use Rattle.stores.proofs.image.Image.new.Goals as goal

pub returns-clause-bytes : goal.returns-clause-bytes
returns-clause-bytes c = bytes_of-new c.args.image.now _ c.requires.0
