use Rattle.std.proofs.Common.{ap, ◌∙◌}
use Rattle.stores.proofs.ImageLemmas.{bytes_of-with_byte, written_layers}
use Rattle.stores.specs.Image.{Layers, bytes_of, layers_of}
use Rattle.stores.proofs.image.ImageStore.write.Goals as goal

pub returns-clause-bytes : goal.returns-clause-bytes
returns-clause-bytes c =
    let s : Layers = layers_of c.args.self.now in
    ap bytes_of (written_layers s (layers_of c.own.new.self) _ c.args.address c.from.result c.args.byte c.own.ensures.layers c.put.ensures c.from.ensures)
    ∙ bytes_of-with_byte s c.args.address c.args.byte c.args.self.now.read_only c.args.self.now.full c.args.self.now.paged c.ranges.address.fits
