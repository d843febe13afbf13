use Rattle.listing.proofs.Laying.{laid}
use Rattle.listing.proofs.assemble.assemble_into.Goals as goal

pub returns-clause-laid : goal.returns-clause-laid
returns-clause-laid g c = laid c.args.book.now.tables c.args.text.now (g.S.Store.bytes c.args.store.now) _ (g.met.S.Store.full c.args.store.now) c.write_text.ensures
