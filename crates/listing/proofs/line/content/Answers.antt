use Rattle.std.proofs.Common.{codes, arith, rules}
use Rattle.std.proofs.lemmas.Slice.Eq.{text_from_reads}
use Rattle.listing.proofs.line.content.Goals as goal

pub returns-in-halfwords : goal.returns-in-halfwords
returns-in-halfwords c = rw (text_from_reads c.args.kind.now (codes "halfwords") (omega arith) (search rules)) c.halfwords.ensures
