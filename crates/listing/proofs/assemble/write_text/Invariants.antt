use Rattle.std.proofs.Common.{◌≡◌, ◌-◌, Ok}
use Rattle.listing.specs.Listing.{listing, remaining}
use Rattle.listing.specs.Assembled.{answer_of, bytes_after}
use Rattle.listing.proofs.assemble.write_text.Given as goal

abbrev pub invariant-halfwords : goal.invariant-halfwords
invariant-halfwords g l = (bytes_after (g.S.Store.bytes l.store) (remaining l.book.tables l.reader) ≡ bytes_after (g.S.Store.bytes l.initial.store) (listing l.book.tables l.text)) × (answer_of (remaining l.book.tables l.reader) ≡ Ok tt)

abbrev pub decreases-halfwords : goal.decreases-halfwords
decreases-halfwords g l = 65537 - l.reader.end
