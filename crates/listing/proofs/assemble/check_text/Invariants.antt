use Rattle.std.proofs.Common.{◌≡◌, ◌-◌}
use Rattle.listing.specs.Listing.{listing, remaining}
use Rattle.listing.specs.Assembled.{answer_of}
use Rattle.listing.proofs.assemble.check_text.Given as goal

abbrev pub invariant-halfwords : goal.invariant-halfwords
invariant-halfwords l = answer_of (remaining l.book.tables l.reader) ≡ answer_of (listing l.book.tables l.text)

abbrev pub decreases-halfwords : goal.decreases-halfwords
decreases-halfwords l = 65537 - l.reader.end
