use Rattle.std.proofs.Common.{◌≡◌, ◌≤◌, length}
use Rattle.listing.specs.Listing.{remaining}
use Rattle.listing.proofs.listing.Listing.advance.Given as goal

abbrev pub invariant-lines : goal.invariant-lines
invariant-lines l = (remaining l.book.tables l.self ≡ remaining l.book.tables l.initial.self) × (l.initial.self.end ≤ l.self.end)

abbrev pub decreases-lines : goal.decreases-lines
decreases-lines l = length l.self.lines.text
