-- What assembling makes of an empty store.
use Rattle.std.specs.Prelude.{ℕ, List, replicate}
use Rattle.book.specs.declared.tables.Tables.{Tables}
use Rattle.listing.specs.Listing.{listing}
use Rattle.listing.specs.Assembled.{bytes_after}

-- so many bytes, each zero
unfoldable pub zeros : ℕ → List ℕ
zeros n = replicate n 0

-- the bytes of a store with what the listing places, and zero elsewhere
abbrev pub assembled_bytes : Tables → List ℕ → List ℕ
assembled_bytes t text = bytes_after (zeros 65536) (listing t text)
