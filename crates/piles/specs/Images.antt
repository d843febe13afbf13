-- Memory that is lent as an image and its working memory.
use Rattle.std.specs.Prelude.{◌≡◌, ℕ, Bool, List, length}
use Rattle.stores.specs.Image.{bytes_of}

-- an image and its working memory are each as large as a store
abbrev pub AreFull : List ℕ → List ℕ → Type 0
AreFull image work = (length image ≡ 65536) × (length work ≡ 65536)

-- what the two show, with these pages copied
abbrev pub shown : List ℕ → List ℕ → List Bool → List ℕ
shown image work copied = bytes_of (record { image = image; work = work; copied = copied })
