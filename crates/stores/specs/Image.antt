-- What an image store shows, and what a write makes of its working memory. A page has 1,024 bytes.
use Rattle.std.specs.Prelude.{◌≡◌, ℕ, ◌+◌, ◌*◌, ◌/◌, Bool, true, false, List, ◌∷◌, drop, length, replicate, take, slice_index, slice_index_or, slice_set, if◌then◌else◌}
use Rattle.std.specs.List.{splice}
use Rattle.stores.specs.FromFn.{from_fn, length-from_fn}
use Rattle.stores.specs.declared.image.Image.{Image}

-- the image, the working memory, and which pages are copied there
pub record Layers : Type 0 where
  pub image : List ℕ
  pub work : List ℕ
  pub copied : List Bool

abbrev pub layers_of : Image → Layers
layers_of s = record { image = s.image.now; work = s.work.now; copied = s.copied }

-- what no write alters: the image, and which memory was lent to write in
abbrev pub footing_of : Image → List ℕ
footing_of s = s.work.ghost_name ∷ s.image.now

-- no page is copied yet
abbrev pub new_layers : List ℕ → List ℕ → Layers
new_layers image work = record { image = image; work = work; copied = replicate 64 false }

-- a copied page is seen in the working memory, and any other in the image
abbrev pub byte_at : Layers → ℕ → ℕ
byte_at s at =
    if slice_index_or s.copied (at / 1024) false then slice_index s.work at else slice_index s.image at

abbrev pub bytes_of : Layers → List ℕ
bytes_of s = from_fn 65536 (byte_at s)

pub length-bytes_of : (s : Layers) → length (bytes_of s) ≡ 65536
length-bytes_of s = length-from_fn 65536 (byte_at s)

-- the memory `to`, with a page as `from` has it
abbrev pub with_page : List ℕ → List ℕ → ℕ → List ℕ
with_page to from page =
    splice to (page * 1024) (page * 1024 + 1024) (take 1024 (drop (page * 1024) from))

-- the page is copied, unless it is already
abbrev pub with_own_page : Layers → ℕ → Layers
with_own_page s page = record {
  image = s.image;
  work = if slice_index_or s.copied page false then s.work else with_page s.work s.image page;
  copied = slice_set s.copied page true;
}

-- a byte is written, once its page is copied
abbrev pub with_byte : Layers → ℕ → ℕ → Layers
with_byte s at byte = record {
  image = s.image;
  work = slice_set (with_own_page s (at / 1024)).work at byte;
  copied = (with_own_page s (at / 1024)).copied;
}
