-- What an image store shows of its layers.
use Rattle.std.proofs.Common.{◌≡◌, ℕ, ◌+◌, ◌-◌, ◌*◌, ◌/◌, ◌%◌, ◌<◌, ◌≤◌, ◌≢◌, ◌⊎◌, ◌++◌, Bool, true, false, cond, List, [], ◌∷◌, length, take, drop, get_or, set, sym, refl, ap, ◌∙◌, inl, inr, arith, length-append, length-drop}
use Rattle.std.proofs.Math.ListN.{get_or-append}
use Rattle.std.proofs.Math.Seq.{get_or-append_right}
use Rattle.std.proofs.lemmas.Bool.{cases_lt}
use Rattle.std.proofs.lemmas.List.{get_or-drop, get_or-replicate, get_or-set_other, get_or-set_same, get_or-take, length-take-le}
use Rattle.std.proofs.lemmas.Grind.{same_number_lists}
use Rattle.std.specs.List.{splice}
use Rattle.store.specs.Store.{pair_at}
use Rattle.stores.proofs.FromFnLemmas.{equal_or_not, get_or-from_fn, same-from_fn, set-from_fn}
use Rattle.stores.specs.FromFn.{length-from_fn}
use Rattle.stores.specs.Image.{Layers, byte_at, bytes_of, new_layers, with_byte, with_own_page, with_page}

-- a list between i and j replaced by as many items
module _ (xs ys : List ℕ) (i j : ℕ) (within : j ≤ length xs) (many : i + length ys ≡ j) where
  start : length (take i xs) ≡ i
  start = length-take-le i xs (omega arith)

  before : (at : ℕ) → at < i → get_or (splice xs i j ys) at 0 ≡ get_or xs at 0
  before at h = get_or-append (take i xs) (ys ++ drop j xs) 0 at (let z = start in omega arith) ∙ get_or-take i xs at 0 h

  after : (at : ℕ) → i ≤ at → get_or (splice xs i j ys) at 0 ≡ get_or (ys ++ drop j xs) (at - i) 0
  after at h = get_or-append_right (take i xs) (ys ++ drop j xs) at 0 (let z = start in omega arith) ∙ ap (λ (n : ℕ). get_or (ys ++ drop j xs) (at - n) 0) start

  get_or-splice : (at : ℕ) → i ≤ at → at < j → get_or (splice xs i j ys) at 0 ≡ get_or ys (at - i) 0
  get_or-splice at h l = after at h ∙ get_or-append ys (drop j xs) 0 (at - i) (omega arith)

  get_or-splice_other : (at : ℕ) → (at < i) ⊎ (j ≤ at) → get_or (splice xs i j ys) at 0 ≡ get_or xs at 0
  get_or-splice_other at (inl h) = before at h
  get_or-splice_other at (inr h) =
      after at (omega arith) ∙ get_or-append_right ys (drop j xs) (at - i) 0 (omega arith) ∙ get_or-drop j xs (at - i - length ys) 0
      ∙ ap (λ (n : ℕ). get_or xs n 0) (omega arith)

  length-splice : length (splice xs i j ys) ≡ length xs
  length-splice = length-append (take i xs) (ys ++ drop j xs) ∙ (let z = start in let a = length-append ys (drop j xs) in let d = length-drop j xs in omega arith)

-- what a copied page has, and what stays
module _ (to from : List ℕ) (page : ℕ) (t : length to ≡ 65536) (f : length from ≡ 65536) (p : page < 64) where
  many : page * 1024 + length (take 1024 (drop (page * 1024) from)) ≡ page * 1024 + 1024
  many = ap (λ (n : ℕ). page * 1024 + n) (length-take-le 1024 (drop (page * 1024) from) (let d = length-drop (page * 1024) from in omega arith))

  get_or-with_page : (at : ℕ) → at / 1024 ≡ page → get_or (with_page to from page) at 0 ≡ get_or from at 0
  get_or-with_page at e =
      get_or-splice to (take 1024 (drop (page * 1024) from)) (page * 1024) (page * 1024 + 1024) (omega arith) many at (omega arith) (omega arith)
      ∙ get_or-take 1024 (drop (page * 1024) from) (at - page * 1024) 0 (omega arith) ∙ get_or-drop (page * 1024) from (at - page * 1024) 0
      ∙ ap (λ (n : ℕ). get_or from n 0) (omega arith)

  get_or-with_page_other : (at : ℕ) → at / 1024 ≢ page → get_or (with_page to from page) at 0 ≡ get_or to at 0
  get_or-with_page_other at n =
      get_or-splice_other to (take 1024 (drop (page * 1024) from)) (page * 1024) (page * 1024 + 1024) (omega arith) many at (side (cases_lt at (page * 1024)))
    where
      side : (at < page * 1024) ⊎ (page * 1024 ≤ at) → (at < page * 1024) ⊎ (page * 1024 + 1024 ≤ at)
      side (inl h) = inl h
      side (inr h) = inr (omega arith)

  length-with_page : length (with_page to from page) ≡ 65536
  length-with_page = length-splice to (take 1024 (drop (page * 1024) from)) (page * 1024) (page * 1024 + 1024) (omega arith) many ∙ t

-- a page that is copied shows the same bytes
pub bytes_of-own_page : (s : Layers) (page : ℕ) → length s.image ≡ 65536 → length s.work ≡ 65536 → length s.copied ≡ 64 → page < 64 → bytes_of (with_own_page s page) ≡ bytes_of s
bytes_of-own_page s page im wo co low = same-from_fn 65536 (byte_at (with_own_page s page)) (byte_at s) same
  where
    by_copied : (a : ℕ) (b : Bool) → b ≡ get_or s.copied page false → a / 1024 ≡ page → get_or (cond b s.work (with_page s.work s.image page)) a 0 ≡ cond b (get_or s.work a 0) (get_or s.image a 0)
    by_copied a true e p = refl
    by_copied a false e p = get_or-with_page s.work s.image page wo im low a p

    elsewhere : (a : ℕ) (b : Bool) → a / 1024 ≢ page → get_or (cond b s.work (with_page s.work s.image page)) a 0 ≡ get_or s.work a 0
    elsewhere a true n = refl
    elsewhere a false n = get_or-with_page_other s.work s.image page wo im low a n

    same : (a : ℕ) → a < 65536 → byte_at (with_own_page s page) a ≡ byte_at s a
    same a la = elim (equal_or_not (a / 1024) page) [
      | inl p ↦ ap (λ (b : Bool). cond b (get_or (with_own_page s page).work a 0) (get_or s.image a 0)) (ap (λ (i : ℕ). get_or (set s.copied page true) i false) p ∙ get_or-set_same s.copied page true false (omega arith))
          ∙ by_copied a (get_or s.copied page false) refl p
          ∙ ap (λ (i : ℕ). cond (get_or s.copied i false) (get_or s.work a 0) (get_or s.image a 0)) (sym p)
      | inr n ↦ (λ i. cond (get_or-set_other s.copied page (a / 1024) true false n i) (elsewhere a (get_or s.copied page false) n i) (get_or s.image a 0))
    ]

-- a write into a copied page
bytes_of-set : (s : Layers) (at v : ℕ) → length s.work ≡ 65536 → at < 65536 → get_or s.copied (at / 1024) false ≡ true → bytes_of (record { image = s.image; work = set s.work at v; copied = s.copied }) ≡ set (bytes_of s) at v
bytes_of-set s at v wo low e =
    set-from_fn 65536 (byte_at s) (byte_at (record { image = s.image; work = set s.work at v; copied = s.copied })) at v low
    (ap (λ (b : Bool). cond b (get_or (set s.work at v) at 0) (get_or s.image at 0)) e ∙ get_or-set_same s.work at v 0 (omega arith))
    (λ k l d. ap (λ (x : ℕ). cond (get_or s.copied (k / 1024) false) x (get_or s.image k 0)) (get_or-set_other s.work at k v 0 d))

-- a write alters the byte that it shows, and no other
pub bytes_of-with_byte : (s : Layers) (at v : ℕ) → length s.image ≡ 65536 → length s.work ≡ 65536 → length s.copied ≡ 64 → at < 65536 → bytes_of (with_byte s at v) ≡ set (bytes_of s) at v
bytes_of-with_byte s at v im wo co low =
    let page : at / 1024 < 64 = omega arith in
    bytes_of-set (with_own_page s (at / 1024)) at v (kept (get_or s.copied (at / 1024) false)) low (get_or-set_same s.copied (at / 1024) true false (omega arith))
    ∙ ap (λ (l : List ℕ). set l at v) (bytes_of-own_page s (at / 1024) im wo co page)
  where
    kept : (b : Bool) → length (cond b s.work (with_page s.work s.image (at / 1024))) ≡ 65536
    kept true = wo
    kept false = length-with_page s.work s.image (at / 1024) wo im (omega arith)

-- the layers after a write, from what its two steps leave
pub written_layers : (s L : Layers) (w : List ℕ) (a f v : ℕ) → L ≡ with_own_page s (f / 1024) → w ≡ set L.work a v → f ≡ a → record { image = L.image; work = w; copied = L.copied } ≡ with_byte s a v
written_layers s L w a f v l e q =
    ap {B = Layers} (λ (x : List ℕ). record { image = L.image; work = x; copied = L.copied }) e
    ∙ ap {B = Layers} (λ (M : Layers). record { image = M.image; work = set M.work a v; copied = M.copied }) (l ∙ ap (λ (i : ℕ). with_own_page s (i / 1024)) q)

-- with no page copied the image is shown
pub bytes_of-new : (im wo : List ℕ) → length im ≡ 65536 → bytes_of (new_layers im wo) ≡ im
bytes_of-new im wo size =
    same_number_lists (bytes_of (new_layers im wo)) im (length-from_fn 65536 (byte_at (new_layers im wo)) ∙ sym size)
    (λ k l.
    let m : k < 65536 = let z = length-from_fn 65536 (byte_at (new_layers im wo)) in omega arith in
    get_or-from_fn 65536 (byte_at (new_layers im wo)) k m ∙ ap (λ (b : Bool). cond b (get_or wo k 0) (get_or im k 0)) (get_or-replicate 64 (k / 1024) false false (omega arith)))

-- what is read at an address a, at the place b, by whether its page is copied
pub copied_byte : (s : Layers) (a b : ℕ) → b ≡ a → a < 65536 → get_or s.copied (b / 1024) false ≡ true → get_or s.work b 0 ≡ get_or (bytes_of s) a 0
copied_byte s a b q la e = sym (ap (λ (x : Bool). cond x (get_or s.work b 0) (get_or s.image b 0)) e) ∙ ap (byte_at s) q ∙ sym (get_or-from_fn 65536 (byte_at s) a la)

pub uncopied_byte : (s : Layers) (a b : ℕ) → b ≡ a → a < 65536 → get_or s.copied (b / 1024) false ≡ false → get_or s.image b 0 ≡ get_or (bytes_of s) a 0
uncopied_byte s a b q la e = sym (ap (λ (x : Bool). cond x (get_or s.work b 0) (get_or s.image b 0)) e) ∙ ap (byte_at s) q ∙ sym (get_or-from_fn 65536 (byte_at s) a la)

-- no halfword lies across two pages
pub copied_pair : (s : Layers) (a b : ℕ) → b ≡ a - a % 2 → a < 65536 → get_or s.copied (b / 1024) false ≡ true → get_or s.work b 0 ∷ get_or s.work (b + 1) 0 ∷ [] ≡ pair_at (bytes_of s) a
copied_pair s a b q la e =
    let page : (b + 1) / 1024 ≡ b / 1024 = omega arith in
    λ i. copied_byte s (a - a % 2) b q (omega arith) e i ∷ copied_byte s (a - a % 2 + 1) (b + 1) (omega arith) (omega arith) (ap (λ (j : ℕ). get_or s.copied j false) page ∙ e) i ∷ []

pub uncopied_pair : (s : Layers) (a b : ℕ) → b ≡ a - a % 2 → a < 65536 → get_or s.copied (b / 1024) false ≡ false → get_or s.image b 0 ∷ get_or s.image (b + 1) 0 ∷ [] ≡ pair_at (bytes_of s) a
uncopied_pair s a b q la e =
    let page : (b + 1) / 1024 ≡ b / 1024 = omega arith in
    λ i. uncopied_byte s (a - a % 2) b q (omega arith) e i ∷ uncopied_byte s (a - a % 2 + 1) (b + 1) (omega arith) (omega arith) (ap (λ (j : ℕ). get_or s.copied j false) page ∙ e) i ∷ []
