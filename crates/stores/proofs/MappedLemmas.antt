-- A store by the pages of another: what the check of its table says, and that two addresses have two places.
use Rattle.std.proofs.Common.{◌≡◌, ℕ, zero, suc, ◌+◌, ◌-◌, ◌/◌, ◌%◌, ◌<◌, ◌&&◌, ◌||◌, Bool, true, false, eqb, ltb, not, List, [], ◌∷◌, length, get_or, set, sym, refl, ap, ◌∙◌, arith}
use Rattle.std.proofs.lemmas.List.{get_or-set_other, get_or-set_same}
use Rattle.std.proofs.lemmas.Bool.{eq-eqb, ltb-true}
use Rattle.std.specs.List.{list_any}
use Rattle.stores.proofs.FromFnLemmas.{get_or-from_fn, set-from_fn}
use Rattle.stores.specs.Mapped.{is_page_table, mapped_bytes, place}

-- what the check of a table says of its pages
abbrev Small : List ℕ → Type 0
Small table = (k : ℕ) → k < length table → get_or table k 0 < 64

abbrev Once : List ℕ → Type 0
Once table = (j k : ℕ) → j < length table → k < length table → get_or table j 0 ≡ get_or table k 0 → j ≡ k

both : (a b : Bool) → a && b ≡ true → (a ≡ true) × (b ≡ true)
both true b e = (refl, e)
both false b e = cc

any_at : (t : List ℕ) (k p : ℕ) → k < length t → get_or t k 0 ≡ p → list_any (λ q. eqb q p) t ≡ true
any_at [] k p h e = absurd (omega arith)
any_at (q ∷ t) zero p h e = ap (λ (b : Bool). b || list_any (λ q. eqb q p) t) (eq-eqb q p e)
any_at (q ∷ t) (suc k) p h e = either (eqb q p) _ (any_at t k p (omega arith) e)
  where
    either : (a b : Bool) → b ≡ true → a || b ≡ true
    either true b z = refl
    either false b z = z

absent : (t : List ℕ) (p : ℕ) → not (list_any (λ q. eqb q p) t) ≡ true → (k : ℕ) → k < length t → get_or t k 0 ≡ p → ⊥
absent t p n k h e = let z = any_at t k p h e in differ (list_any (λ q. eqb q p) t) n z
  where
    differ : (b : Bool) → not b ≡ true → b ≡ true → ⊥
    differ true n z = cc
    differ false n z = cc

pub small_of : (t : List ℕ) → is_page_table t ≡ true → Small t
small_of [] e k h = absurd (omega arith)
small_of (p ∷ t) e zero h = let b = both (ltb p 64 && not (list_any (λ q. eqb q p) t)) (is_page_table t) e in ltb-true p 64 (both (ltb p 64) (not (list_any (λ q. eqb q p) t)) b.0).0
small_of (p ∷ t) e (suc k) h = small_of t (both (ltb p 64 && not (list_any (λ q. eqb q p) t)) (is_page_table t) e).1 k (omega arith)

once_of : (t : List ℕ) → is_page_table t ≡ true → Once t
once_of [] e j k h i q = absurd (omega arith)
once_of (p ∷ t) e zero zero h i q = refl
once_of (p ∷ t) e zero (suc k) h i q = absurd (absent t p (both (ltb p 64) _ (both _ (is_page_table t) e).0).1 k (omega arith) (sym q))
once_of (p ∷ t) e (suc j) zero h i q = absurd (absent t p (both (ltb p 64) _ (both _ (is_page_table t) e).0).1 j (omega arith) q)
once_of (p ∷ t) e (suc j) (suc k) h i q = ap suc (once_of t (both (ltb p 64 && not (list_any (λ q. eqb q p) t)) (is_page_table t) e).1 j k (omega arith) (omega arith) q)

-- two addresses that stand at one place are one
place_once : (t : List ℕ) → Once t → length t ≡ 64 → (a b : ℕ) → a < 65536 → b < 65536 → place t a ≡ place t b → a ≡ b
place_once t once n a b la lb e =
    let q : get_or t (a / 1024) 0 ≡ get_or t (b / 1024) 0 = omega arith in
    let p : a / 1024 ≡ b / 1024 = once (a / 1024) (b / 1024) (omega arith) (omega arith) q in
    omega arith

place_less : (t : List ℕ) → Small t → length t ≡ 64 → (a : ℕ) → a < 65536 → place t a < 65536
place_less t small n a la = let s = small (a / 1024) (omega arith) in omega arith

pub mapped_read : (t xs : List ℕ) (a p r : ℕ) → r ≡ get_or xs p 0 → p ≡ place t a → a < 65536 → r ≡ get_or (mapped_bytes t xs) a 0
mapped_read t xs a p r e q la = e ∙ ap (λ (n : ℕ). get_or xs n 0) q ∙ sym (get_or-from_fn 65536 (λ at. get_or xs (place t at) 0) a la)

pub mapped_write : (t xs ys : List ℕ) (a p v : ℕ) → is_page_table t ≡ true → length t ≡ 64 → length xs ≡ 65536 → a < 65536 → p ≡ place t a → ys ≡ set xs p v → mapped_bytes t ys ≡ set (mapped_bytes t xs) a v
mapped_write t xs ys a p v once n size la q e =
    ap (mapped_bytes t) (e ∙ ap (λ (i : ℕ). set xs i v) q)
    ∙ set-from_fn 65536 (λ at. get_or xs (place t at) 0) (λ at. get_or (set xs (place t a) v) (place t at) 0) a v la
    (get_or-set_same xs (place t a) v 0 (let l = place_less t (small_of t once) n a la in omega arith))
    (λ k l d. get_or-set_other xs (place t a) (place t k) v 0 (λ z. d (place_once t (once_of t once) n k a l la z)))

-- a halfword lies in one page, of the store and of the one below
pub mapped_read_half : (t xs : List ℕ) (a p : ℕ) (r : List ℕ) → r ≡ get_or xs (p - p % 2) 0 ∷ get_or xs (p - p % 2 + 1) 0 ∷ [] → p ≡ place t a → a < 65536 → r ≡ get_or (mapped_bytes t xs) (a - a % 2) 0 ∷ get_or (mapped_bytes t xs) (a - a % 2 + 1) 0 ∷ []
mapped_read_half t xs a p r e q la =
    let first : (a - a % 2) / 1024 ≡ a / 1024 = omega arith in
    let second : (a - a % 2 + 1) / 1024 ≡ a / 1024 = omega arith in
    let f = ap (λ (j : ℕ). get_or t j 0) first in
    let s = ap (λ (j : ℕ). get_or t j 0) second in
    e ∙ (λ i. mapped_read t xs (a - a % 2) (p - p % 2) _ refl (omega arith) (omega arith) i ∷ mapped_read t xs (a - a % 2 + 1) (p - p % 2 + 1) _ refl (omega arith) (omega arith) i ∷ [])
