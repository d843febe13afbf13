-- What a close leaves of the bytes.
use Rattle.std.proofs.Common.{◌≡◌, ℕ, zero, suc, ◌+◌, ◌-◌, ◌<◌, ◌≤◌, Bool, true, false, cond, ◌&&◌, ◌||◌, leb, ltb, eqb, List, [], ◌∷◌, length, get_or, set, Some, None, Option, sym, refl, ap, ◌∙◌, subst, add-zero, add-one, add-suc, drop, suc-add, zero-add, arith, length-set}
use Rattle.std.proofs.lemmas.Bool.Decides.{nat_tests}
use Rattle.std.proofs.lemmas.List.{drop_all, ext_get_or, get_or-set_other, get_or-set_same}
use Rattle.std.proofs.lemmas.Bool.{eqb-false, eqb-true}
use Rattle.access.specs.Access.{covers}
use Rattle.access.specs.Kinds.{permits}
use Rattle.access.specs.declared.kind.Use.TheVariants.{Clear}
use Rattle.access.specs.declared.rights.Grant.{Grant}
use Rattle.bays.specs.Bays.{wiped}
use Rattle.bays.specs.Grants.{excludes}

pub length_wiped : (gs : List (Option Grant)) (i : ℕ) (bs : List ℕ) → length (wiped gs i bs) ≡ length bs
length_wiped gs i [] = refl
length_wiped gs i (b ∷ bs) = ap suc (length_wiped gs (suc i) bs)

cond_same : {A : Type 0} (b : Bool) (x : A) → x ≡ cond b x x
cond_same true x = refl
cond_same false x = refl

get_wiped_from : (gs : List (Option Grant)) (i : ℕ) (bs : List ℕ) (a : ℕ) → get_or (wiped gs i bs) a 0 ≡ cond (excludes gs (i + a)) 0 (get_or bs a 0)
get_wiped_from gs i [] a = cond_same (excludes gs (i + a)) 0
get_wiped_from gs i (b ∷ bs) zero = ap (λ (n : ℕ). cond (excludes gs n) 0 b) (sym (add-zero i))
get_wiped_from gs i (b ∷ bs) (suc a) =
    get_wiped_from gs (suc i) bs a ∙ ap (λ (n : ℕ). cond (excludes gs n) 0 (get_or bs a 0)) (suc-add i a ∙ sym (add-suc i a))

pub get_wiped : (gs : List (Option Grant)) (bs : List ℕ) (a : ℕ) → get_or (wiped gs 0 bs) a 0 ≡ cond (excludes gs a) 0 (get_or bs a 0)
get_wiped gs bs a = get_wiped_from gs 0 bs a ∙ ap (λ (n : ℕ). cond (excludes gs n) 0 (get_or bs a 0)) (zero-add a)

-- one grant after the other
either_wipes : (x y : Bool) (b : ℕ) → cond (x || y) 0 b ≡ cond y 0 (cond (x || false) 0 b)
either_wipes true true b = refl
either_wipes true false b = refl
either_wipes false true b = refl
either_wipes false false b = refl

pub wiped_first : (g : Option Grant) (gs : List (Option Grant)) (i : ℕ) (bs : List ℕ) → wiped (g ∷ gs) i bs ≡ wiped gs i (wiped (g ∷ []) i bs)
wiped_first g gs i [] = refl
wiped_first g gs i (b ∷ bs) = λ j. either_wipes (covers g Clear i) (excludes gs i) b j ∷ wiped_first g gs (suc i) bs j

pub wiped_none : (i : ℕ) (bs : List ℕ) → wiped (None ∷ []) i bs ≡ bs
wiped_none i [] = refl
wiped_none i (b ∷ bs) = ap (λ (l : List ℕ). b ∷ l) (wiped_none (suc i) bs)

-- place by place
pub wiped_next : (gs : List (Option Grant)) (i : ℕ) (bs : List ℕ) → wiped (drop i gs) 0 bs ≡ wiped (drop (i + 1) gs) 0 (wiped (get_or gs i None ∷ []) 0 bs)
wiped_next gs i bs = step gs i ∙ ap (λ (n : ℕ). wiped (drop n gs) 0 (wiped (get_or gs i None ∷ []) 0 bs)) (sym (add-one i))
  where
    step : (gs : List (Option Grant)) (i : ℕ) → wiped (drop i gs) 0 bs ≡ wiped (drop (suc i) gs) 0 (wiped (get_or gs i None ∷ []) 0 bs)
    step [] zero = ap (wiped [] 0) (sym (wiped_none 0 bs))
    step [] (suc i) = ap (wiped [] 0) (sym (wiped_none 0 bs))
    step (g ∷ gs) zero = wiped_first g gs 0 bs
    step (g ∷ gs) (suc i) = step gs i

wiped_nothing : (i : ℕ) (bs : List ℕ) → wiped [] i bs ≡ bs
wiped_nothing i [] = refl
wiped_nothing i (b ∷ bs) = ap (λ (l : List ℕ). b ∷ l) (wiped_nothing (suc i) bs)

pub wiped_past : (gs : List (Option Grant)) (i : ℕ) (bs : List ℕ) → length gs ≤ i → wiped (drop i gs) 0 bs ≡ bs
wiped_past gs i bs h = ap (λ (l : List (Option Grant)). wiped l 0 bs) (drop_all i gs h) ∙ wiped_nothing 0 bs

-- the bytes from one address to before another are zero, and the others as they were
abbrev pub zeroed : ℕ → ℕ → ℕ → ℕ → ℕ
zeroed from to k b = cond (leb from k && ltb k to) 0 b

pub record ZeroedTo (from to : ℕ) (old bs : List ℕ) : Type 0 where
  pub size : length bs ≡ length old
  pub at : (k : ℕ) → get_or bs k 0 ≡ zeroed from to k (get_or old k 0)

pub zeroed_none : (from : ℕ) (bs : List ℕ) → ZeroedTo from from bs bs
zeroed_none from bs = record { size = refl; at = λ k. none k (get_or bs k 0) }
  where
    none : (k b : ℕ) → b ≡ zeroed from from k b
    none k b = grind (arith, nat_tests)

pub zeroed_more : (from to : ℕ) (old bs : List ℕ) → from ≤ to → to < length bs → ZeroedTo from to old bs → ZeroedTo from (to + 1) old (set bs to 0)
zeroed_more from to old bs h n z = record { size = length-set bs to 0 ∙ z.size; at = λ k. here k (eqb k to) refl }
  where
    here : (k : ℕ) (t : Bool) → eqb k to ≡ t → get_or (set bs to 0) k 0 ≡ zeroed from (to + 1) k (get_or old k 0)
    here k true e =
        let q : k ≡ to = eqb-true k to e in
        subst (λ (j : ℕ). get_or (set bs to 0) j 0 ≡ zeroed from (to + 1) j (get_or old j 0)) (sym q) (get_or-set_same' ∙ at_to (get_or old to 0))
      where
        get_or-set_same' : get_or (set bs to 0) to 0 ≡ 0
        get_or-set_same' = rw get_or-set_same

        at_to : (b : ℕ) → 0 ≡ zeroed from (to + 1) to b
        at_to b = grind (arith, nat_tests)
    here k false e = get_or-set_other bs to k 0 0 (eqb-false k to e) ∙ z.at k ∙ other (get_or old k 0)
      where
        other : (b : ℕ) → zeroed from to k b ≡ zeroed from (to + 1) k b
        other b = let d = eqb-false k to e in grind (arith, nat_tests)

-- an exclusive grant, and one that is not
same_range : (f l t k b : ℕ) → l < t → t ≤ f + (l + 1 - f) → zeroed f t k b ≡ cond (((leb f k && leb k l) && true) || false) 0 b
same_range f l t k b h n = grind (arith, nat_tests)

pub wiped_exclusive : (g : Grant) (to : ℕ) (old bs : List ℕ) → permits g.kind Clear ≡ true → g.last < to → to ≤ g.first + (g.last + 1 - g.first) → ZeroedTo g.first to old bs → bs ≡ wiped (Some g ∷ []) 0 old
wiped_exclusive g to old bs e h n z = ext_get_or 0 bs (wiped (Some g ∷ []) 0 old) (z.size ∙ sym (length_wiped (Some g ∷ []) 0 old)) (λ k _.
    z.at k
    ∙ same_range g.first g.last to k (get_or old k 0) h n
    ∙ ap (λ x. cond (((leb g.first k && leb k g.last) && x) || false) 0 (get_or old k 0)) (sym e)
    ∙ sym (get_wiped (Some g ∷ []) old k))

none_excluded : (x : Bool) (b : ℕ) → b ≡ cond ((x && false) || false) 0 b
none_excluded true b = refl
none_excluded false b = refl

pub wiped_shared : (g : Grant) (bs : List ℕ) → permits g.kind Clear ≡ false → bs ≡ wiped (Some g ∷ []) 0 bs
wiped_shared g bs e = ext_get_or 0 bs (wiped (Some g ∷ []) 0 bs) (sym (length_wiped (Some g ∷ []) 0 bs)) (λ k _.
    none_excluded (leb g.first k && leb k g.last) (get_or bs k 0)
    ∙ ap (λ x. cond (((leb g.first k && leb k g.last) && x) || false) 0 (get_or bs k 0)) (sym e)
    ∙ sym (get_wiped (Some g ∷ []) bs k))
