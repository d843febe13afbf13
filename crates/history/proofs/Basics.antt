-- Tests, lists and grants.
use Rattle.std.proofs.Common.{◌≡◌, ℕ, zero, suc, ◌+◌, ◌%◌, ◌<◌, ◌≤◌, Bool, true, false, cond, not, ◌&&◌, ◌||◌, T, leb, ◌⊎◌, List, [], ◌∷◌, length, get_or, set, Some, None, Option, sym, refl, ap, ◌∙◌, subst, inl, inr, add-zero, add-suc, mod-eq_of_lt, suc-add, zero-add, arith, le→leb, ltb→lt, leb→le, length-set}
use Rattle.std.proofs.lemmas.List.{get_or-set_other}
use Rattle.access.specs.declared.rights.Grant.{Grant}
use Rattle.bays.specs.declared.bay.Bay.{Bay}
use Rattle.bays.proofs.Bytes.{get_wiped}
use Rattle.bays.specs.Bays.{bay_at, clash, free, wiped}
use Rattle.bays.specs.Grants.{added, any_grant, clashes, clashes_any, excludes, has, holds, passes, room, vacant}
use Rattle.access.specs.Access.{allows, allows_all, covers, granted, within}
use Rattle.access.specs.Kinds.{permits}
use Rattle.access.specs.declared.rights.Rights.{Rights}
use Rattle.access.specs.declared.kind.Kind.{Kind}
use Rattle.access.specs.declared.kind.Kind.TheVariants as kind
use Rattle.access.specs.declared.kind.Use.{Use}
use Rattle.access.specs.declared.kind.Use.TheVariants.{Fetch, Read, Write, Load, Copy, Clear}
use Rattle.std.specs.List.{list_any}
use Rattle.store.specs.Bulk.{taken, written}

-- by cases of a test that is kept in view
pub by_test {ℓ κ} : {A : Type ℓ} (P : A → Type κ) (b : Bool) (x y : A) → (T b → P x) → (T (not b) → P y) → P (cond b x y)
by_test P true x y f g = f tt
by_test P false x y f g = g tt

pub or_left : (a b : Bool) → T a → T (a || b)
or_left true b t = tt
or_left false b t = absurd t

pub or_right : (a b : Bool) → T b → T (a || b)
or_right true b t = tt
or_right false b t = t

pub or_cases : (a b : Bool) → T (a || b) → T a ⊎ T b
or_cases true b t = inl tt
or_cases false b t = inr t

pub and_left : (a b : Bool) → T (a && b) → T a
and_left true b t = tt
and_left false b t = t

pub and_right : (a b : Bool) → T (a && b) → T b
and_right true b t = t
and_right false b t = absurd t

pub and_both : (a b : Bool) → T a → T b → T (a && b)
and_both true b s t = t
and_both false b s t = s

pub test : (b : Bool) → T b ⊎ (T b → ⊥)
test true = inl tt
test false = inr (λ t. t)

-- a value that a write can have changed
pub get_set_cong {ℓ} : {A : Type ℓ} (d x : A) (l m : List A) (i j : ℕ) → length l ≡ length m → get_or l j d ≡ get_or m j d → get_or (set l i x) j d ≡ get_or (set m i x) j d
get_set_cong d x [] [] i j n e = e
get_set_cong d x [] (b ∷ m) i j n e = absurd (omega arith)
get_set_cong d x (a ∷ l) [] i j n e = absurd (omega arith)
get_set_cong d x (a ∷ l) (b ∷ m) zero zero n e = refl
get_set_cong d x (a ∷ l) (b ∷ m) zero (suc j) n e = e
get_set_cong d x (a ∷ l) (b ∷ m) (suc i) zero n e = e
get_set_cong d x (a ∷ l) (b ∷ m) (suc i) (suc j) n e = get_set_cong d x l m i j (omega arith) e

pub get_set {ℓ} : {A : Type ℓ} (d x : A) (l : List A) (i j : ℕ) → ((j ≡ i) × (get_or (set l i x) j d ≡ x)) ⊎ (get_or (set l i x) j d ≡ get_or l j d)
get_set d x [] i j = inr refl
get_set d x (a ∷ l) zero zero = inl (refl, refl)
get_set d x (a ∷ l) zero (suc j) = inr refl
get_set d x (a ∷ l) (suc i) zero = inr refl
get_set d x (a ∷ l) (suc i) (suc j) = elim (get_set d x l i j) [ inl p ↦ inl (ap suc p.0, p.1) | inr e ↦ inr e ]

pub false_of : (b : Bool) → (T b → ⊥) → b ≡ false
false_of true n = absurd (n tt)
false_of false n = refl

-- what a program may write, and what may be loaded, a close makes zero
pub write_clears : (k : Kind) → T (permits k Write) → T (permits k Clear)
write_clears kind.Read t = t
write_clears kind.Write t = tt

pub load_clears : (k : Kind) → T (permits k Load) → T (permits k Clear)
load_clears kind.Read t = t
load_clears kind.Write t = tt

-- from a test of grants to one that is passed more easily
pub any_more : (f g : Option Grant → Bool) → ((o : Option Grant) → T (f o) → T (g o)) → (gs : List (Option Grant)) → T (list_any f gs) → T (list_any g gs)
any_more f g h [] t = t
any_more f g h (o ∷ gs) t =
    elim (or_cases (f o) (list_any f gs) t) [
      | inl u ↦ or_left (g o) (list_any g gs) (h o u)
      | inr u ↦ or_right (g o) (list_any g gs) (any_more f g h gs u)
    ]

covers_has : (u : Use) (a : ℕ) (o : Option Grant) → T (covers o u a) → T (passes (λ g. has g a) o)
covers_has u a None t = t
covers_has u a (Some g) t = and_left (has g a) (permits g.kind u) t

-- whatever is allowed lies in a grant
pub granted_holds : (u : Use) (gs : List (Option Grant)) (a : ℕ) → T (granted gs u a) → T (holds gs a)
granted_holds u gs a t = any_more _ _ (covers_has u a) gs t

pub excludes_holds : (gs : List (Option Grant)) (a : ℕ) → T (excludes gs a) → T (holds gs a)
excludes_holds gs a t = granted_holds Clear gs a t

covers_clears : (u : Use) → ((k : Kind) → T (permits k u) → T (permits k Clear)) → (a : ℕ) (o : Option Grant) → T (covers o u a) → T (covers o Clear a)
covers_clears u f a None t = t
covers_clears u f a (Some g) t = and_both (has g a) (permits g.kind Clear) (and_left (has g a) (permits g.kind u) t) (f g.kind (and_right (has g a) (permits g.kind u) t))

-- what may be written, or loaded, is under an exclusive grant
pub granted_excludes : (u : Use) → ((k : Kind) → T (permits k u) → T (permits k Clear)) → (gs : List (Option Grant)) (a : ℕ) → T (granted gs u a) → T (excludes gs a)
granted_excludes u f gs a t = any_more _ _ (covers_clears u f a) gs t

pub has_covers : (g : Grant) (a : ℕ) → T (permits g.kind Clear && has g a) → T (covers (Some g) Clear a)
has_covers g a t = and_both (has g a) (permits g.kind Clear) (and_right (permits g.kind Clear) (has g a) t) (and_left (permits g.kind Clear) (has g a) t)

pub covers_exclusively : (g : Grant) (a : ℕ) → T (covers (Some g) Clear a) → T (permits g.kind Clear && has g a)
covers_exclusively g a t = and_both (permits g.kind Clear) (has g a) (and_right (has g a) (permits g.kind Clear) t) (and_left (has g a) (permits g.kind Clear) t)

-- one grant more, by a test that no vacant place passes
module _ (f : Option Grant → Bool) (vacancy : T (f None) → ⊥) (g : Grant) where
  pub added_cases : (gs : List (Option Grant)) → T (list_any f (added g gs)) → T (f (Some g)) ⊎ T (list_any f gs)
  added_cases [] t = absurd t
  added_cases (None ∷ gs) t =
      elim (or_cases (f (Some g)) (list_any f gs) t) [ inl u ↦ inl u | inr u ↦ inr (or_right (f None) (list_any f gs) u) ]
  added_cases (Some h ∷ gs) t =
      elim (or_cases (f (Some h)) (list_any f (added g gs)) t) [
        | inl u ↦ inr (or_left (f (Some h)) (list_any f gs) u)
        | inr u ↦ elim (added_cases gs u) [ inl v ↦ inl v | inr v ↦ inr (or_right (f (Some h)) (list_any f gs) v) ]
      ]

  pub added_old : (gs : List (Option Grant)) → T (list_any f gs) → T (list_any f (added g gs))
  added_old [] t = t
  added_old (None ∷ gs) t = elim (or_cases (f None) (list_any f gs) t) [ inl u ↦ absurd (vacancy u) | inr u ↦ or_right (f (Some g)) (list_any f gs) u ]
  added_old (Some h ∷ gs) t =
      elim (or_cases (f (Some h)) (list_any f gs) t) [
        | inl u ↦ or_left (f (Some h)) (list_any f (added g gs)) u
        | inr u ↦ or_right (f (Some h)) (list_any f (added g gs)) (added_old gs u)
      ]

  added_in : (gs : List (Option Grant)) → vacant gs < length gs → T (f (Some g)) → T (list_any f (added g gs))
  added_in [] n t = absurd (omega arith)
  added_in (None ∷ gs) n t = or_left (f (Some g)) (list_any f gs) t
  added_in (Some h ∷ gs) n t = or_right (f (Some h)) (list_any f (added g gs)) (added_in gs (omega arith) t)

  pub added_new : (gs : List (Option Grant)) → T (room gs) → T (f (Some g)) → T (list_any f (added g gs))
  added_new gs n t = added_in gs (ltb→lt (vacant gs) (length gs) n) t

-- bytes written from an address on
pub length_written : (vs bs : List ℕ) (x : ℕ) → length (written bs x vs) ≡ length bs
length_written [] bs x = refl
length_written (v ∷ vs) bs x = length_written vs (set bs x v) ((x + 1) % 65536) ∙ length-set bs x v

pub written_cong : (vs bs cs : List ℕ) (x a : ℕ) → length bs ≡ length cs → get_or bs a 0 ≡ get_or cs a 0 → get_or (written bs x vs) a 0 ≡ get_or (written cs x vs) a 0
written_cong [] bs cs x a n e = e
written_cong (v ∷ vs) bs cs x a n e =
    written_cong vs (set bs x v) (set cs x v) ((x + 1) % 65536) a (length-set bs x v ∙ n ∙ sym (length-set cs x v)) (get_set_cong 0 v bs cs x a n e)

-- the next of several addresses that lie in the store
next_in : (x n : ℕ) → x + suc (suc n) ≤ 65536 → (x + 1) % 65536 ≡ x + 1
next_in x n h = mod-eq_of_lt (omega arith)

module _ (rights : Rights) where
  pub written_frame : (vs bs : List ℕ) (x a : ℕ) → x + length vs ≤ 65536 → T (allows_all rights Load x (length vs)) → (T (allows rights Load a) → ⊥) → get_or (written bs x vs) a 0 ≡ get_or bs a 0
  written_frame [] bs x a h t n = refl
  written_frame (v ∷ []) bs x a h t n =
      get_or-set_other bs x a v 0 (λ e. n (subst (λ (y : ℕ). T (allows rights Load y)) (sym e) (and_left (allows rights Load x) true t)))
  written_frame (v ∷ v' ∷ vs) bs x a h t n =
      ap (λ (y : ℕ). get_or (written (set bs x v) y (v' ∷ vs)) a 0) (next_in x (length vs) h)
      ∙ written_frame (v' ∷ vs) (set bs x v) (x + 1) a (omega arith) (and_right (allows rights Load x) (allows_all rights Load (x + 1) (length (v' ∷ vs))) t) n
      ∙ get_or-set_other bs x a v 0 (λ e. n (subst (λ (y : ℕ). T (allows rights Load y)) (sym e) (and_left (allows rights Load x) (allows_all rights Load (x + 1) (length (v' ∷ vs))) t)))

  -- bytes taken from an address on, where each is the same
  pub taken_same : (n x : ℕ) (bs cs : List ℕ) → x + n ≤ 65536 → T (allows_all rights Copy x n) → ((a : ℕ) → T (allows rights Copy a) → get_or bs a 0 ≡ get_or cs a 0) → taken bs x n ≡ taken cs x n
  taken_same zero x bs cs h t f = refl
  taken_same (suc zero) x bs cs h t f = ap (λ (v : ℕ). v ∷ []) (f x (and_left (allows rights Copy x) true t))
  taken_same (suc (suc n)) x bs cs h t f =
      let e = next_in x n h in
      let r : taken bs (x + 1) (suc n) ≡ taken cs (x + 1) (suc n) = taken_same (suc n) (x + 1) bs cs (omega arith) (and_right (allows rights Copy x) (allows_all rights Copy (x + 1) (suc n)) t) f in
      let v : get_or bs x 0 ≡ get_or cs x 0 = f x (and_left (allows rights Copy x) (allows_all rights Copy (x + 1) (suc n)) t) in
      ap (λ (y : ℕ). get_or bs x 0 ∷ taken bs y (suc n)) e ∙ (λ i. v i ∷ r i) ∙ ap (λ (y : ℕ). get_or cs x 0 ∷ taken cs y (suc n)) (sym e)

  pub within_in : (u : Use) (x n : ℕ) → T (within rights u x n) → x + n ≤ 65536
  within_in u x n t = leb→le (x + n) 65536 (and_left (leb (x + n) 65536) (allows_all rights u x n) t)

  pub within_all : (u : Use) (x n : ℕ) → T (within rights u x n) → T (allows_all rights u x n)
  within_all u x n t = and_right (leb (x + n) 65536) (allows_all rights u x n) t

-- what closing leaves
pub wiped_zero : (gs : List (Option Grant)) (bs : List ℕ) (a : ℕ) → T (excludes gs a) → get_or (wiped gs 0 bs) a 0 ≡ 0
wiped_zero gs bs a t = get_wiped gs bs a ∙ on (excludes gs a) t
  where
    on : (b : Bool) → T b → cond b 0 (get_or bs a 0) ≡ 0
    on true t = refl
    on false t = absurd t

pub wiped_frame : (gs : List (Option Grant)) (bs : List ℕ) (a : ℕ) → (T (excludes gs a) → ⊥) → get_or (wiped gs 0 bs) a 0 ≡ get_or bs a 0
wiped_frame gs bs a n = get_wiped gs bs a ∙ on (excludes gs a) n
  where
    on : (b : Bool) → (T b → ⊥) → cond b 0 (get_or bs a 0) ≡ get_or bs a 0
    on true n = absurd (n tt)
    on false n = refl

-- the clash test: an accepted range shares no byte with another grant, if one of the two is exclusive
overlap : (f l f' l' a : ℕ) → T (leb f a && leb a l) → T (leb f' a && leb a l') → T (leb f l' && leb f' l)
overlap f l f' l' a s t =
    let p : f ≤ a = leb→le f a (and_left (leb f a) (leb a l) s) in
    let q : a ≤ l = leb→le a l (and_right (leb f a) (leb a l) s) in
    let r : f' ≤ a = leb→le f' a (and_left (leb f' a) (leb a l') t) in
    let u : a ≤ l' = leb→le a l' (and_right (leb f' a) (leb a l') t) in
    and_both (leb f l') (leb f' l) (le→leb f l' (omega arith)) (le→leb f' l (omega arith))

-- an exclusive grant in the way of g, or g exclusive and any in its way
abbrev pub InWay : Grant → List (Option Grant) → ℕ → Type 0
InWay g gs a = T (excludes gs a) ⊎ (T (permits g.kind Clear) × T (holds gs a))

clashes_any_in : (g : Grant) (gs : List (Option Grant)) (a : ℕ) → T (has g a) → InWay g gs a → T (clashes_any g gs)
clashes_any_in g gs a c (inl t) = any_more (λ o. covers o Clear a) (clashes g) in_way gs t
  where
    in_way : (o : Option Grant) → T (covers o Clear a) → T (clashes g o)
    in_way None u = u
    in_way (Some h) u =
        and_both (permits g.kind Clear || permits h.kind Clear) _ (or_right (permits g.kind Clear) _ (and_right (has h a) (permits h.kind Clear) u))
        (overlap g.first g.last h.first h.last a c (and_left (has h a) (permits h.kind Clear) u))
clashes_any_in g gs a c (inr t) = any_more (passes (λ h. has h a)) (clashes g) in_way gs t.1
  where
    in_way : (o : Option Grant) → T (passes (λ h. has h a) o) → T (clashes g o)
    in_way None u = u
    in_way (Some h) u = and_both (permits g.kind Clear || permits h.kind Clear) _ (or_left (permits g.kind Clear) _ t.0) (overlap g.first g.last h.first h.last a c u)

clash_get : (g : Grant) (l : List Bay) (k a : ℕ) → T (has g a) → InWay g (get_or l k free).rights.grants a → T (clash g l)
clash_get g [] k a c (inl t) = t
clash_get g [] k a c (inr t) = t.1
clash_get g (d ∷ l) zero a c t = or_left (clashes_any g d.rights.grants) (clash g l) (clashes_any_in g d.rights.grants a c t)
clash_get g (d ∷ l) (suc k) a c t = or_right (clashes_any g d.rights.grants) (clash g l) (clash_get g l k a c t)

pub clash_in : (g : Grant) (l : List Bay) (k a : ℕ) → T (has g a) → InWay g (bay_at l k).rights.grants a → T (clash g l)
unfolding bay_at
clash_in g l zero a c (inl t) = absurd t
clash_in g l zero a c (inr t) = absurd t.1
clash_in g l (suc k) a c t = clash_get g l k a c t
