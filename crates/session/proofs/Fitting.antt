-- Slots that hold the handles of their bays, and what a request leaves of that.
use Rattle.std.proofs.Common.{◌≡◌, ℕ, zero, suc, ◌+◌, ◌-◌, ◌<◌, ◌≤◌, ◌≢◌, ◌⊎◌, ◌&&◌, Bool, true, false, eqb, leb, List, [], ◌∷◌, length, get_or, set, Some, None, Ok, Err, Option, Result, sym, refl, ap, ◌∙◌, subst, inl, inr, arith}
use Rattle.std.proofs.lemmas.List.{get_or_past, length-set}
use Rattle.std.proofs.lemmas.Bool.{eq-eqb, eqb-true}
use Rattle.std.proofs.lemmas.Bool.Decides.{nat_tests}
use Rattle.bays.specs.Bays.{bay_at, free, put_bay}
use Rattle.bays.specs.Stages.{at_stage, is_free}
use Rattle.bays.specs.declared.bay.Bay.{Bay}
use Rattle.bays.specs.declared.refusal.Refusal.{Refusal}
use Rattle.bays.specs.declared.stage.Stage.{Stage}
use Rattle.bays.specs.declared.stage.Stage.TheVariants as stage
use Rattle.history.proofs.Basics.{by_test}
use Rattle.history.specs.Calls.{Act, Own, Shared, call, close, copy, grant, load, look, open_bay, own, refused, seal, set_all, shared, turn}
use Rattle.history.specs.Hall.{CallEnd, Hall, OwnEnd, Program, apply, call_end, changed, end_of, program_of, settle, settle_own, stage_for, verdict}
use Rattle.session.proofs.Stages.{closed, others_keep, served_by, stage_of}
use Rattle.session.specs.Serve.{Fits, Made, RequestEnd, all_fit, closed_to, fits, fits_from, fitting, serve}
use Rattle.session.specs.declared.request.Reply.{Reply}
use Rattle.session.specs.declared.slot.Slot.{Slot}
use Rattle.session.specs.declared.slot.Slot.TheVariants.{Empty, Preparing, Sealed}

-- as a fact and as a test
free_is : (o : Option Stage) → is_free o ≡ true → o ≡ None
free_is None e = refl
free_is (Some s) e = cc

at_is : (s : Stage) (o : Option Stage) → at_stage s o ≡ true → o ≡ Some s
at_is s None e = cc
at_is stage.Preparing (Some stage.Preparing) e = refl
at_is stage.Preparing (Some stage.Sealed) e = cc
at_is stage.Sealed (Some stage.Preparing) e = cc
at_is stage.Sealed (Some stage.Sealed) e = refl

both : (a b : Bool) → a && b ≡ true → (a ≡ true) × (b ≡ true)
both true b e = (refl, e)
both false b e = cc

pub as_fact : (l : List Bay) (n : ℕ) (s : Slot) → fits l n s ≡ true → Fits l n s
as_fact l n Empty e = free_is (stage_of l n) e
as_fact l n (Preparing p) e = let b = both (eqb p.bay n) (at_stage stage.Preparing (stage_of l n)) e in (eqb-true p.bay n b.0, at_is stage.Preparing (stage_of l n) b.1)
as_fact l n (Sealed p) e = let b = both (eqb p.bay n) (at_stage stage.Sealed (stage_of l n)) e in (eqb-true p.bay n b.0, at_is stage.Sealed (stage_of l n) b.1)

pub as_test : (l : List Bay) (n : ℕ) (s : Slot) → Fits l n s → fits l n s ≡ true
as_test l n Empty f = ap is_free f
as_test l n (Preparing p) f = (λ i. eqb (f.0 i) n && at_stage stage.Preparing (f.1 i)) ∙ ap (λ b. b && true) (eq-eqb n n refl)
as_test l n (Sealed p) f = (λ i. eqb (f.0 i) n && at_stage stage.Sealed (f.1 i)) ∙ ap (λ b. b && true) (eq-eqb n n refl)

-- a slot that fits a free bay is empty
pub emptied : (l : List Bay) (n : ℕ) (s : Slot) → Fits l n s → stage_of l n ≡ None → s ≡ Empty
emptied l n Empty f e = refl
emptied l n (Preparing p) f e = let z = f.1 in cc
emptied l n (Sealed p) f e = let z = f.1 in cc

same_fits : (l m : List Bay) (n : ℕ) (s : Slot) → stage_of m n ≡ stage_of l n → fits m n s ≡ fits l n s
same_fits l m n Empty e = ap is_free e
same_fits l m n (Preparing p) e = ap (λ (o : Option Stage). eqb p.bay n && at_stage stage.Preparing o) e
same_fits l m n (Sealed p) e = ap (λ (o : Option Stage). eqb p.bay n && at_stage stage.Sealed o) e

pub at_place : (l : List Bay) (n : ℕ) (ss : List Slot) (i : ℕ) → fits_from l n ss ≡ true → i < length ss → fits l (n + i) (get_or ss i Empty) ≡ true
unfolding fits_from
at_place l n [] i e h = absurd (omega arith)
at_place l n (s ∷ ss) zero e h = subst (λ (k : ℕ). fits l k s ≡ true) (omega arith) (both (fits l n s) (fits_from l (suc n) ss) e).0
at_place l n (s ∷ ss) (suc i) e h = subst (λ (k : ℕ). fits l k (get_or ss i Empty) ≡ true) (omega arith) (at_place l (suc n) ss i (both (fits l n s) (fits_from l (suc n) ss) e).1 (omega arith))

same_from : (l m : List Bay) (n : ℕ) (ss : List Slot) → fits_from l n ss ≡ true → ((j : ℕ) → n ≤ j → stage_of m j ≡ stage_of l j) → fits_from m n ss ≡ true
unfolding fits_from
same_from l m n [] e k = refl
same_from l m n (s ∷ ss) e k =
    let b = both (fits l n s) (fits_from l (suc n) ss) e in
    let p : fits m n s ≡ true = same_fits l m n s (k n (omega arith)) ∙ b.0 in
    let q : fits_from m (suc n) ss ≡ true = same_from l m (suc n) ss b.1 (λ j h. k j (omega arith)) in
    λ i. p i && q i

-- one slot is put anew, and every bay but its own is at the stage it was at
pub refits : (l m : List Bay) (n : ℕ) (ss : List Slot) (i : ℕ) (t : Slot) → fits_from l n ss ≡ true → ((j : ℕ) → j ≢ n + i → stage_of m j ≡ stage_of l j) → fits m (n + i) t ≡ true → fits_from m n (set ss i t) ≡ true
unfolding fits_from
refits l m n [] i t e k f = refl
refits l m n (s ∷ ss) zero t e k f =
    let b = both (fits l n s) (fits_from l (suc n) ss) e in
    let p : fits m n t ≡ true = subst (λ (j : ℕ). fits m j t ≡ true) (omega arith) f in
    let q : fits_from m (suc n) ss ≡ true = same_from l m (suc n) ss b.1 (λ j h. k j (λ z. omega arith)) in
    λ i. p i && q i
refits l m n (s ∷ ss) (suc i) t e k f =
    let b = both (fits l n s) (fits_from l (suc n) ss) e in
    let p : fits m n s ≡ true = same_fits l m n s (k n (λ z. omega arith)) ∙ b.0 in
    let q : fits_from m (suc n) (set ss i t) ≡ true = refits l m (suc n) ss i t b.1 (λ j d. k j (λ z. d (omega arith))) (subst (λ (j : ℕ). fits m j t ≡ true) (omega arith) f) in
    λ i. p i && q i

pub set_again : {A : Type 0} (l : List A) (i : ℕ) (x y : A) → set (set l i x) i y ≡ set l i y
set_again [] i x y = refl
set_again (a ∷ l) zero x y = refl
set_again (a ∷ l) (suc i) x y = ap (λ z. a ∷ z) (set_again l i x y)

length_put : (l : List Bay) (n : ℕ) (b : Bay) → length (put_bay l n b) ≡ length l
unfolding put_bay
length_put l zero b = refl
length_put l (suc k) b = length-set l k b

-- what a call of the bay n keeps: the number of bays, and the stage of every other bay
pub record Keeps (n : ℕ) (H K : Hall) : Type 0 where
  pub count : length K.bays ≡ length H.bays
  pub others : (j : ℕ) → j ≢ n → stage_of K.bays j ≡ stage_of H.bays j

length_own : (n : ℕ) (s : Stage) (i : Own) (H : Hall) → length (apply (call n s (own i)) H).hall.bays ≡ length H.bays
length_own n s i H =
    let e : OwnEnd = end_of i H.book (bay_at H.bays n).rights (program_of (bay_at H.bays n)) H.bytes in
    by_test (λ (t : CallEnd). length t.hall.bays ≡ length H.bays) (at_stage (stage_for i s) (bay_at H.bays n).stage) (settle_own n H e) (call_end (refused 2) H)
    (λ t. of_changed e.program)
    (λ t. refl)
  where
    of_changed : (p : Option Program) → length (changed p H.bays n) ≡ length H.bays
    of_changed None = refl
    of_changed (Some p) = length_put H.bays n _

length_settled : (n : ℕ) (o : Shared) (H : Hall) (r : Option Refusal) → length (settle r n o H).hall.bays ≡ length H.bays
length_settled n o H None = length_put H.bays n _
length_settled n o H (Some e) = refl

length_kept : (n : ℕ) (s : Stage) (c : Act) (H : Hall) → length (apply (call n s c) H).hall.bays ≡ length H.bays
length_kept n s (own i) H = length_own n s i H
length_kept n s (shared o) H = length_settled n o H (verdict n s o H.bays)

served_keeps : (o : Option Stage) (n : ℕ) (c : Act) (H : Hall) → Keeps n H (served_by o n c H).hall
served_keeps None n c H = record { count = refl; others = λ j d. refl }
served_keeps (Some s) n c H = record { count = length_kept n s c H; others = λ j d. others_keep (call n s c) H j d }

pub made_keeps : {E : Type 0} (r : Result Reply E) (n : ℕ) (c : Act) (H K : Hall) → Made r H K (serve n c H) → Keeps n H K
made_keeps (Ok r) n c H K m = subst (Keeps n H) (sym (ap (λ (e : RequestEnd). e.hall) m)) (served_keeps (fitting c (bay_at H.bays n).stage) n c H)
made_keeps (Err e) n c H K m = subst (Keeps n H) (sym m) (record { count = refl; others = λ j d. refl })

-- a number that no bay has
pub beyond : (l : List Bay) (n : ℕ) → length l ≡ 8 → (n < 1) ⊎ (8 < n) → stage_of l n ≡ None
unfolding bay_at
beyond l zero e h = refl
beyond l (suc k) e (inl h) = absurd (omega arith)
beyond l (suc k) e (inr h) = ap (λ (b : Bay). b.stage) (get_or_past l k free (omega arith))

outside : (n : ℕ) → (n < 1) ⊎ (8 < n) → leb 1 n && leb n 8 ≡ false
outside n h = grind (arith, nat_tests)

unserved : (n : ℕ) (c : Act) (H : Hall) → (n < 1) ⊎ (8 < n) → stage_of H.bays n ≡ None → (serve n c H).hall ≡ H
unserved n (shared open_bay) H h e = simp (outside n h) refl
unserved n (shared (grant g)) H h e = ap (λ (o : Option Stage). (served_by (fitting (shared (grant g)) o) n (shared (grant g)) H).hall) e
unserved n (shared seal) H h e = ap (λ (o : Option Stage). (served_by (fitting (shared seal) o) n (shared seal) H).hall) e
unserved n (shared close) H h e = ap (λ (o : Option Stage). (served_by (fitting (shared close) o) n (shared close) H).hall) e
unserved n (own (load at v)) H h e = ap (λ (o : Option Stage). (served_by (fitting (own (load at v)) o) n (own (load at v)) H).hall) e
unserved n (own (set_all r)) H h e = ap (λ (o : Option Stage). (served_by (fitting (own (set_all r)) o) n (own (set_all r)) H).hall) e
unserved n (own (turn b)) H h e = ap (λ (o : Option Stage). (served_by (fitting (own (turn b)) o) n (own (turn b)) H).hall) e
unserved n (own look) H h e = ap (λ (o : Option Stage). (served_by (fitting (own look) o) n (own look) H).hall) e
unserved n (own (copy at b)) H h e = ap (λ (o : Option Stage). (served_by (fitting (own (copy at b)) o) n (own (copy at b)) H).hall) e

pub unmade : {E : Type 0} (r : Result Reply E) (n : ℕ) (c : Act) (H K : Hall) → (n < 1) ⊎ (8 < n) → stage_of H.bays n ≡ None → Made r H K (serve n c H) → K ≡ H
unmade (Ok r) n c H K h e m = ap (λ (e : RequestEnd). e.hall) m ∙ unserved n c H h e
unmade (Err x) n c H K h e m = m

pub counted : (l : List Bay) (ss : List Slot) → all_fit l ss ≡ true → (length l ≡ 8) × ((length ss ≡ 8) × (fits_from l 1 ss ≡ true))
counted l ss e =
    let b = both (eqb (length l) 8 && eqb (length ss) 8) (fits_from l 1 ss) e in
    let k = both (eqb (length l) 8) (eqb (length ss) 8) b.0 in
    (eqb-true (length l) 8 k.0, (eqb-true (length ss) 8 k.1, b.1))

pub fitted : (l : List Bay) (ss : List Slot) → length l ≡ 8 → length ss ≡ 8 → fits_from l 1 ss ≡ true → all_fit l ss ≡ true
fitted l ss a b f = λ i. (eq-eqb (length l) 8 a i && eq-eqb (length ss) 8 b i) && f i

-- all slots fit after a request of a bay of the hall, whose slot was put anew
pub anew : (n : ℕ) (H K : Hall) (ss : List Slot) (t : Slot) → 1 ≤ n → all_fit H.bays ss ≡ true → Keeps n H K → Fits K.bays n t → all_fit K.bays (set ss (n - 1) t) ≡ true
anew n H K ss t h e k f =
    let c = counted H.bays ss e in
    let m : 1 + (n - 1) ≡ n = omega arith in
    fitted K.bays (set ss (n - 1) t) (k.count ∙ c.0) (length-set ss (n - 1) t ∙ c.1.0)
    (refits H.bays K.bays 1 ss (n - 1) t c.1.1 (λ j d. k.others j (λ z. d (z ∙ sym m))) (subst (λ (j : ℕ). fits K.bays j t ≡ true) (sym m) (as_test K.bays n t f)))

pub held : (n : ℕ) (H : Hall) (ss : List Slot) → 1 ≤ n → n ≤ 8 → all_fit H.bays ss ≡ true → Fits H.bays n (get_or ss (n - 1) Empty)
held n H ss h h' e =
    let c = counted H.bays ss e in
    let m : 1 + (n - 1) ≡ n = omega arith in
    as_fact H.bays n (get_or ss (n - 1) Empty) (subst (λ (j : ℕ). fits H.bays j (get_or ss (n - 1) Empty) ≡ true) m (at_place H.bays 1 ss (n - 1) c.1.1 (omega arith)))

-- a bay is free after it was asked to be closed by one who holds its handle, or none
pub let_go : (n : ℕ) (H : Hall) → stage_of (serve n (shared close) H).hall.bays n ≡ None
let_go n H = by_stage (stage_of H.bays n) refl
  where
    by_stage : (o : Option Stage) → stage_of H.bays n ≡ o → stage_of (served_by (fitting (shared close) o) n (shared close) H).hall.bays n ≡ None
    by_stage None e = e
    by_stage (Some s) e = closed n s H e

pub serve_keeps : (n : ℕ) (c : Act) (H K : Hall) → K ≡ (serve n c H).hall → Keeps n H K
serve_keeps n c H K e = subst (Keeps n H) (sym e) (served_keeps (fitting c (bay_at H.bays n).stage) n c H)

pub one_more_empty : (ss : List Slot) (p : ℕ) → p < length ss → ((i : ℕ) → i < p → get_or ss i Empty ≡ Empty) → (i : ℕ) → i < p + 1 → get_or (set ss p Empty) i Empty ≡ Empty
one_more_empty [] p h k i l = absurd (omega arith)
one_more_empty (s ∷ ss) zero h k zero l = refl
one_more_empty (s ∷ ss) zero h k (suc i) l = absurd (omega arith)
one_more_empty (s ∷ ss) (suc p) h k zero l = k zero (omega arith)
one_more_empty (s ∷ ss) (suc p) h k (suc i) l = one_more_empty ss p (omega arith) (λ j m. k (suc j) (omega arith)) i (omega arith)

-- one bay more is closed
pub closed_on : (p : ℕ) (G H K : Hall) → H ≡ closed_to p G → K ≡ (serve (p + 1) (shared close) H).hall → K ≡ closed_to (p + 1) G
unfolding closed_to
closed_on p G H K e f =
    let q : p + 1 ≡ suc p = omega arith in
    f ∙ ap (λ (X : Hall). (serve (p + 1) (shared close) X).hall) e ∙ ap (λ (n : ℕ). (serve n (shared close) (closed_to p G)).hall) q ∙ sym (ap (λ (n : ℕ). closed_to n G) q)
