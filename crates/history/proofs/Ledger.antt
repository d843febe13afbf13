-- What every call keeps of the ledger, and what open, grant, seal and close do to bytes and grants.
use Rattle.std.proofs.Common.{◌≡◌, ℕ, Bool, true, false, cond, ◌&&◌, T, leb, is_some, ◌≢◌, ◌⊎◌, List, length, get_or, Some, None, Ok, Err, Option, Result, sym, refl, ap, ◌∙◌, subst, inl, inr}
use mathlib.Core.Path.{subst⁻¹}
use Rattle.access.specs.declared.rights.Grant.{Grant}
use Rattle.bays.specs.declared.bay.Bay.{Bay}
use Rattle.bays.specs.declared.stage.Stage.{Stage}
use Rattle.bays.specs.declared.stage.Stage.TheVariants.{Preparing}
use Rattle.bays.specs.declared.refusal.Refusal.{Refusal}
use Rattle.bays.specs.declared.refusal.Refusal.TheVariants.{NoSuchBay, OtherStage, Taken, Reversed, Full, Clash}
use Rattle.bays.proofs.Bytes.{get_wiped, length_wiped}
use Rattle.history.proofs.Basics.{by_test, and_left, and_right, excludes_holds, wiped_zero, wiped_frame, clash_in, added_cases, added_old}
use Rattle.history.proofs.Entries.{Entry, entry, same_entry, changed_entries, get_put}
use Rattle.history.proofs.Ever.{grants_at, stage_at}
use Rattle.access.specs.Access.{covers}
use Rattle.access.specs.Kinds.{permits}
use Rattle.access.specs.declared.kind.Use.TheVariants.{Clear}
use Rattle.bays.specs.Bays.{bay_at, clash, place_of, put_bay}
use Rattle.bays.specs.Grants.{checked, excludes, has, holds, passes, room}
use Rattle.bays.specs.Stages.{at_stage, is_free}
use Rattle.history.specs.Calls.{Act, Shared, close, grant, open_bay, own, seal, shared}
use Rattle.history.specs.Hall.{Hall, Program, CallEnd, apply_act, bay_after, bytes_after, changed, end_of, program_of, refusal_of, settle, stage_for, verdict}

-- a free bay has no grant, and no byte of a write grant is in a grant of another bay
pub record Sound (l : List Bay) : Type 0 where
  pub bare : (k a : ℕ) → T (is_free (stage_at l k)) → T (holds (grants_at l k) a) → ⊥
  pub apart : (k j a : ℕ) → k ≢ j → T (excludes (grants_at l k) a) → T (holds (grants_at l j) a) → ⊥

sound_set : (l : List Bay) (k : ℕ) (d : Bay) → Sound l
    → ((a : ℕ) → T (is_free d.stage) → T (holds d.rights.grants a) → ⊥)
    → ((j a : ℕ) → k ≢ j → T (excludes d.rights.grants a) → T (holds (grants_at l j) a) → ⊥)
    → ((j a : ℕ) → k ≢ j → T (excludes (grants_at l j) a) → T (holds d.rights.grants a) → ⊥)
    → Sound (put_bay l k d)
sound_set l k d s f g h = record {
  bare = λ j a t u. elim (get_put d l k j) [
    | inl p ↦ f a (subst (λ (e : Bay). T (is_free e.stage)) p.1 t) (subst (λ (e : Bay). T (holds e.rights.grants a)) p.1 u)
    | inr p ↦ s.bare j a (subst (λ (e : Bay). T (is_free e.stage)) p t) (subst (λ (e : Bay). T (holds e.rights.grants a)) p u)
  ];
  apart = λ i j a n t u. elim (get_put d l k i) [
    | inl p ↦ elim (get_put d l k j) [
      | inl q ↦ n (p.0 ∙ sym q.0)
      | inr q ↦ g j a (λ e. n (p.0 ∙ e)) (subst (λ (e : Bay). T (excludes e.rights.grants a)) p.1 t) (subst (λ (e : Bay). T (holds e.rights.grants a)) q u)
    ]
    | inr p ↦ elim (get_put d l k j) [
      | inl q ↦ h i a (λ e. n (sym e ∙ sym q.0)) (subst (λ (e : Bay). T (excludes e.rights.grants a)) p t) (subst (λ (e : Bay). T (holds e.rights.grants a)) q.1 u)
      | inr q ↦ s.apart i j a n (subst (λ (e : Bay). T (excludes e.rights.grants a)) p t) (subst (λ (e : Bay). T (holds e.rights.grants a)) q u)
    ]
  ];
}

-- the tests that an accepted call has passed
pub passed : (b : Bool) (x : Option Refusal) (n : Refusal) → cond b x (Some n) ≡ None → T b × (x ≡ None)
passed true x n e = (tt, e)
passed false x n e = cc

failed : (b : Bool) (n : Refusal) → cond b (Some n) None ≡ None → T b → ⊥
failed true n e t = cc
failed false n e t = t

open_free : (k : ℕ) (s : Stage) (l : List Bay) → verdict k s open_bay l ≡ None → T (is_free (stage_at l k))
open_free k s l e = (passed (is_free (stage_at l k)) None Taken (passed (is_some (place_of k)) _ NoSuchBay e).1).0

-- a check that is passed: there is room, and no clash
check_passed : (a b c : Bool) (p : ℕ) → refusal_of (cond a (cond b (cond c (Err Clash) (Ok p)) (Err Full)) (Err Reversed)) ≡ None → T b × (T c → ⊥)
check_passed true true false p e = (tt, λ t. t)
check_passed true true true p e = cc
check_passed true false c p e = cc
check_passed false b c p e = cc

grant_passed : (k : ℕ) (s : Stage) (g : Grant) (l : List Bay) → verdict k s (grant g) l ≡ None → T (room (grants_at l k)) × (T (clash g l) → ⊥)
grant_passed k s g l e = check_passed (leb g.first g.last) (room (grants_at l k)) (clash g l) _ (passed (at_stage Preparing (stage_at l k)) _ OtherStage e).1

grant_clear : (k : ℕ) (s : Stage) (g : Grant) (l : List Bay) → verdict k s (grant g) l ≡ None → T (clash g l) → ⊥
grant_clear k s g l e = (grant_passed k s g l e).1

pub grant_room : (k : ℕ) (s : Stage) (g : Grant) (l : List Bay) → verdict k s (grant g) l ≡ None → T (room (grants_at l k))
grant_room k s g l e = (grant_passed k s g l e).0

free_not : (o : Option Stage) → T (is_free o) → T (at_stage Preparing o) → ⊥
free_not None t u = u
free_not (Some s) t u = t

pub sound_shared : (k : ℕ) (s : Stage) (o : Shared) (l : List Bay) → verdict k s o l ≡ None → Sound l → Sound (put_bay l k (bay_after o (bay_at l k)))
sound_shared k s open_bay l e S = sound_set l k _ S (λ a t u. u) (λ j a n t u. t) (λ j a n t u. u)
sound_shared k s (grant g) l e S =
    sound_set l k _ S (λ a t u. free_not (stage_at l k) t (passed (at_stage Preparing (stage_at l k)) _ OtherStage e).0)
    (λ j a n t u. elim (added_cases (λ o. covers o Clear a) (λ x. x) g (grants_at l k) t) [
      | inl v ↦ clear (clash_in g l j a (and_left (has g a) (permits g.kind Clear) v) (inr (and_right (has g a) (permits g.kind Clear) v, u)))
      | inr v ↦ S.apart k j a n v u
    ])
    (λ j a n t u. elim (added_cases (passes (λ h. has h a)) (λ x. x) g (grants_at l k) u) [
      | inl v ↦ clear (clash_in g l j a v (inl t))
      | inr v ↦ S.apart j k a (λ q. n (sym q)) t v
    ])
  where
    clear : T (clash g l) → ⊥
    clear = grant_clear k s g l e
sound_shared k s seal l e S = sound_set l k _ S (λ a t u. t) (λ j a n t u. S.apart k j a n t u) (λ j a n t u. S.apart j k a (λ q. n (sym q)) t u)
sound_shared k s close l e S = sound_set l k _ S (λ a t u. u) (λ j a n t u. t) (λ j a n t u. u)

sound_settle : (k : ℕ) (s : Stage) (o : Shared) (H : Hall) (v : Option Refusal) → verdict k s o H.bays ≡ v → Sound H.bays → Sound (settle v k o H).hall.bays
sound_settle k s o H None e S = sound_shared k s o H.bays e S
sound_settle k s o H (Some n) e S = S

-- a program put into its bay
sound_changed : (l : List Bay) (k : ℕ) (o : Option Program) → Sound l → Sound (changed o l k)
sound_changed l k o S = record {
  bare = λ j a t u. S.bare j a (subst (λ (d : Entry). T (is_free d.stage)) (e j) t) (subst (λ (d : Entry). T (holds d.rights.grants a)) (e j) u);
  apart = λ i j a n t u. S.apart i j a n (subst (λ (d : Entry). T (excludes d.rights.grants a)) (e i) t) (subst (λ (d : Entry). T (holds d.rights.grants a)) (e j) u);
}
  where
    e : (j : ℕ) → entry (bay_at (changed o l k) j) ≡ entry (bay_at l j)
    e j = same_entry (changed o l k) l (changed_entries l k o) j

pub sound_act : (k : ℕ) (s : Stage) (c : Act) (H : Hall) → Sound H.bays → Sound (apply_act k s c H).hall.bays
sound_act k s (own i) H S = by_test (λ (t : CallEnd). Sound t.hall.bays) (at_stage (stage_for i s) (stage_at H.bays k)) _ _ (λ t. sound_changed H.bays k (end_of i H.book (bay_at H.bays k).rights (program_of (bay_at H.bays k)) H.bytes).program S) (λ t. S)
sound_act k s (shared o) H S = sound_settle k s o H (verdict k s o H.bays) refl S

-- a byte under a write grant stays under it, or becomes zero
pub held_on : (k : ℕ) (s : Stage) (o : Shared) (l : List Bay) → verdict k s o l ≡ None → Sound l → (j a : ℕ) → T (excludes (grants_at l j) a)
    → T (excludes (grants_at (put_bay l k (bay_after o (bay_at l k))) j) a) ⊎ ((bs : List ℕ) → get_or (bytes_after o (bay_at l k) bs) a 0 ≡ 0)
held_on k s o l e S j a t = elim (get_put (bay_after o (bay_at l k)) l k j) [
  | inl p ↦ here o e p.1 (subst (λ (x : ℕ). T (excludes (grants_at l x) a)) p.0 t)
  | inr p ↦ inl (subst⁻¹ (λ (d : Bay). T (excludes d.rights.grants a)) p t)
]
  where
    here : (o : Shared) → verdict k s o l ≡ None → bay_at (put_bay l k (bay_after o (bay_at l k))) j ≡ bay_after o (bay_at l k) → T (excludes (grants_at l k) a)
        → T (excludes (grants_at (put_bay l k (bay_after o (bay_at l k))) j) a) ⊎ ((bs : List ℕ) → get_or (bytes_after o (bay_at l k) bs) a 0 ≡ 0)
    here open_bay e p t = absurd (S.bare k a (open_free k s l e) (excludes_holds (grants_at l k) a t))
    here (grant g) e p t = inl (subst⁻¹ (λ (d : Bay). T (excludes d.rights.grants a)) p (added_old (λ o. covers o Clear a) (λ x. x) g (grants_at l k) t))
    here seal e p t = inl (subst⁻¹ (λ (d : Bay). T (excludes d.rights.grants a)) p t)
    here close e p t = inr (λ bs. wiped_zero (grants_at l k) bs a t)

pub shared_length : (k : ℕ) (o : Shared) (l : List Bay) (bs : List ℕ) → length (bytes_after o (bay_at l k) bs) ≡ length bs
shared_length k open_bay l bs = refl
shared_length k (grant g) l bs = refl
shared_length k seal l bs = refl
shared_length k close l bs = length_wiped (grants_at l k) 0 bs

pub shared_cong : (k : ℕ) (o : Shared) (l : List Bay) (bs cs : List ℕ) (a : ℕ) → get_or bs a 0 ≡ get_or cs a 0 → get_or (bytes_after o (bay_at l k) bs) a 0 ≡ get_or (bytes_after o (bay_at l k) cs) a 0
shared_cong k open_bay l bs cs a e = e
shared_cong k (grant g) l bs cs a e = e
shared_cong k seal l bs cs a e = e
shared_cong k close l bs cs a e =
    get_wiped (grants_at l k) bs a ∙ ap (λ (x : ℕ). cond (excludes (grants_at l k) a) 0 x) e ∙ sym (get_wiped (grants_at l k) cs a)

pub shared_frame : (k : ℕ) (o : Shared) (l : List Bay) (bs : List ℕ) (a : ℕ) → (T (excludes (grants_at l k) a) → ⊥) → get_or (bytes_after o (bay_at l k) bs) a 0 ≡ get_or bs a 0
shared_frame k open_bay l bs a n = refl
shared_frame k (grant g) l bs a n = refl
shared_frame k seal l bs a n = refl
shared_frame k close l bs a n = wiped_frame (grants_at l k) bs a n
