-- The ledger covers what the accepted calls say.
use Rattle.std.proofs.Common.{◌≡◌, ℕ, zero, suc, Bool, true, not, ◌&&◌, ◌||◌, T, eqb, leb, ◌⊎◌, List, [], ◌∷◌, get_or, set, replicate, Some, None, Option, refl, subst, inl, inr, eqb→eq}
use mathlib.Core.Path.{subst⁻¹}
use lib.Dec.{not_T, eqb_refl}
use Rattle.access.specs.declared.rights.Grant.{Grant}
use Rattle.bays.specs.declared.bay.Bay.{Bay}
use Rattle.bays.specs.declared.stage.Stage.{Stage}
use Rattle.bays.specs.declared.stage.Stage.TheVariants.{Preparing}
use Rattle.bays.specs.declared.refusal.Refusal.{Refusal}
use Rattle.bays.specs.declared.refusal.Refusal.TheVariants.{OtherStage, Reversed, Full}
use Rattle.history.proofs.Basics.{by_test, or_left, or_right, or_cases, and_left, and_right, and_both, added_cases, added_new, covers_exclusively, has_covers}
use Rattle.history.proofs.Entries.{Entry, same_entry, changed_entries, get_put}
use Rattle.history.proofs.Ledger.{grant_room, passed}
use Rattle.history.proofs.Ever.{grants_at, stage_at, ever, ever_holds, ever_excludes}
use Rattle.access.specs.declared.kind.Use.TheVariants.{Clear}
use Rattle.bays.specs.Bays.{bay_at, free, put_bay}
use Rattle.bays.specs.Grants.{added, excludes, has, holds, passes, room}
use Rattle.access.specs.Access.{covers}
use Rattle.access.specs.Kinds.{permits}
use Rattle.bays.specs.Stages.{at_stage}
use Rattle.history.specs.Calls.{Act, Call, Shared, close, grant, open_bay, own, seal, shared}
use Rattle.history.specs.Hall.{Hall, CallEnd, apply, apply_act, bay_after, end_of, program_of, settle, stage_for, verdict}
use Rattle.history.specs.History.{accepted, after, granted as granted-to, granted_exclusively, grants_byte, grants_exclusively, is_close, not_refused, under_exclusive}

-- a bay that is not free has its place in the list
here_set : (s : Stage) (d : Bay) (l : List Bay) (k : ℕ) → T (at_stage s (get_or l k free).stage) → get_or (set l k d) k free ≡ d
here_set s d [] k t = absurd t
here_set s d (x ∷ l) zero t = refl
here_set s d (x ∷ l) (suc k) t = here_set s d l k t

here : (s : Stage) (d : Bay) (l : List Bay) (k : ℕ) → T (at_stage s (stage_at l k)) → bay_at (put_bay l k d) k ≡ d
unfolding bay_at put_bay
here s d l zero t = absurd t
here s d l (suc k) t = here_set s d l k t

accepted_at : (k : ℕ) (s : Stage) (g : Grant) (l : List Bay) → verdict k s (grant g) l ≡ None → T (at_stage Preparing (stage_at l k))
accepted_at k s g l e = (passed (at_stage Preparing (stage_at l k)) _ OtherStage e).0

closed_at : (k : ℕ) (s : Stage) (l : List Bay) → verdict k s close l ≡ None → T (at_stage s (stage_at l k))
closed_at k s l e = (passed (at_stage s (stage_at l k)) None OtherStage e).0

-- what is under a grant after a call was so before, or is granted by the call; for reads and for excludes alike
module _ (f : List (Option Grant) → Bool) (p : Act → Bool) (none-at : T (f (replicate 6 None)) → ⊥) (first : (g : Grant) (gs : List (Option Grant)) → T (f (added g gs)) → T (p (shared (grant g))) ⊎ T (f gs)) where
  grow_entry : (w k : ℕ) (o : Shared) (l : List Bay) → T (f (grants_at (put_bay l k (bay_after o (bay_at l k))) w)) → T (f (grants_at l w)) ⊎ (T (p (shared o)) × (w ≡ k))
  grow_entry w k o l t = elim (get_put (bay_after o (bay_at l k)) l k w) [
    | inl q ↦ there o q.0 (subst (λ (d : Bay). T (f d.rights.grants)) q.1 t)
    | inr q ↦ inl (subst (λ (d : Bay). T (f d.rights.grants)) q t)
  ]
    where
      there : (o : Shared) → w ≡ k → T (f (bay_after o (bay_at l k)).rights.grants) → T (f (grants_at l w)) ⊎ (T (p (shared o)) × (w ≡ k))
      there open_bay e t = absurd (none-at t)
      there (grant g) e t = elim (first g (grants_at l k) t) [ inl u ↦ inr (u, e) | inr u ↦ inl (subst⁻¹ (λ (x : ℕ). T (f (grants_at l x))) e u) ]
      there seal e t = inl (subst⁻¹ (λ (x : ℕ). T (f (grants_at l x))) e t)
      there close e t = absurd (none-at t)

  grow_settle : (w k : ℕ) (o : Shared) (H : Hall) (v : Option Refusal) → T (f (grants_at (settle v k o H).hall.bays w))
      → T (f (grants_at H.bays w)) ⊎ T (p (shared o) && (eqb k w && not_refused (settle v k o H).answer))
  grow_settle w k o H (Some n) t = inl t
  grow_settle w k o H None t = elim (grow_entry w k o H.bays t) [
    | inl u ↦ inl u
    | inr u ↦ inr (and_both (p (shared o)) _ u.0 (and_both (eqb k w) true (subst⁻¹ (λ (x : ℕ). T (eqb k x)) u.1 (eqb_refl k)) tt))
  ]

  grow_act : (w k : ℕ) (s : Stage) (c : Act) (H : Hall) → T (f (grants_at (apply_act k s c H).hall.bays w))
      → T (f (grants_at H.bays w)) ⊎ T (p c && (eqb k w && not_refused (apply_act k s c H).answer))
  grow_act w k s (own i) H t = inl (by_test (λ (r : CallEnd). T (f (grants_at r.hall.bays w)) → T (f (grants_at H.bays w))) (at_stage (stage_for i s) (stage_at H.bays k)) _ _
      (λ u x. subst (λ (d : Entry). T (f d.rights.grants)) (same_entry _ H.bays (changed_entries H.bays k (end_of i H.book (bay_at H.bays k).rights (program_of (bay_at H.bays k)) H.bytes).program) w) x) (λ u x. x) t)
  grow_act w k s (shared o) H t = grow_settle w k o H (verdict k s o H.bays) t

  grow : (w : ℕ) (c : Call) (H : Hall) → T (f (grants_at (apply c H).hall.bays w)) → T (f (grants_at H.bays w)) ⊎ T (p c.act && accepted w c H)
  grow w c H t = grow_act w c.bay c.held c.act H t

  -- so what ever was under a grant was so at the start, or is granted by a call
  ever_grow : (w : ℕ) (g : List Call → Hall → Bool) → ((c : Call) (h : List Call) (H : Hall) → T ((p c.act && accepted w c H) || g h (apply c H).hall) → T (g (c ∷ h) H))
      → (h : List Call) (H : Hall) → T (ever f w h H) → T (f (grants_at H.bays w)) ⊎ T (g h H)
  ever_grow w g more [] H t = inl t
  ever_grow w g more (c ∷ h) H t = elim (or_cases _ _ t) [
    | inl u ↦ inl u
    | inr u ↦ elim (ever_grow w g more h (apply c H).hall u) [
      | inl v ↦ elim (grow w c H v) [ inl x ↦ inl x | inr x ↦ inr (more c h H (or_left _ _ x)) ]
      | inr v ↦ inr (more c h H (or_right _ _ v))
    ]
  ]

holds_first : (a : ℕ) (g : Grant) (gs : List (Option Grant)) → T (holds (added g gs) a) → T (has g a) ⊎ T (holds gs a)
holds_first a g gs t = added_cases (passes (λ h. has h a)) (λ x. x) g gs t

excludes_first : (a : ℕ) (g : Grant) (gs : List (Option Grant)) → T (excludes (added g gs) a) → T (permits g.kind Clear && has g a) ⊎ T (excludes gs a)
excludes_first a g gs t = elim (added_cases (λ o. covers o Clear a) (λ x. x) g gs t) [ inl u ↦ inl (covers_exclusively g a u) | inr u ↦ inr u ]

excludes_grow : (w a : ℕ) (c : Call) (H : Hall) → T (excludes (grants_at (apply c H).hall.bays w) a) → T (excludes (grants_at H.bays w) a) ⊎ T (grants_exclusively a c.act && accepted w c H)
excludes_grow w a = grow (λ gs. excludes gs a) (grants_exclusively a) (λ t. t) (excludes_first a) w

pub ever_granted : (w a : ℕ) (h : List Call) (H : Hall) → T (ever_holds w a h H) → T (holds (grants_at H.bays w) a) ⊎ T (granted-to w a h H)
ever_granted w a = ever_grow (λ gs. holds gs a) (grants_byte a) (λ t. t) (holds_first a) w (granted-to w a) (λ c h H t. t)

pub ever_granted_exclusively : (w a : ℕ) (h : List Call) (H : Hall) → T (ever_excludes w a h H) → T (excludes (grants_at H.bays w) a) ⊎ T (granted_exclusively w a h H)
ever_granted_exclusively w a = ever_grow (λ gs. excludes gs a) (grants_exclusively a) (λ t. t) (excludes_first a) w (granted_exclusively w a) (λ c h H t. t)

-- an accepted grant stands in the ledger after it
gives_settle : (w a k : ℕ) (s : Stage) (o : Shared) (H : Hall) (v : Option Refusal) → verdict k s o H.bays ≡ v
    → T (grants_exclusively a (shared o)) → T (eqb k w) → T (not_refused (settle v k o H).answer) → T (excludes (grants_at (settle v k o H).hall.bays w) a)
gives_settle w a k s o H (Some n) e t u r = absurd r
gives_settle w a k s open_bay H None e t u r = absurd t
gives_settle w a k s (grant g) H None e t u r =
    subst (λ (x : ℕ). T (excludes (grants_at (settle None k (grant g) H).hall.bays x) a)) (eqb→eq k w u)
    (subst⁻¹ (λ (d : Bay). T (excludes d.rights.grants a)) (here Preparing _ H.bays k (accepted_at k s g H.bays e)) (added_new (λ o. covers o Clear a) (λ x. x) g (grants_at H.bays k) (grant_room k s g H.bays e) (has_covers g a t)))
gives_settle w a k s seal H None e t u r = absurd t
gives_settle w a k s close H None e t u r = absurd t

gives_act : (w a k : ℕ) (s : Stage) (c : Act) (H : Hall) → T (grants_exclusively a c) → T (eqb k w) → T (not_refused (apply_act k s c H).answer) → T (excludes (grants_at (apply_act k s c H).hall.bays w) a)
gives_act w a k s (own i) H t u r = absurd t
gives_act w a k s (shared o) H t u r = gives_settle w a k s o H (verdict k s o H.bays) refl t u r

gives : (w a : ℕ) (c : Call) (H : Hall) → T (grants_exclusively a c.act && accepted w c H) → T (excludes (grants_at (apply c H).hall.bays w) a)
gives w a c H t =
    gives_act w a c.bay c.held c.act H (and_left (grants_exclusively a c.act) _ t)
    (and_left (eqb c.bay w) _ (and_right (grants_exclusively a c.act) _ t)) (and_right (eqb c.bay w) _ (and_right (grants_exclusively a c.act) _ t))

now_ever : (w a : ℕ) (h : List Call) (H : Hall) → T (excludes (grants_at H.bays w) a) → T (ever_excludes w a h H)
now_ever w a [] H t = t
now_ever w a (c ∷ h) H t = or_left _ _ t

pub granted_ever_excludes : (w a : ℕ) (h : List Call) (H : Hall) → T (granted_exclusively w a h H) → T (ever_excludes w a h H)
granted_ever_excludes w a [] H t = absurd t
granted_ever_excludes w a (c ∷ h) H t = elim (or_cases _ _ t) [
  | inl u ↦ or_right (excludes (grants_at H.bays w) a) _ (now_ever w a h (apply c H).hall (gives w a c H u))
  | inr u ↦ or_right (excludes (grants_at H.bays w) a) _ (granted_ever_excludes w a h (apply c H).hall u)
]

-- an accepted close leaves None
ends_settle : (w a k : ℕ) (s : Stage) (o : Shared) (H : Hall) (v : Option Refusal) → verdict k s o H.bays ≡ v
    → T (is_close (shared o)) → T (eqb k w) → T (not_refused (settle v k o H).answer) → T (excludes (grants_at (settle v k o H).hall.bays w) a) → ⊥
ends_settle w a k s o H (Some n) e t u r = absurd r
ends_settle w a k s open_bay H None e t u r = absurd t
ends_settle w a k s (grant g) H None e t u r = absurd t
ends_settle w a k s seal H None e t u r = absurd t
ends_settle w a k s close H None e t u r = λ x.
    subst (λ (d : Bay). T (excludes d.rights.grants a)) (here s _ H.bays k (closed_at k s H.bays e))
    (subst⁻¹ (λ (y : ℕ). T (excludes (grants_at (settle None k close H).hall.bays y) a)) (eqb→eq k w u) x)

ends_act : (w a k : ℕ) (s : Stage) (c : Act) (H : Hall) → T (is_close c) → T (eqb k w) → T (not_refused (apply_act k s c H).answer) → T (excludes (grants_at (apply_act k s c H).hall.bays w) a) → ⊥
ends_act w a k s (own i) H t u r = absurd t
ends_act w a k s (shared o) H t u r = ends_settle w a k s o H (verdict k s o H.bays) refl t u r

ends : (w a : ℕ) (c : Call) (H : Hall) → T (is_close c.act && accepted w c H) → T (excludes (grants_at (apply c H).hall.bays w) a) → ⊥
ends w a c H t =
    ends_act w a c.bay c.held c.act H (and_left (is_close c.act) _ t)
    (and_left (eqb c.bay w) _ (and_right (is_close c.act) _ t)) (and_right (eqb c.bay w) _ (and_right (is_close c.act) _ t))

-- what the ledger has under a write grant at the end, the calls say to be so
pub still_under : (w a : ℕ) (u : Bool) (h : List Call) (H : Hall) → (T (excludes (grants_at H.bays w) a) → T u)
    → T (excludes (grants_at (after h H).bays w) a) → T (under_exclusive w a u h H)
still_under w a u [] H f t = f t
still_under w a u (c ∷ h) H f t =
    still_under w a ((u || (grants_exclusively a c.act && accepted w c H)) && not (is_close c.act && accepted w c H)) h (apply c H).hall
    (λ x. and_both (u || (grants_exclusively a c.act && accepted w c H)) _
    (elim (excludes_grow w a c H x) [ inl y ↦ or_left u _ (f y) | inr y ↦ or_right u _ y ])
    (not_T _ (λ y. ends w a c H y x)))
    t
