-- What the store stands on, before a call and after.
use Rattle.std.proofs.Common.{◌≡◌, ◌==◌, ◌&&◌, ◌||◌, ℕ, Bool, true, false, cond, not, List, [], ◌∷◌, Some, None, Option, refl, ap, ◌∙◌}
use Rattle.bays.specs.Bays.{bay_at}
use Rattle.bays.specs.Stages.{at_stage}
use Rattle.bays.specs.declared.refusal.Refusal.{Refusal}
use Rattle.history.specs.Calls.{Act, Answer, Call, Shared, call, own, refused, shared}
use Rattle.history.specs.Hall.{Hall, CallEnd, apply, call_end, over, end_of, program_of, settle, settle_own, stage_for, verdict}
use Rattle.history.specs.History.{after, answers, granted, granted_exclusively, grants_byte, grants_exclusively, heard, is_close, not_refused, under_exclusive}
use Rattle.history.specs.Laws.{AnyFooting, FootingUnheard}

abbrev pub end_over : List ℕ → CallEnd → CallEnd
end_over m t = call_end t.answer (over m t.hall)

pub apply_over : (m : List ℕ) (c : Call) (H : Hall) → apply c (over m H) ≡ end_over m (apply c H)
apply_over m c H = by_act c.act
  where
    by_refusal : (o : Shared) (r : Option Refusal) → settle r c.bay o (over m H) ≡ end_over m (settle r c.bay o H)
    by_refusal o None = refl
    by_refusal o (Some e) = refl

    by_stage : (b : Bool) (t u : CallEnd) → cond b (end_over m t) (end_over m u) ≡ end_over m (cond b t u)
    by_stage true t u = refl
    by_stage false t u = refl

    by_act : (a : Act) → apply (call c.bay c.held a) (over m H) ≡ end_over m (apply (call c.bay c.held a) H)
    by_act (own i) =
        by_stage (at_stage (stage_for i c.held) (bay_at H.bays c.bay).stage)
        (settle_own c.bay H (end_of i H.book (bay_at H.bays c.bay).rights (program_of (bay_at H.bays c.bay)) H.bytes)) (call_end (refused 2) H)
    by_act (shared o) = by_refusal o (verdict c.bay c.held o H.bays)

pub any_footing : AnyFooting
any_footing m [] H = (refl, refl)
any_footing m (c ∷ h) H =
    let e = apply_over m c H in
    let i = any_footing m h (apply c H).hall in
    ((λ j. (e j).answer ∷ answers h (e j).hall) ∙ ap (λ (l : List Answer). (apply c H).answer ∷ l) i.0, ap (λ (t : CallEnd). after h t.hall) e ∙ i.1)

-- the same of what is asked of each call by its answer and of the rest by the hall after it
module _ (m : List ℕ) (w at : ℕ) where
  heard_over : (h : List Call) (H : Hall) → heard w h (over m H) ≡ heard w h H
  heard_over [] H = refl
  heard_over (c ∷ h) H =
      ap (λ (t : CallEnd). cond (c.bay == w) (t.answer ∷ heard w h t.hall) (heard w h t.hall)) (apply_over m c H)
      ∙ ap (λ (l : List Answer). cond (c.bay == w) ((apply c H).answer ∷ l) l) (heard_over h (apply c H).hall)

  granted_over : (h : List Call) (H : Hall) → granted w at h (over m H) ≡ granted w at h H
  granted_over [] H = refl
  granted_over (c ∷ h) H =
      ap (λ (t : CallEnd). (grants_byte at c.act && (c.bay == w && not_refused t.answer)) || granted w at h t.hall) (apply_over m c H)
      ∙ ap (λ (b : Bool). (grants_byte at c.act && (c.bay == w && not_refused (apply c H).answer)) || b) (granted_over h (apply c H).hall)

  granted_exclusively_over : (h : List Call) (H : Hall) → granted_exclusively w at h (over m H) ≡ granted_exclusively w at h H
  granted_exclusively_over [] H = refl
  granted_exclusively_over (c ∷ h) H =
      ap (λ (t : CallEnd). (grants_exclusively at c.act && (c.bay == w && not_refused t.answer)) || granted_exclusively w at h t.hall) (apply_over m c H)
      ∙ ap (λ (b : Bool). (grants_exclusively at c.act && (c.bay == w && not_refused (apply c H).answer)) || b) (granted_exclusively_over h (apply c H).hall)

  under_exclusive_over : (h : List Call) (u : Bool) (H : Hall) → under_exclusive w at u h (over m H) ≡ under_exclusive w at u h H
  under_exclusive_over [] u H = refl
  under_exclusive_over (c ∷ h) u H =
      ap (λ (t : CallEnd). under_exclusive w at ((u || (grants_exclusively at c.act && (c.bay == w && not_refused t.answer))) && not (is_close c.act && (c.bay == w && not_refused t.answer))) h t.hall) (apply_over m c H)
      ∙ under_exclusive_over h _ (apply c H).hall

pub footing_unheard : FootingUnheard
footing_unheard m h H w at u = (heard_over m w at h H, (granted_over m w at h H, (granted_exclusively_over m w at h H, under_exclusive_over m w at h u H)))
