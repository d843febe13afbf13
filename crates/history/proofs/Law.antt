-- The three laws.
use Rattle.std.proofs.Common.{◌≡◌, ℕ, zero, suc, T, ◌⊎◌, List, [], ◌∷◌, length, get_or, replicate, Some, None, Option, sym, refl, ap, ◌∙◌, subst, inl, inr, ext_get_or}
use mathlib.Core.Path.{subst⁻¹}
use Rattle.bays.specs.declared.bay.Bay.{Bay}
use Rattle.book.specs.declared.tables.Tables.{Tables}
use Rattle.bays.specs.declared.stage.Stage.{Stage}
use Rattle.bays.specs.declared.refusal.Refusal.{Refusal}
use Rattle.history.proofs.Entries.{Entry, entries, same_entry}
use Rattle.history.proofs.Ever.{grants_at, ever_excludes}
use Rattle.history.proofs.Words.{ever_granted, ever_granted_exclusively, granted_ever_excludes, still_under}
use Rattle.history.proofs.Exchanges.{rearranged}
use Rattle.history.proofs.Basics.{by_test, test, or_left, or_right, or_cases, excludes_holds}
use Rattle.history.proofs.Local.{outcome_frame}
use Rattle.history.proofs.Ledger.{Sound, held_on, shared_frame}
use Rattle.history.proofs.Sim.{Sim, still}
use Rattle.history.proofs.Run.{sound_call, Paired, paired}
use Rattle.bays.specs.Bays.{bay_at, free}
use Rattle.bays.specs.Grants.{holds, excludes}
use Rattle.bays.specs.Stages.{at_stage}
use Rattle.history.specs.Calls.{Act, Call, Shared, own, shared}
use Rattle.history.specs.Hall.{Hall, CallEnd, apply, apply_act, new, end_of, program_of, settle, stage_for, verdict}
use Rattle.history.specs.History.{after, granted, heard, struck}
use Rattle.history.specs.Laws.{Confinement, Exchange, Isolation, Order}

getD_all : {A : Type 0} (x : A) (n k : ℕ) → get_or (replicate n x) k x ≡ x
getD_all x zero k = refl
getD_all x (suc n) zero = refl
getD_all x (suc n) (suc k) = getD_all x n k

new_bay : (k : ℕ) → bay_at (replicate 8 free) k ≡ free
unfolding bay_at
new_bay zero = refl
new_bay (suc k) = getD_all free 8 k

sound_new : (b : Tables) (s : List ℕ) → Sound (new b s).bays
sound_new b s = record {
  bare = λ k a t u. subst (λ (d : Bay). T (holds d.rights.grants a)) (new_bay k) u;
  apart = λ k j a n t u. subst (λ (d : Bay). T (holds d.rights.grants a)) (new_bay j) u;
}

sound_run : (h : List Call) (H : Hall) → Sound H.bays → Sound (after h H).bays
sound_run [] H G = G
sound_run (c ∷ h) H G = sound_run h (apply c H).hall (sound_call c H G)

abbrev All : ℕ → Type 0
All a = Unit {0}

sim_new : (b : Tables) (w : ℕ) (Q : ℕ → Type 0) (s s' : List ℕ) → length s ≡ length s' → ((a : ℕ) → Q a → get_or s a 0 ≡ get_or s' a 0) → Sim w Q (new b s) (new b s')
sim_new b w Q s s' n f = record { books = refl; ledgers = refl; program = refl; lengths = n; at = λ a q. inr (f a q) }

-- a history against itself struck, over one store
alone : (b : Tables) (w : ℕ) (h : List Call) (s : List ℕ) → Paired w All (heard w h (new b s)) (heard w (struck w h) (new b s)) (after h (new b s)) (after (struck w h) (new b s))
alone b w h s = paired w All h (new b s) (new b s) (sound_new b s) (λ a t. tt) (sim_new b w All s s refl (λ a q. refl))

no_grants : (b : Tables) (s : List ℕ) (w a : ℕ) → T (holds (grants_at (new b s).bays w) a) → ⊥
no_grants b s w a t = subst (λ (d : Bay). T (holds d.rights.grants a)) (new_bay w) t

pub isolation : Isolation
isolation b w h h' s s' n n' e f =
    (paired w (λ a. T (granted w a h (new b s))) h (new b s) (new b s') (sound_new b s)
    (λ a t. elim (ever_granted w a h (new b s) t) [ inl u ↦ absurd (no_grants b s w a u) | inr u ↦ u ])
    (sim_new b w _ s s' (n ∙ sym n') f)).answers
    ∙ ap (λ (m : List Call). heard w m (new b s')) e
    ∙ sym (alone b w h' s').answers

module _ (b : Tables) (h h' : List Call) (s : List ℕ) (e : (w : ℕ) → struck w h ≡ struck w h') where
  sim : (w : ℕ) → Sim w All (after h (new b s)) (after (struck w h) (new b s))
  sim w = (alone b w h s).sim

  sim' : (w : ℕ) → Sim w All (after h' (new b s)) (after (struck w h) (new b s))
  sim' w = subst⁻¹ (λ (m : List Call). Sim w All (after h' (new b s)) (after m (new b s))) (e w) (alone b w h' s).sim

  same_ledger : entries (after h (new b s)).bays ≡ entries (after h' (new b s)).bays
  same_ledger = (sim 0).ledgers ∙ sym (sim' 0).ledgers

  -- a byte that the bay k may write
  owned : (a k : ℕ) → T (excludes (grants_at (after h (new b s)).bays k) a) → get_or (after h (new b s)).bytes a 0 ≡ get_or (after h' (new b s)).bytes a 0
  owned a k t =
      elim ((sim k).at a tt) [
        | inl o ↦ absurd ((sound_run h (new b s) (sound_new b s)).apart o.0 k a o.1 o.2 (excludes_holds (grants_at (after h (new b s)).bays k) a t))
        | inr p ↦ elim ((sim' k).at a tt) [
          | inl o ↦ absurd ((sound_run h' (new b s) (sound_new b s)).apart o.0 k a o.1 o.2
              (excludes_holds (grants_at (after h' (new b s)).bays k) a (subst (λ (d : Entry). T (excludes d.rights.grants a)) (same_entry _ _ same_ledger k) t)))
          | inr q ↦ p ∙ sym q
        ]
      ]

  same_byte : (a : ℕ) → get_or (after h (new b s)).bytes a 0 ≡ get_or (after h' (new b s)).bytes a 0
  same_byte a =
      elim ((sim 0).at a tt) [
        | inl o ↦ owned a o.0 o.2
        | inr p ↦ elim ((sim' 0).at a tt) [
          | inl o ↦ owned a o.0 (subst⁻¹ (λ (d : Entry). T (excludes d.rights.grants a)) (same_entry _ _ same_ledger o.0) o.2)
          | inr q ↦ p ∙ sym q
        ]
      ]

  same_bytes : (after h (new b s)).bytes ≡ (after h' (new b s)).bytes
  same_bytes = ext_get_or 0 _ _ ((sim 0).lengths ∙ sym (sim' 0).lengths) (λ a n. same_byte a)

pub order : Order
order b h h' s e =
    (λ w. (alone b w h s).answers ∙ ap (λ (m : List Call). heard w m (new b s)) (e w) ∙ sym (alone b w h' s).answers, same_bytes b h h' s e)

-- confinement
frame_settle : (k : ℕ) (o : Shared) (H : Hall) (a : ℕ) (v : Option Refusal) → (T (excludes (grants_at H.bays k) a) → ⊥) → get_or (settle v k o H).hall.bytes a 0 ≡ get_or H.bytes a 0
frame_settle k o H a None n = shared_frame k o H.bays H.bytes a n
frame_settle k o H a (Some r) n = refl

frame_act : (k : ℕ) (s : Stage) (c : Act) (H : Hall) (a : ℕ) → (T (excludes (grants_at H.bays k) a) → ⊥) → get_or (apply_act k s c H).hall.bytes a 0 ≡ get_or H.bytes a 0
frame_act k s (own i) H a n =
    by_test (λ (t : CallEnd). get_or t.hall.bytes a 0 ≡ get_or H.bytes a 0) (at_stage (stage_for i s) (bay_at H.bays k).stage) _ _
    (λ t. outcome_frame H.book (bay_at H.bays k).rights (program_of (bay_at H.bays k)) H.bytes i a n) (λ t. refl)
frame_act k s (shared o) H a n = frame_settle k o H a (verdict k s o H.bays) n

frame_call : (c : Call) (H : Hall) (a : ℕ) → (T (excludes (grants_at H.bays c.bay) a) → ⊥) → get_or (apply c H).hall.bytes a 0 ≡ get_or H.bytes a 0
frame_call c H a n = frame_act c.bay c.held c.act H a n

never : (a : ℕ) (h : List Call) (H : Hall) → ((k : ℕ) → T (ever_excludes k a h H) → ⊥) → get_or (after h H).bytes a 0 ≡ get_or H.bytes a 0
never a [] H n = refl
never a (c ∷ h) H n =
    never a h (apply c H).hall (λ k t. n k (or_right _ _ t)) ∙ frame_call c H a (λ t. n c.bay (or_left _ _ t))

-- a byte is under a write grant, or zero
abbrev Zero : ℕ → Hall → Type 0
Zero a H = ((k : ℕ) × T (excludes (grants_at H.bays k) a)) ⊎ (get_or H.bytes a 0 ≡ 0)

zero_settle : (a k : ℕ) (s : Stage) (o : Shared) (H : Hall) (v : Option Refusal) → verdict k s o H.bays ≡ v → Sound H.bays → Zero a H → Zero a (settle v k o H).hall
zero_settle a k s o H (Some r) e G z = z
zero_settle a k s o H None e G (inl x) = elim (held_on k s o H.bays e G x.0 a x.1) [ inl t ↦ inl (x.0, t) | inr f ↦ inr (f H.bytes) ]
zero_settle a k s o H None e G (inr z) =
    elim (test (excludes (grants_at H.bays k) a)) [
      | inl t ↦ elim (held_on k s o H.bays e G k a t) [ inl u ↦ inl (k, u) | inr f ↦ inr (f H.bytes) ]
      | inr n ↦ inr (shared_frame k o H.bays H.bytes a n ∙ z)
    ]

zero_act : (a k : ℕ) (s : Stage) (c : Act) (H : Hall) → Sound H.bays → Zero a H → Zero a (apply_act k s c H).hall
zero_act a k s (shared o) H G z = zero_settle a k s o H (verdict k s o H.bays) refl G z
zero_act a k s (own i) H G z =
    by_test (λ (t : CallEnd). Zero a t.hall) (at_stage (stage_for i s) (bay_at H.bays k).stage) _ _
    (λ t. elim z [
      | inl x ↦ inl (x.0, still H.bays k (end_of i H.book (bay_at H.bays k).rights (program_of (bay_at H.bays k)) H.bytes).program x.0 a x.1)
      | inr e ↦ elim (test (excludes (grants_at H.bays k) a)) [
        | inl u ↦ inl (k, still H.bays k (end_of i H.book (bay_at H.bays k).rights (program_of (bay_at H.bays k)) H.bytes).program k a u)
        | inr n ↦ inr (outcome_frame H.book (bay_at H.bays k).rights (program_of (bay_at H.bays k)) H.bytes i a n ∙ e)
      ]
    ])
    (λ t. z)

zero_call : (a : ℕ) (c : Call) (H : Hall) → Sound H.bays → Zero a H → Zero a (apply c H).hall
zero_call a c H G z = zero_act a c.bay c.held c.act H G z

zero_run : (a : ℕ) (h : List Call) (H : Hall) → Sound H.bays → Zero a H → Zero a (after h H)
zero_run a [] H G z = z
zero_run a (c ∷ h) H G z = zero_run a h (apply c H).hall (sound_call c H G) (zero_call a c H G z)

once : (a k : ℕ) (h : List Call) (H : Hall) → Sound H.bays → T (ever_excludes k a h H) → Zero a (after h H)
once a k [] H G t = inl (k, t)
once a k (c ∷ h) H G t =
    elim (or_cases _ _ t) [
      | inl u ↦ zero_run a (c ∷ h) H G (inl (k, u))
      | inr u ↦ once a k h (apply c H).hall (sound_call c H G) u
    ]

pub exchanges : Exchange
exchanges b h h' s r = order b h h' s (λ w. rearranged w r)

pub confinement : Confinement
confinement b h s a = (
  λ n. never a h (new b s) (λ k t. elim (ever_granted_exclusively k a h (new b s) t)
      [ inl u ↦ no_grants b s k a (excludes_holds (grants_at (new b s).bays k) a u) | inr u ↦ n k u ]),
  λ k t n. elim (once a k h (new b s) (sound_new b s) (granted_ever_excludes k a h (new b s) t))
      [ inl x ↦ absurd (n x.0 (still_under x.0 a _ h (new b s) (λ u. no_grants b s x.0 a (excludes_holds (grants_at (new b s).bays x.0) a u)) x.1)) | inr z ↦ z ],
)
