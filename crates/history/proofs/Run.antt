-- Whole histories.
use Rattle.std.proofs.Common.{◌≡◌, ℕ, Bool, true, false, cond, not, T, eqb, ◌≢◌, List, [], ◌∷◌, refl, subst, T_not}
use lib.Dec.{eqb_refl}
use Rattle.bays.specs.declared.stage.Stage.{Stage}
use Rattle.history.proofs.Ever.{grants_at, ever_holds}
use Rattle.history.proofs.Basics.{by_test, or_left, or_right}
use Rattle.history.proofs.Ledger.{Sound, sound_act}
use Rattle.history.proofs.Sim.{Sim, Kept, kept_act, struck_own}
use Rattle.bays.specs.Grants.{holds}
use Rattle.history.specs.Calls.{Act, Answer, Call, own, shared}
use Rattle.history.specs.Hall.{Hall, apply, apply_act}
use Rattle.history.specs.History.{after, heard, keeps, keeps_act, struck}

pub sound_call : (c : Call) (H : Hall) → Sound H.bays → Sound (apply c H).hall.bays
sound_call c H G = sound_act c.bay c.held c.act H G

kept_call : (w : ℕ) (Q : ℕ → Type 0) (c : Call) → T (keeps w c) → (H K : Hall) → Sound H.bays
    → ((a : ℕ) → T (holds (grants_at H.bays w) a) → Q a) → Sim w Q H K → Kept w Q (apply c H) (apply c K)
kept_call w Q c t H K G f S = kept_act w Q c.bay c.held c.act t H K G f S

differs : (k w : ℕ) → T (not (eqb k w)) → k ≢ w
differs k w t e = T_not (eqb k w) t (subst (λ (x : ℕ). T (eqb k x)) e (eqb_refl k))

struck_act : (w : ℕ) (Q : ℕ → Type 0) (k : ℕ) (s : Stage) (c : Act) → T (not (keeps_act w k c)) → (H K : Hall) → Sim w Q H K → Sim w Q (apply_act k s c H).hall K
struck_act w Q k s (own i) t H K S = struck_own w Q k s i H K (differs k w t) S
struck_act w Q k s (shared o) t H K S = absurd t

struck_call : (w : ℕ) (Q : ℕ → Type 0) (c : Call) → T (not (keeps w c)) → (H K : Hall) → Sim w Q H K → Sim w Q (apply c H).hall K
struck_call w Q c t H K S = struck_act w Q c.bay c.held c.act t H K S

-- a struck call is not of the watched bay
struck_other : (w k : ℕ) (c : Act) → T (not (keeps_act w k c)) → T (not (eqb k w))
struck_other w k (own i) t = t
struck_other w k (shared o) t = absurd t

pub record Paired (w : ℕ) (Q : ℕ → Type 0) (xs ys : List Answer) (H K : Hall) : Type 0 where
  pub answers : xs ≡ ys
  pub sim : Sim w Q H K

one_more : (b : Bool) (x y : Answer) (xs ys : List Answer) → x ≡ y → xs ≡ ys → cond b (x ∷ xs) xs ≡ cond b (y ∷ ys) ys
one_more true x y xs ys p q = λ i. p i ∷ q i
one_more false x y xs ys p q = q

passed_over : (b : Bool) (x : Answer) (xs ys : List Answer) → T (not b) → xs ≡ ys → cond b (x ∷ xs) xs ≡ ys
passed_over true x xs ys t q = absurd t
passed_over false x xs ys t q = q

-- a history in one hall, and the same history struck in the other
pub paired : (w : ℕ) (Q : ℕ → Type 0) (h : List Call) (H K : Hall) → Sound H.bays → ((a : ℕ) → T (ever_holds w a h H) → Q a) → Sim w Q H K
    → Paired w Q (heard w h H) (heard w (struck w h) K) (after h H) (after (struck w h) K)
paired w Q [] H K G f S = record { answers = refl; sim = S }
paired w Q (c ∷ h) H K G f S =
    by_test (λ (m : List Call). Paired w Q (heard w (c ∷ h) H) (heard w m K) (after (c ∷ h) H) (after m K)) (keeps w c) _ _
    (λ t.
    let p : Kept w Q (apply c H) (apply c K) = kept_call w Q c t H K G (λ a u. f a (or_left _ _ u)) S in
    let r : Paired w Q (heard w h (apply c H).hall) (heard w (struck w h) (apply c K).hall) (after h (apply c H).hall) (after (struck w h) (apply c K).hall)
    = paired w Q h (apply c H).hall (apply c K).hall (sound_call c H G) (λ a u. f a (or_right _ _ u)) p.sim in
    record { answers = one_more (eqb c.bay w) _ _ _ _ p.answer r.answers; sim = r.sim })
    (λ t.
    let r : Paired w Q (heard w h (apply c H).hall) (heard w (struck w h) K) (after h (apply c H).hall) (after (struck w h) K)
    = paired w Q h (apply c H).hall K (sound_call c H G) (λ a u. f a (or_right _ _ u)) (struck_call w Q c t H K S) in
    record { answers = passed_over (eqb c.bay w) _ _ _ (struck_other w c.bay c.act t) r.answers; sim = r.sim })
