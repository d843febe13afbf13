-- Two halls that the bay w cannot tell apart, and one call in one of them or in both.
use Rattle.std.proofs.Common.{◌≡◌, ℕ, Bool, true, false, cond, T, ◌≢◌, ◌⊎◌, List, length, get_or, Some, None, Option, sym, refl, ap, ◌∙◌, subst, inl, inr, eqb→eq}
use mathlib.Core.Path.{subst⁻¹}
use Rattle.access.specs.declared.rights.Rights.{Rights}
use Rattle.bays.specs.declared.bay.Bay.{Bay}
use Rattle.bays.specs.declared.stage.Stage.{Stage}
use Rattle.bays.specs.declared.refusal.Refusal.{Refusal}
use Rattle.history.proofs.Basics.{by_test, test, excludes_holds}
use Rattle.history.proofs.Entries.{Entry, entry, entries, same_entry, same_length, same_put, same_verdict, changed_entries, changed_other, changed_program, get_put, program_put}
use Rattle.history.proofs.Ever.{grants_at}
use Rattle.history.proofs.Local.{Agree, Alike, outcome_local, outcome_frame, outcome_length}
use Rattle.history.proofs.Ledger.{Sound, held_on, shared_length, shared_cong}
use Rattle.bays.specs.Bays.{bay_at, put_bay}
use Rattle.bays.specs.Grants.{holds, excludes}
use Rattle.bays.specs.Stages.{at_stage}
use Rattle.history.specs.Calls.{Act, Own, Shared, close, grant, open_bay, own, seal, shared}
use Rattle.history.specs.Hall.{Hall, OwnEnd, Program, CallEnd, apply_act, apply_own, bay_after, bytes_after, changed, end_of, program_of, settle, settle_own, stage_for, verdict}
use Rattle.history.specs.History.{keeps_act}

-- another bay may write a
abbrev pub Other : ℕ → List Bay → ℕ → Type 0
Other w l a = (k : ℕ) × (k ≢ w) × T (excludes (grants_at l k) a)

pub record Sim (w : ℕ) (Q : ℕ → Type 0) (H K : Hall) : Type 0 where
  pub books : H.book ≡ K.book
  pub ledgers : entries H.bays ≡ entries K.bays
  pub program : program_of (bay_at H.bays w) ≡ program_of (bay_at K.bays w)
  pub lengths : length H.bytes ≡ length K.bytes
  pub at : (a : ℕ) → Q a → Other w H.bays a ⊎ (get_or H.bytes a 0 ≡ get_or K.bytes a 0)

-- the grants stay where only a program is put
pub still : (l : List Bay) (k : ℕ) (p : Option Program) (j a : ℕ) → T (excludes (grants_at l j) a) → T (excludes (grants_at (changed p l k) j) a)
still l k p j a t = subst⁻¹ (λ (d : Entry). T (excludes d.rights.grants a)) (same_entry (changed p l k) l (changed_entries l k p) j) t

others : (w : ℕ) (l : List Bay) (k : ℕ) (p : Option Program) (a : ℕ) → Other w l a → Other w (changed p l k) a
others w l k p a o = (o.0, o.1, still l k p o.0 a o.2)

-- a call of another bay, in the first hall alone
pub struck_own : (w : ℕ) (Q : ℕ → Type 0) (k : ℕ) (s : Stage) (i : Own) (H K : Hall) → k ≢ w → Sim w Q H K → Sim w Q (apply_own k s i H).hall K
struck_own w Q k s i H K n S =
    by_test (λ (t : CallEnd). Sim w Q t.hall K) (at_stage (stage_for i s) (bay_at H.bays k).stage) _ _
    (λ t. record {
      books = S.books;
      ledgers = changed_entries H.bays k q' ∙ S.ledgers;
      program = ap program_of (changed_other q' H.bays k w (λ e. n (sym e))) ∙ S.program;
      lengths = outcome_length H.book gs p H.bytes i ∙ S.lengths;
      at = λ a q. elim (test (excludes gs.grants a)) [
        | inl u ↦ inl (others w H.bays k q' a (k, n, u))
        | inr u ↦ elim (S.at a q) [ inl o ↦ inl (others w H.bays k q' a o) | inr e ↦ inr (outcome_frame H.book gs p H.bytes i a u ∙ e) ]
      ];
    })
    (λ t. S)
  where
    gs : Rights
    gs = (bay_at H.bays k).rights

    p : Program
    p = program_of (bay_at H.bays k)

    q' : Option Program
    q' = (end_of i H.book gs p H.bytes).program

-- both halls after one call
pub record Kept (w : ℕ) (Q : ℕ → Type 0) (t u : CallEnd) : Type 0 where
  pub sim : Sim w Q t.hall u.hall
  pub answer : t.answer ≡ u.answer

both : (R : CallEnd → CallEnd → Type 0) (b c : Bool) (x y x' y' : CallEnd) → b ≡ c → R x x' → R y y' → R (cond b x y) (cond c x' y')
both R b c x y x' y' e f g = subst (λ (d : Bool). R (cond b x y) (cond d x' y')) e (on b)
  where
    on : (b : Bool) → R (cond b x y) (cond b x' y')
    on true = f
    on false = g

-- what the bay may read is the same in both
agrees : (w : ℕ) (Q : ℕ → Type 0) (H K : Hall) → Sound H.bays → ((a : ℕ) → T (holds (grants_at H.bays w) a) → Q a) → Sim w Q H K
    → Agree (bay_at H.bays w).rights H.bytes K.bytes
agrees w Q H K G f S = record {
  lengths = S.lengths;
  at = λ a t. elim (S.at a (f a t)) [ inl o ↦ absurd (G.apart o.0 w a o.1 o.2 t) | inr e ↦ e ];
}

own_outcomes : (w : ℕ) (Q : ℕ → Type 0) (H K : Hall) (e f : OwnEnd) → Sim w Q H K → Alike (bay_at H.bays w).rights e f
    → ((a : ℕ) → (T (excludes (grants_at H.bays w) a) → ⊥) → get_or e.bytes a 0 ≡ get_or H.bytes a 0)
    → ((a : ℕ) → (T (excludes (grants_at H.bays w) a) → ⊥) → get_or f.bytes a 0 ≡ get_or K.bytes a 0)
    → Kept w Q (settle_own w H e) (settle_own w K f)
own_outcomes w Q H K e f S A fe ff = record {
  sim = record {
    books = S.books;
    ledgers = changed_entries H.bays w e.program ∙ S.ledgers ∙ sym (changed_entries K.bays w f.program);
    program = changed_program e.program f.program H.bays K.bays w (same_length H.bays K.bays S.ledgers) A.program S.program;
    lengths = A.agree.lengths;
    at = λ a q. elim (test (holds (grants_at H.bays w) a)) [
      | inl t ↦ inr (A.agree.at a t)
      | inr n ↦ elim (S.at a q) [
        | inl o ↦ inl (others w H.bays w e.program a o)
        | inr x ↦ inr (fe a (λ t. n (excludes_holds (grants_at H.bays w) a t)) ∙ x ∙ sym (ff a (λ t. n (excludes_holds (grants_at H.bays w) a t))))
      ]
    ];
  };
  answer = A.answer;
}

-- a call of the watched bay in both
kept_own : (w : ℕ) (Q : ℕ → Type 0) (s : Stage) (i : Own) (H K : Hall) → Sound H.bays → ((a : ℕ) → T (holds (grants_at H.bays w) a) → Q a)
    → Sim w Q H K → Kept w Q (apply_own w s i H) (apply_own w s i K)
kept_own w Q s i H K G f S =
    both (Kept w Q) (at_stage (stage_for i s) (bay_at H.bays w).stage) (at_stage (stage_for i s) (bay_at K.bays w).stage) _ _ _ _
    (λ j. at_stage (stage_for i s) (d j).stage)
    (own_outcomes w Q H K _ _ S
    (subst (λ (x : OwnEnd). Alike gs (end_of i H.book gs p H.bytes) x) (λ j. end_of i (S.books j) (d j).rights (S.program j) K.bytes)
    (outcome_local H.book gs p H.bytes K.bytes (agrees w Q H K G f S) i))
    (λ a n. outcome_frame H.book gs p H.bytes i a n)
    (λ a n. outcome_frame K.book (bay_at K.bays w).rights (program_of (bay_at K.bays w)) K.bytes i a
    (subst (λ (x : Entry). T (excludes x.rights.grants a) → ⊥) d n)))
    (record { sim = S; answer = refl })
  where
    gs : Rights
    gs = (bay_at H.bays w).rights

    p : Program
    p = program_of (bay_at H.bays w)

    d : entry (bay_at H.bays w) ≡ entry (bay_at K.bays w)
    d = same_entry H.bays K.bays S.ledgers w

-- what open, grant, seal and close make of a bay
entry_after : (o : Shared) (b c : Bay) → entry b ≡ entry c → entry (bay_after o b) ≡ entry (bay_after o c)
entry_after open_bay b c e = refl
entry_after (grant g) b c e = λ i. entry (bay_after (grant g) (record b { stage = (e i).stage; rights = (e i).rights }))
entry_after seal b c e = λ i. entry (bay_after seal (record b { stage = (e i).stage; rights = (e i).rights }))
entry_after close b c e = refl

program_still : (w k : ℕ) (l : List Bay) (b : Bay) → program_of b ≡ program_of (bay_at l k) → program_of (bay_at (put_bay l k b) w) ≡ program_of (bay_at l w)
program_still w k l b e = elim (get_put b l k w) [ inl p ↦ ap program_of p.1 ∙ e ∙ ap (λ (x : ℕ). program_of (bay_at l x)) (sym p.0) | inr q ↦ ap program_of q ]

kept_at : (w k : ℕ) (l m : List Bay) (b c : Bay) → program_of b ≡ program_of (bay_at l k) → program_of c ≡ program_of (bay_at m k) → program_of (bay_at l w) ≡ program_of (bay_at m w)
    → program_of (bay_at (put_bay l k b) w) ≡ program_of (bay_at (put_bay m k c) w)
kept_at w k l m b c f g e = program_still w k l b f ∙ e ∙ sym (program_still w k m c g)

program_after : (w k : ℕ) (o : Shared) (l m : List Bay) → entries l ≡ entries m → program_of (bay_at l w) ≡ program_of (bay_at m w)
    → program_of (bay_at (put_bay l k (bay_after o (bay_at l k))) w) ≡ program_of (bay_at (put_bay m k (bay_after o (bay_at m k))) w)
program_after w k open_bay l m n e = program_put _ _ l m k w (same_length l m n) refl e
program_after w k (grant g) l m n e = kept_at w k l m (bay_after (grant g) (bay_at l k)) (bay_after (grant g) (bay_at m k)) refl refl e
program_after w k seal l m n e = kept_at w k l m (bay_after seal (bay_at l k)) (bay_after seal (bay_at m k)) refl refl e
program_after w k close l m n e = program_put _ _ l m k w (same_length l m n) refl e

same_bytes_after : (o : Shared) (b c : Bay) (bs : List ℕ) → entry b ≡ entry c → bytes_after o b bs ≡ bytes_after o c bs
same_bytes_after open_bay b c bs e = refl
same_bytes_after (grant g) b c bs e = refl
same_bytes_after seal b c bs e = refl
same_bytes_after close b c bs e = λ i. bytes_after close (record b { stage = (e i).stage; rights = (e i).rights }) bs

-- an open, grant, seal or close of any bay in both
kept_shared : (w : ℕ) (Q : ℕ → Type 0) (k : ℕ) (s : Stage) (o : Shared) (H K : Hall) → Sound H.bays → Sim w Q H K
    → (v : Option Refusal) → verdict k s o H.bays ≡ v → Kept w Q (settle v k o H) (settle v k o K)
kept_shared w Q k s o H K G S (Some n) e = record { sim = S; answer = refl }
kept_shared w Q k s o H K G S None e = record {
  sim = record {
    books = S.books;
    ledgers = same_put H.bays K.bays S.ledgers k _ _ (entry_after o (bay_at H.bays k) (bay_at K.bays k) d);
    program = program_after w k o H.bays K.bays S.ledgers S.program;
    lengths = shared_length k o H.bays H.bytes ∙ S.lengths ∙ sym (shared_length k o K.bays K.bytes);
    at = λ a q. elim (S.at a q) [
      | inl x ↦ elim (held_on k s o H.bays e G x.0 a x.2) [
        | inl t ↦ inl (x.0, x.1, t)
        | inr z ↦ inr (z H.bytes ∙ sym (z K.bytes) ∙ ap (λ (l : List ℕ). get_or l a 0) (same_bytes_after o _ _ K.bytes d))
      ]
      | inr x ↦ inr (shared_cong k o H.bays H.bytes K.bytes a x ∙ ap (λ (l : List ℕ). get_or l a 0) (same_bytes_after o _ _ K.bytes d))
    ];
  };
  answer = refl;
}
  where
    d : entry (bay_at H.bays k) ≡ entry (bay_at K.bays k)
    d = same_entry H.bays K.bays S.ledgers k

pub kept_act : (w : ℕ) (Q : ℕ → Type 0) (k : ℕ) (s : Stage) (c : Act) → T (keeps_act w k c) → (H K : Hall) → Sound H.bays
    → ((a : ℕ) → T (holds (grants_at H.bays w) a) → Q a)
    → Sim w Q H K → Kept w Q (apply_act k s c H) (apply_act k s c K)
kept_act w Q k s (own i) t H K G f S =
    subst⁻¹ (λ (x : ℕ). Kept w Q (apply_own x s i H) (apply_own x s i K)) (eqb→eq k w t) (kept_own w Q s i H K G f S)
kept_act w Q k s (shared o) t H K G f S =
    subst (λ (v : Option Refusal). Kept w Q (apply_act k s (shared o) H) (settle v k o K)) (same_verdict H.bays K.bays S.ledgers k s o)
    (kept_shared w Q k s o H K G S (verdict k s o H.bays) refl)
