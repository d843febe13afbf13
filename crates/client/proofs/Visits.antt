-- What a visit's calls are answered.
use Rattle.std.proofs.Common.{◌≡◌, ℕ, Bool, true, false, cond, nat_le, List, length, Some, Ok, Err, ap, refl, ◌∙◌}
use Rattle.access.specs.declared.rights.Grant.{Grant}
use Rattle.bays.specs.Bays.{bay_at, put_bay}
use Rattle.bays.specs.declared.refusal.Refusal.TheVariants.{Reversed}
use Rattle.bays.specs.declared.stage.Stage.TheVariants as stage
use Rattle.book.specs.declared.tables.Tables.{Tables}
use Rattle.history.specs.Calls.{Answer, call, done, grant, open_bay, own, refused, seal, shared, turn}
use Rattle.history.specs.Hall.{Hall, CallEnd, apply, new, over, refusal_of, settle}
use Rattle.client.specs.Visits.{granted}
use Rattle.session.proofs.Stages as stages
use Rattle.session.proofs.Stages.{grant_keeps, opens, own_keeps, stage_of}

-- a visit's calls
abbrev pub opening : Hall → CallEnd
opening H = apply (call 1 stage.Preparing (shared open_bay)) H

abbrev granting : ℕ → Grant → Hall → CallEnd
granting m g H = apply (call m stage.Preparing (shared (grant g))) H

abbrev sealing : ℕ → Hall → CallEnd
sealing m H = apply (call m stage.Preparing (shared seal)) H

abbrev turning : ℕ → ℕ → Hall → CallEnd
turning m n H = apply (call m stage.Sealed (own (turn n))) H

pub open_done : (H : Hall) (m : List ℕ) (b : Tables) (bs : List ℕ) → H ≡ over m (new b bs) → (opening H).answer ≡ done
unfolding bay_at
open_done H m b bs e = ap (λ (G : Hall). (opening G).answer) e

pub grant_answer : (g : Grant) (m : List ℕ) (b : Tables) (bs : List ℕ) → (granted g (over m (new b bs))).answer ≡ cond (nat_le g.first g.last) done (refused 4)
unfolding bay_at put_bay
grant_answer g m b bs = by_test (nat_le g.first g.last)
  where
    H : Hall
    H = (opening (over m (new b bs))).hall

    by_test : (t : Bool) → (settle (refusal_of {T = ℕ} (cond t (Ok 0) (Err Reversed))) 1 (grant g) H).answer ≡ cond t done (refused 4)
    by_test true = refl
    by_test false = refl

-- the stages on the way: the handle's bay is the one that was opened, and its hall what each call left
pub prepared : (m : ℕ) (H K L : Hall) (g : Grant) → m ≡ 1 → K ≡ (opening H).hall → length K.bays ≡ 8 → done ≡ (opening H).answer → L ≡ (granting m g K).hall → stage_of L.bays m ≡ Some stage.Preparing
prepared m H K L g n k e a l = ap (λ (G : Hall). stage_of G.bays m) l ∙ grant_keeps m g K (ap (stage_of K.bays) n ∙ opens 1 H K k e a)

pub turned_stage : (k m n : ℕ) (L M P : Hall) → k ≡ m → stage_of L.bays m ≡ Some stage.Preparing → M ≡ (sealing m L).hall → P ≡ (turning k n M).hall → stage_of P.bays k ≡ Some stage.Sealed
turned_stage k m n L M P j e s p =
    ap (λ (G : Hall). stage_of G.bays k) p
    ∙ own_keeps k stage.Sealed (turn n) M k
    ∙ (λ i. stage_of (s i).bays (j i))
    ∙ stages.sealed m L e

pub seal_done : (n : ℕ) (H : Hall) → stage_of H.bays n ≡ Some stage.Preparing → (sealing n H).answer ≡ done
seal_done n H e = rw e refl

-- a grant's refusal is what its visit is answered
pub not_granted : (t : Bool) (k : ℕ) (x : Answer) → refused k ≡ cond t done (refused 4) → refused k ≡ cond t x (refused 4)
not_granted true k x e = cc
not_granted false k x e = e

-- what a grant by the handle is told in the hall that was made and opened
pub told_grant : (m : ℕ) (N H K : Hall) (g : Grant) → m ≡ 1 → H ≡ N → K ≡ (opening H).hall → granting m g K ≡ granted g N
told_grant m N H K g n h k = λ i. granting (n i) g ((k ∙ ap (λ (G : Hall). (opening G).hall) h) i)
