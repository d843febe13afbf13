-- What stage a bay has after a call.
use Rattle.std.proofs.Common.{◌≡◌, ℕ, zero, suc, ◌≢◌, ◌&&◌, ◌-◌, Bool, true, false, T, cond, is_some, leb, List, [], ◌∷◌, length, get_or, set, Some, None, Option, sym, refl, ap, ◌∙◌, arith, leb→le}
use Rattle.std.proofs.lemmas.List.{get_or-set_same, length-set}
use Rattle.access.specs.declared.rights.Grant.{Grant}
use Rattle.bays.specs.Bays.{bay_at, free, opened, place_of, put_bay, with_stage}
use Rattle.bays.specs.Stages.{at_stage, is_free}
use Rattle.bays.specs.declared.bay.Bay.{Bay}
use Rattle.bays.specs.declared.refusal.Refusal.{Refusal}
use Rattle.bays.specs.declared.stage.Stage.{Stage}
use Rattle.bays.specs.declared.stage.Stage.TheVariants as stage
use Rattle.history.proofs.Basics.{and_right, by_test}
use Rattle.history.proofs.Entries.{Entry, changed_entries, get_put_other, same_entry}
use Rattle.history.specs.Calls.{Act, Call, Own, Shared, call, close, done, grant, open_bay, own, refused, seal, shared}
use Rattle.history.specs.Hall.{CallEnd, Hall, OwnEnd, apply, bay_after, call_end, end_of, program_of, settle, settle_own, stage_for, verdict}
use Rattle.session.specs.Serve.{RequestEnd, calls_by, served}

-- a request by the stage of the handle that it needs
abbrev pub served_by : Option Stage → ℕ → Act → Hall → RequestEnd
served_by o n c H = served (calls_by o n c) H

abbrev pub stage_of : List Bay → ℕ → Option Stage
stage_of l n = (bay_at l n).stage

there : (x : Bay) (l : List Bay) (k : ℕ) (s : Stage) → (get_or l k free).stage ≡ Some s → get_or (set l k x) k free ≡ x
there x [] k s e = cc
there x (b ∷ l) zero s e = refl
there x (b ∷ l) (suc k) s e = there x l k s e

-- a bay with a stage is one of the list, and what is put there is found there
pub put_there : (x : Bay) (l : List Bay) (n : ℕ) (s : Stage) → stage_of l n ≡ Some s → bay_at (put_bay l n x) n ≡ x
unfolding bay_at put_bay
put_there x l zero s e = cc
put_there x l (suc k) s e = there x l k s e

-- a load, set, turn, look or copy leaves every bay at its stage
pub own_keeps : (n : ℕ) (s : Stage) (i : Own) (H : Hall) (j : ℕ) → stage_of (apply (call n s (own i)) H).hall.bays j ≡ stage_of H.bays j
own_keeps n s i H j =
    let e : OwnEnd = end_of i H.book (bay_at H.bays n).rights (program_of (bay_at H.bays n)) H.bytes in
    by_test (λ (t : CallEnd). stage_of t.hall.bays j ≡ stage_of H.bays j) (at_stage (stage_for i s) (bay_at H.bays n).stage) (settle_own n H e) (call_end (refused 2) H)
    (λ t. ap (λ (x : Entry). x.stage) (same_entry _ H.bays (changed_entries H.bays n e.program) j))
    (λ t. refl)

-- the stage of a bay that a shared call acts on: that of the bay it leaves, or the same where the call is refused
settled : (n : ℕ) (s : Stage) (o : Shared) (H : Hall) (r : Option Refusal) (held : Stage) → stage_of H.bays n ≡ Some held → (b : Option Stage) → (r ≡ None → (bay_after o (bay_at H.bays n)).stage ≡ b) → ((e : Refusal) → r ≡ Some e → Some held ≡ b) → stage_of (settle r n o H).hall.bays n ≡ b
settled n s o H None held g b f h = ap (λ (x : Bay). x.stage) (put_there (bay_after o (bay_at H.bays n)) H.bays n held g) ∙ f refl
settled n s o H (Some e) held g b f h = g ∙ h e refl

pub grant_keeps : (n : ℕ) (g : Grant) (H : Hall) → stage_of H.bays n ≡ Some stage.Preparing → stage_of (apply (call n stage.Preparing (shared (grant g))) H).hall.bays n ≡ Some stage.Preparing
grant_keeps n g H e = settled n stage.Preparing (grant g) H (verdict n stage.Preparing (grant g) H.bays) stage.Preparing e (Some stage.Preparing) (λ z. e) (λ x z. refl)

pub sealed : (n : ℕ) (H : Hall) → stage_of H.bays n ≡ Some stage.Preparing → stage_of (apply (call n stage.Preparing (shared seal)) H).hall.bays n ≡ Some stage.Sealed
sealed n H e = rw e (ap (λ (x : Bay). x.stage) (put_there (with_stage (bay_at H.bays n) stage.Sealed) H.bays n stage.Preparing e))

pub closed : (n : ℕ) (s : Stage) (H : Hall) → stage_of H.bays n ≡ Some s → stage_of (apply (call n s (shared close)) H).hall.bays n ≡ None
closed n s H e = by_stage s e
  where
    by_stage : (s : Stage) → stage_of H.bays n ≡ Some s → stage_of (apply (call n s (shared close)) H).hall.bays n ≡ None
    by_stage stage.Preparing e = rw e (ap (λ (x : Bay). x.stage) (put_there free H.bays n stage.Preparing e))
    by_stage stage.Sealed e = rw e (ap (λ (x : Bay). x.stage) (put_there free H.bays n stage.Sealed e))

-- a call leaves every bay but its own as it was
pub others_keep : (c : Call) (H : Hall) (j : ℕ) → j ≢ c.bay → stage_of (apply c H).hall.bays j ≡ stage_of H.bays j
others_keep c H j d = by_act c.act
  where
    by_refusal : (o : Shared) (r : Option Refusal) → stage_of (settle r c.bay o H).hall.bays j ≡ stage_of H.bays j
    by_refusal o None = ap (λ (x : Bay). x.stage) (get_put_other (bay_after o (bay_at H.bays c.bay)) H.bays c.bay j d)
    by_refusal o (Some e) = refl

    by_act : (a : Act) → stage_of (apply (call c.bay c.held a) H).hall.bays j ≡ stage_of H.bays j
    by_act (own i) = own_keeps c.bay c.held i H j
    by_act (shared o) = by_refusal o (verdict c.bay c.held o H.bays)

in_range : (b : Bool) (k : ℕ) → T (is_some (cond b (Some k) None)) → T b
in_range true k t = tt
in_range false k t = absurd t

put_in_range : (x : Bay) (l : List Bay) (n : ℕ) → T (leb 1 n && leb n 8) → length (put_bay l n x) ≡ 8 → bay_at (put_bay l n x) n ≡ x
unfolding bay_at put_bay
put_in_range x l zero t e = absurd t
put_in_range x l (suc k) t e = get_or-set_same l k x free (let z = length-set l k x in let w = leb→le (suc k) 8 (and_right (leb 1 (suc k)) (leb (suc k) 8) t) in omega arith)

pub opens : (n : ℕ) (H K : Hall) → K ≡ (apply (call n stage.Preparing (shared open_bay)) H).hall → length K.bays ≡ 8 → done ≡ (apply (call n stage.Preparing (shared open_bay)) H).answer → stage_of K.bays n ≡ Some stage.Preparing
opens n H K k e a = ap (λ (G : Hall). stage_of G.bays n) k ∙ by_range (ap (λ (G : Hall). length G.bays) (sym k) ∙ e) a
  where
    by_range : length (apply (call n stage.Preparing (shared open_bay)) H).hall.bays ≡ 8 → done ≡ (apply (call n stage.Preparing (shared open_bay)) H).answer → stage_of (apply (call n stage.Preparing (shared open_bay)) H).hall.bays n ≡ Some stage.Preparing
    by_range =
        by_test (λ (r : Option Refusal). length (settle r n open_bay H).hall.bays ≡ 8 → done ≡ (settle r n open_bay H).answer → stage_of (settle r n open_bay H).hall.bays n ≡ Some stage.Preparing) (is_some (place_of n)) _ _
        (λ t.
        by_test (λ (r : Option Refusal). length (settle r n open_bay H).hall.bays ≡ 8 → done ≡ (settle r n open_bay H).answer → stage_of (settle r n open_bay H).hall.bays n ≡ Some stage.Preparing) (is_free (bay_at H.bays n).stage) _ _
        (λ u e a. ap (λ (x : Bay). x.stage) (put_in_range opened H.bays n (in_range (leb 1 n && leb n 8) (n - 1) t) e))
        (λ u e a. cc))
        (λ t e a. cc)

-- what holds of a call by the number of a bay holds of the call by a handle that names the bay
pub carried : (X : ℕ → Hall) (K : Hall) (m n : ℕ) (b : Option Stage) → m ≡ n → K ≡ X m → stage_of (X n).bays n ≡ b → stage_of K.bays n ≡ b
carried X K m n b e k q = ap (λ (H : Hall). stage_of H.bays n) k ∙ ap (λ (i : ℕ). stage_of (X i).bays n) e ∙ q
