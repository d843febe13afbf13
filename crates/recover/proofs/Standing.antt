-- A turn under a standing stop takes no step and leaves the hall as it is.
use Rattle.std.proofs.Common.{◌≡◌, ℕ, zero, suc, ◌+◌, ◌-◌, ◌^◌, ◌≤◌, Bool, true, false, T, is_none, List, [], ◌∷◌, min, Some, None, Option, sym, refl, ap, ◌∙◌, subst, arith}
use Rattle.std.specs.Prelude.{replicate}
use Rattle.std.proofs.Math.Nat.{min-eq_left, min-le_right}
use Rattle.access.specs.declared.stop.Stop.{Stop}
use Rattle.bays.specs.Bays.{bay_at}
use Rattle.bays.specs.declared.bay.Bay.{Bay}
use Rattle.bays.specs.declared.stage.Stage.{Stage}
use Rattle.bays.specs.declared.stage.Stage.TheVariants.{Preparing, Sealed}
use Rattle.history.specs.Calls.{Act, Answer, ToldStop, copied, done, own, refused, shown, stop_told, turn, turned}
use Rattle.history.specs.Hall.{Hall, OwnEnd, Program, changed, end_of, own_end, program_of, settle_own, turn_from}
use Rattle.session.proofs.Stages.{served_by, stage_of}
use Rattle.session.specs.Serve.{RequestEnd, fitting, request_end, serve}
use Rattle.recover.proofs.Runs.{bay_with, changed_bay, own_served, stage_with, top, with_steps}
use Rattle.recover.specs.Runs.{Noted, RecordEnd, asked_all, is_stop, noted, record_end}

no : {A : Type 0} → false ≡ true → A
no e = absurd (subst T (sym e) tt)

record Stopped (o : Option Answer) : Type 0 where
  pub steps : ℕ
  pub told : ToldStop
  pub is : o ≡ Some (turned steps (Some told))

stop_of : (o : Option Answer) → is_stop o ≡ true → Stopped o
stop_of (Some (turned k (Some t))) e = record { steps = k; told = t; is = refl }
stop_of (Some (turned k None)) e = no e
stop_of (Some (refused n)) e = no e
stop_of (Some done) e = no e
stop_of (Some (shown r t)) e = no e
stop_of (Some (copied bs)) e = no e
stop_of None e = no e

-- only a sealed bay's turn has an answer that tells of a stop
sealed_by : (n budget : ℕ) (H : Hall) (o : Option Stage) → is_stop (served_by (fitting (own (turn budget)) o) n (own (turn budget)) H).reply ≡ true → o ≡ Some Sealed
sealed_by n budget H None e = no e
sealed_by n budget H (Some Preparing) e = no e
sealed_by n budget H (Some Sealed) e = refl

record Stands (d : Bay) : Type 0 where
  pub stop : Stop
  pub is : d.stop ≡ Some stop

abbrev told_of : Option Answer → Option ToldStop
told_of (Some (turned k o)) = o
told_of (Some (refused n)) = None
told_of (Some done) = None
told_of (Some (shown r o)) = None
told_of (Some (copied bs)) = None
told_of None = None

a_stop : (d : Bay) (o : Option Stop) (t : ToldStop) → d.stop ≡ o → stop_told o ≡ Some t → Stands d
a_stop d (Some x) t f e = record { stop = x; is = f }
a_stop d None t f e = absurd (subst (λ (o : Option ToldStop). T (is_none o)) e tt)

module _ (n budget : ℕ) (H : Hall) where
  abbrev bay : Bay
  bay = bay_at H.bays n

  abbrev end_by : Option Stop → OwnEnd
  end_by o = turn_from o budget H.book bay.rights (program_of bay) H.bytes

  -- after a turn that tells of a stop one stands
  stands_by : (o : Option Stop) → bay.stop ≡ o → (s : Stopped (Some (end_by o).answer)) → Stands (bay_with (end_by o).program bay)
  stands_by (Some x) f s = record { stop = x; is = f }
  stands_by None f s = a_stop _ _ s.told refl (ap told_of s.is)

  -- a turn under a standing stop
  again : stage_of H.bays n ≡ Some Sealed → (x : Stop) → bay.stop ≡ Some x → serve n (own (turn budget)) H ≡ request_end (Some (turned 0 (stop_told (Some x)))) H
  again e x f = own_served n (turn budget) H e ∙ ap (λ (o : Option Stop). request_end (Some (end_by o).answer) (settle_own n H (end_by o)).hall) f

  left_turns : (t : ℕ) (m : Noted) (x : Stop) → serve n (own (turn budget)) H ≡ request_end (Some (turned 0 (stop_told (Some x)))) H → m.steps ≤ top → asked_all (replicate t (n, own (turn budget))) m H ≡ record_end m H
  left_turns zero m x e h = refl
  left_turns (suc t) m x e h =
      ap (λ (s : RequestEnd). asked_all (replicate t (n, own (turn budget))) (noted s.reply m) s.hall) e
      ∙ ap (λ (k : ℕ). asked_all (replicate t (n, own (turn budget))) (with_steps m k) H) (min-eq_left {n = m.steps + 0} {m = top} (omega arith) ∙ omega arith)
      ∙ left_turns t m x e h

-- the turns after it change nothing, and nothing more is noted
pub ends_at_stop : (n budget t : ℕ) (m : Noted) (H : Hall) → is_stop (serve n (own (turn budget)) H).reply ≡ true
    → asked_all (replicate (suc t) (n, own (turn budget))) m H ≡ record_end (noted (serve n (own (turn budget)) H).reply m) (serve n (own (turn budget)) H).hall
ends_at_stop n budget t m H e = left_turns n budget K t (noted (serve n (own (turn budget)) H).reply m) x.stop (again n budget K staged x.stop x.is) few
  where
    K : Hall
    K = (serve n (own (turn budget)) H).hall

    stage : stage_of H.bays n ≡ Some Sealed
    stage = sealed_by n budget H (stage_of H.bays n) e

    d : OwnEnd
    d = end_by n budget H (bay_at H.bays n).stop

    whole : serve n (own (turn budget)) H ≡ request_end (Some d.answer) (settle_own n H d).hall
    whole = own_served n (turn budget) H stage

    told : Stopped (Some d.answer)
    told = stop_of (Some d.answer) (ap is_stop (sym (ap (λ (s : RequestEnd). s.reply) whole)) ∙ e)

    placed : bay_at K.bays n ≡ bay_with d.program (bay_at H.bays n)
    placed = ap (λ (s : RequestEnd). bay_at s.hall.bays n) whole ∙ changed_bay n d.program H.bays stage

    staged : stage_of K.bays n ≡ Some Sealed
    staged = ap (λ (y : Bay). y.stage) placed ∙ stage_with d.program (bay_at H.bays n) ∙ stage

    x : Stands (bay_at K.bays n)
    x = subst Stands (sym placed) (stands_by n budget H (bay_at H.bays n).stop refl told)

    few : (noted (serve n (own (turn budget)) H).reply m).steps ≤ top
    few = subst (λ (o : Option Answer). (noted o m).steps ≤ top) (sym (ap (λ (s : RequestEnd). s.reply) whole ∙ told.is)) (min-le_right (m.steps + told.steps) top)

-- one turn more, which ends by a stop or after which more are asked for
module _ (n budget t k : ℕ) (m m' : Noted) (r : Option Answer) (H K : Hall) (d : k ≡ suc t) (e : request_end r K ≡ serve n (own (turn budget)) H) (f : m' ≡ noted r m) where
  one_turn : record_end m' K ≡ record_end (noted (serve n (own (turn budget)) H).reply m) (serve n (own (turn budget)) H).hall
  one_turn = ap (λ (x : Noted). record_end x K) f ∙ ap (λ (s : RequestEnd). record_end (noted s.reply m) s.hall) e

  pub stop_here : is_stop r ≡ true → record_end m' K ≡ asked_all (replicate k (n, own (turn budget))) m H
  stop_here s =
      one_turn
      ∙ sym (ends_at_stop n budget t m H (ap (λ (x : RequestEnd). is_stop x.reply) (sym e) ∙ s))
      ∙ ap (λ (i : ℕ). asked_all (replicate i (n, own (turn budget))) m H) (sym d)

  pub turn_on : asked_all (replicate t (n, own (turn budget))) m' K ≡ asked_all (replicate k (n, own (turn budget))) m H
  turn_on =
      ap (λ (x : RecordEnd). asked_all (replicate t (n, own (turn budget))) x.noted x.hall) one_turn
      ∙ ap (λ (i : ℕ). asked_all (replicate i (n, own (turn budget))) m H) (sym d)
