-- A turn of a steps and then one of b steps of a bay come to one turn of a + b steps.
use Rattle.std.proofs.Common.{◌≡◌, ℕ, zero, suc, ◌+◌, ◌*◌, ◌-◌, ◌^◌, ◌≤◌, Bool, List, [], ◌∷◌, ◌++◌, min, set, Some, None, Option, sym, refl, ap, ◌∙◌, subst, add_assoc, arith}
use Rattle.std.specs.Prelude.{replicate}
use Rattle.std.proofs.Math.Nat.{min-eq_left, min-eq_right}
use Rattle.access.specs.declared.rights.Rights.{Rights}
use Rattle.access.specs.declared.stop.Stop.{Stop}
use Rattle.bays.specs.Bays.{bay_at, put_bay, with_program}
use Rattle.bays.specs.declared.bay.Bay.{Bay}
use Rattle.bays.specs.declared.stage.Stage.{Stage}
use Rattle.bays.specs.declared.stage.Stage.TheVariants.{Preparing, Sealed}
use Rattle.book.specs.Readings.{reading}
use Rattle.history.specs.Calls.{Act, Answer, own, stop_told, turn, turned}
use Rattle.history.specs.Hall.{Hall, OwnEnd, Program, own_end, program, program_of, settle_own, turn_end, turn_from}
use Rattle.session.proofs.Stages.{put_there, served_by, stage_of}
use Rattle.session.specs.Serve.{RequestEnd, if_sealed, request_end, serve}
use Rattle.turns.proofs.Split.{split}
use Rattle.turns.specs.Laws.{later, unless}
use Rattle.turns.specs.Turn.{Run, run}
use Rattle.recover.proofs.Runs.{asked_append, own_served, top, with_steps}
use Rattle.recover.specs.Runs.{Noted, RecordEnd, asked_all, noted, record_end}

abbrev T : ℕ → ℕ → ℕ × Act
T n k = (n, own (turn k))

-- steps that are noted one after the other
noted_on : (s a b : ℕ) → min (min (s + a) top + b) top ≡ min (s + (a + b)) top
noted_on s a b = omega arith

set_again : (l : List Bay) (k : ℕ) (x y : Bay) → set (set l k x) k y ≡ set l k y
set_again [] k x y = refl
set_again (b ∷ l) zero x y = refl
set_again (b ∷ l) (suc k) x y = ap (λ (m : List Bay). b ∷ m) (set_again l k x y)

put_again : (l : List Bay) (n : ℕ) (x y : Bay) → put_bay (put_bay l n x) n y ≡ put_bay l n y
unfolding put_bay
put_again l zero x y = refl
put_again l (suc k) x y = set_again l k x y

module _ (n : ℕ) (H : Hall) where
  -- a bay that is not sealed takes no turn
  idle : (k : ℕ) → if_sealed (stage_of H.bays n) ≡ None → serve n (own (turn k)) H ≡ request_end None H
  idle k e = ap (λ (o : Option Stage). served_by o n (own (turn k)) H) e

  abbrev bay : Bay
  bay = bay_at H.bays n

  abbrev ended : ℕ → Option Stop → OwnEnd
  ended k o = turn_from o k H.book bay.rights (program_of bay) H.bytes

  one_turn : (k : ℕ) (m : Noted) (o : Option Stop) → stage_of H.bays n ≡ Some Sealed → bay.stop ≡ o → asked_all (T n k ∷ []) m H ≡ record_end (noted (Some (ended k o).answer) m) (settle_own n H (ended k o)).hall
  one_turn k m o e f =
      ap (λ (s : RequestEnd). record_end (noted s.reply m) s.hall) (own_served n (turn k) H e)
      ∙ ap (λ (p : Option Stop). record_end (noted (Some (ended k p).answer) m) (settle_own n H (ended k p)).hall) f

-- nothing more is noted of a turn under a standing stop
stopped_on : (m : Noted) (k : ℕ) (x : Stop) → noted (Some (turned 0 (stop_told (Some x)))) (noted (Some (turned k (stop_told (Some x)))) m) ≡ noted (Some (turned k (stop_told (Some x)))) m
stopped_on m k x = ap (with_steps m) (noted_on m.steps k 0 ∙ ap (λ (i : ℕ). min (m.steps + i) top) (omega arith))

-- the bay is sealed, and no stop stands
module _ (n a b : ℕ) (m : Noted) (H : Hall) (e : stage_of H.bays n ≡ Some Sealed) (f : (bay_at H.bays n).stop ≡ None) where
  abbrev first : Run
  first = run (reading H.book) (bay_at H.bays n).rights a 0 (bay_at H.bays n).registers H.bytes

  abbrev bay_of : Run → Bay
  bay_of q = with_program (bay_at H.bays n) q.registers q.turned.stop

  abbrev hall_of : Run → Hall
  hall_of q = record H { bays = put_bay H.bays n (bay_of q); bytes = q.bytes }

  abbrev end_with : Run → RecordEnd
  end_with q = record_end (noted (Some (turned q.turned.steps (stop_told q.turned.stop))) m) (hall_of q)

  placed : (q : Run) → bay_at (hall_of q).bays n ≡ bay_of q
  placed q = put_there (bay_of q) H.bays n Sealed e

  one_run : (k : ℕ) → asked_all (T n k ∷ []) m H ≡ end_with (run (reading H.book) (bay_at H.bays n).rights k 0 (bay_at H.bays n).registers H.bytes)
  one_run k = one_turn n H k m None e f

  -- the turn after it, by how the first one ended
  second : (q : Run) (o : Option Stop) → q.turned.stop ≡ o
      → asked_all (T n b ∷ []) (end_with q).noted (end_with q).hall ≡ end_with (unless o q (run (reading H.book) (bay_at H.bays n).rights b 0))
  second q (Some x) g =
      one_turn n (hall_of q) b (end_with q).noted (Some x) (ap (λ (y : Bay). y.stage) (placed q) ∙ e) (ap (λ (y : Bay). y.stop) (placed q) ∙ g)
      ∙ ap (λ (p : Option Stop). record_end (noted (Some (turned 0 (stop_told (Some x)))) (noted (Some (turned q.turned.steps (stop_told p))) m)) (hall_of q)) g
      ∙ ap (λ (w : Noted). record_end w (hall_of q)) (stopped_on m q.turned.steps x)
      ∙ ap (λ (p : Option Stop). record_end (noted (Some (turned q.turned.steps (stop_told p))) m) (hall_of q)) (sym g)
  second q None g =
      one_turn n (hall_of q) b (end_with q).noted None (ap (λ (y : Bay). y.stage) (placed q) ∙ e) (ap (λ (y : Bay). y.stop) (placed q) ∙ g)
      ∙ ap (λ (y : Bay). let w = run (reading H.book) y.rights b 0 y.registers q.bytes in
      record_end (noted (Some (turned w.turned.steps (stop_told w.turned.stop))) (end_with q).noted) (record H { bays = put_bay (put_bay H.bays n (bay_of q)) n (with_program y w.registers w.turned.stop); bytes = w.bytes })) (placed q)
      ∙ (let w : Run = run (reading H.book) (bay_at H.bays n).rights b 0 q.registers q.bytes in
      ap (λ (l : List Bay). record_end (noted (Some (turned w.turned.steps (stop_told w.turned.stop))) (end_with q).noted) (record H { bays = l; bytes = w.bytes })) (put_again H.bays n (bay_of q) (bay_of w))
      ∙ ap (λ (i : ℕ). record_end (with_steps m i) (hall_of w)) (noted_on m.steps q.turned.steps w.turned.steps))

  both : asked_all (T n a ∷ T n b ∷ []) m H ≡ asked_all (T n (a + b) ∷ []) m H
  both =
      ap (λ (x : RecordEnd). asked_all (T n b ∷ []) x.noted x.hall) (one_run a)
      ∙ second first first.turned.stop refl
      ∙ ap end_with (sym (split (reading H.book) (bay_at H.bays n).rights a b (bay_at H.bays n).registers H.bytes))
      ∙ sym (one_run (a + b))

module _ (n a b : ℕ) (m : Noted) (H : Hall) where
  idle_both : if_sealed (stage_of H.bays n) ≡ None → asked_all (T n a ∷ T n b ∷ []) m H ≡ asked_all (T n (a + b) ∷ []) m H
  idle_both e =
      ap (λ (s : RequestEnd). asked_all (T n b ∷ []) (noted s.reply m) s.hall) (idle n H a e)
      ∙ ap (λ (s : RequestEnd). record_end (noted s.reply m) s.hall) (idle n H b e ∙ sym (idle n H (a + b) e))

  by_stop : stage_of H.bays n ≡ Some Sealed → (o : Option Stop) → (bay_at H.bays n).stop ≡ o → asked_all (T n a ∷ T n b ∷ []) m H ≡ asked_all (T n (a + b) ∷ []) m H
  by_stop e None f = both n a b m H e f
  by_stop e (Some x) f =
      ap (λ (s : RecordEnd). asked_all (T n b ∷ []) s.noted s.hall) (one_turn n H a m (Some x) e f)
      ∙ one_turn n H b (noted (Some (turned 0 (stop_told (Some x)))) m) (Some x) e f
      ∙ ap (λ (w : Noted). record_end w H) (stopped_on m 0 x)
      ∙ sym (one_turn n H (a + b) m (Some x) e f)

  by_stage : (o : Option Stage) → stage_of H.bays n ≡ o → asked_all (T n a ∷ T n b ∷ []) m H ≡ asked_all (T n (a + b) ∷ []) m H
  by_stage None e = idle_both (ap if_sealed e)
  by_stage (Some Preparing) e = idle_both (ap if_sealed e)
  by_stage (Some Sealed) e = by_stop e (bay_at H.bays n).stop refl

  together : asked_all (T n a ∷ T n b ∷ []) m H ≡ asked_all (T n (a + b) ∷ []) m H
  together = by_stage (stage_of H.bays n) refl

-- turns of one budget
all_turns : (n b c : ℕ) (m : Noted) (H : Hall) → asked_all (replicate (suc c) (T n b)) m H ≡ asked_all (T n (suc c * b) ∷ []) m H
all_turns n b zero m H =
    let d : b ≡ 1 * b = omega arith in
    ap (λ (k : ℕ). asked_all (T n k ∷ []) m H) d
all_turns n b (suc c) m H =
    let d : b + suc c * b ≡ suc (suc c) * b = omega arith in
    all_turns n b c (noted (serve n (own (turn b)) H).reply m) (serve n (own (turn b)) H).hall
    ∙ together n b (suc c * b) m H
    ∙ ap (λ (k : ℕ). asked_all (T n k ∷ []) m H) d

-- turns of one budget, and one more
turns_and_one : (n l r w : ℕ) (m : Noted) (H : Hall) → asked_all (replicate w (T n l) ++ (T n r ∷ [])) m H ≡ asked_all (T n (w * l + r) ∷ []) m H
turns_and_one n l r zero m H =
    let d : r ≡ 0 * l + r = omega arith in
    ap (λ (k : ℕ). asked_all (T n k ∷ []) m H) d
turns_and_one n l r (suc w) m H =
    let d : l + (w * l + r) ≡ suc w * l + r = omega arith in
    turns_and_one n l r w (noted (serve n (own (turn l)) H).reply m) (serve n (own (turn l)) H).hall
    ∙ together n l (w * l + r) m H
    ∙ ap (λ (k : ℕ). asked_all (T n k ∷ []) m H) d

-- both ways of asking for the same steps
pub same_steps : (n l r w b c : ℕ) (m m' m'' : Noted) (H K L : Hall) → w * l + r ≡ suc c * b → record_end m' K ≡ asked_all (replicate w (T n l)) m H → record_end m'' L ≡ asked_all (T n r ∷ []) m' K
    → record_end m'' L ≡ asked_all (replicate (suc c) (T n b)) m H
same_steps n l r w b c m m' m'' H K L d e f =
    f
    ∙ ap (λ (s : RecordEnd). asked_all (T n r ∷ []) s.noted s.hall) e
    ∙ sym (asked_append (replicate w (T n l)) (T n r ∷ []) m H)
    ∙ turns_and_one n l r w m H
    ∙ ap (λ (k : ℕ). asked_all (T n k ∷ []) m H) d
    ∙ sym (all_turns n b c m H)
