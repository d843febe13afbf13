-- A record's run in a prepared bay is the run of the job's rules.
use Rattle.std.proofs.Common.{◌≡◌, ℕ, zero, suc, ◌+◌, ◌*◌, ◌-◌, ◌^◌, ◌<◌, ◌≤◌, Bool, true, false, cond, T, List, [], ◌∷◌, ◌++◌, length, min, Some, None, Ok, Err, Option, Result, sym, refl, ap, ◌∙◌, subst, arith}
use Rattle.std.specs.Prelude.{replicate}
use Rattle.std.proofs.Math.Nat.{min-eq_left}
use Rattle.access.specs.Access.{within, sight}
use Rattle.access.specs.declared.kind.Use.TheVariants.{Load, Copy}
use Rattle.access.specs.declared.rights.Rights.{Rights}
use Rattle.access.specs.declared.stop.Stop.{Stop}
use Rattle.bays.specs.Bays.{bay_at, with_program}
use Rattle.bays.specs.Stages.{at_stage}
use Rattle.bays.specs.declared.bay.Bay.{Bay}
use Rattle.bays.specs.declared.stage.Stage.{Stage}
use Rattle.bays.specs.declared.stage.Stage.TheVariants.{Sealed}
use Rattle.book.specs.Readings.{reading}
use Rattle.book.specs.declared.tables.Tables.{Tables}
use Rattle.isa.specs.declared.reading.Reading.{Reading}
use Rattle.history.specs.Calls.{Act, Answer, Own, copied, copy, done, load, look, own, refused, set_all, shown, stop_told, turn, turned}
use Rattle.history.specs.Hall.{Hall, OwnEnd, Program, call_end, changed, end_of, own_end, program, program_of, settle_own, stage_for, turn_end}
use Rattle.job.specs.Ran.{recorded}
use Rattle.job.specs.declared.job.Job.{Job}
use Rattle.machine.specs.Act.{Effect}
use Rattle.machine.specs.declared.registers.Registers.{Registers}
use Rattle.session.proofs.Stages.{put_there, served_by, stage_of}
use Rattle.session.specs.Serve.{RequestEnd, fitting, if_sealed, request_end, serve}
use Rattle.store.specs.Bulk.{taken, written}
use Rattle.turns.proofs.Split.{split}
use Rattle.turns.specs.Laws.{unless}
use Rattle.turns.specs.Step.{committed, stepped}
use Rattle.turns.specs.Turn.{Run, run, run_end, stopped_after}
use Rattle.recover.specs.Records.{record_asks}
use Rattle.recover.specs.Runs.{ComesTo, Noted, Reached, Ready, RecordEnd, RunsByTheRules, asked_all, begun, noted, record_end, record_run}

-- a turn takes no more steps than its budget
module _ (reads : ℕ → Reading) (rights : Rights) where
  budget_step : (n k : ℕ) (r : Registers) (bs : List ℕ) (o : Result Effect Stop) → ((r' : Registers) (bs' : List ℕ) → (run reads rights n (k + 1) r' bs').turned.steps ≤ k + 1 + n)
      → (let w : Run = elim o [ Ok e ↦ run reads rights n (k + 1) e.registers (committed bs e.pending) | Err t ↦ run_end r bs (stopped_after k t) ] in w.turned.steps ≤ k + suc n)
  budget_step n k r bs (Ok e) f = let g = f e.registers (committed bs e.pending) in omega arith
  budget_step n k r bs (Err t) f = omega arith

  in_budget : (n k : ℕ) (r : Registers) (bs : List ℕ) → (run reads rights n k r bs).turned.steps ≤ k + n
  in_budget zero k r bs = omega arith
  in_budget (suc n) k r bs = budget_step n k r bs (stepped reads r (sight rights bs)) (λ r' bs'. in_budget n (k + 1) r' bs')

-- the bay n is sealed, with these rights and this program, in a store of these bytes
record At (n : ℕ) (b : Tables) (g : Rights) (p : Program) (bs : List ℕ) (H : Hall) : Type 0 where
  pub stage : stage_of H.bays n ≡ Some Sealed
  pub rights : (bay_at H.bays n).rights ≡ g
  pub program : program_of (bay_at H.bays n) ≡ p
  pub bytes : H.bytes ≡ bs
  pub book : H.book ≡ b

abbrev next : Option Program → Program → Program
next None p = p
next (Some q) p = q

abbrev pub bay_with : Option Program → Bay → Bay
bay_with None d = d
bay_with (Some p) d = with_program d p.registers p.stop

pub stage_with : (o : Option Program) (d : Bay) → (bay_with o d).stage ≡ d.stage
stage_with None d = refl
stage_with (Some p) d = refl

rights_with : (o : Option Program) (d : Bay) → (bay_with o d).rights ≡ d.rights
rights_with None d = refl
rights_with (Some p) d = refl

program_with : (o : Option Program) (d : Bay) → program_of (bay_with o d) ≡ next o (program_of d)
program_with None d = refl
program_with (Some p) d = refl

fit : (i : Own) (o : Option Stage) → o ≡ Some Sealed → fitting (own i) o ≡ Some Sealed
fit (load at v) o e = e
fit (set_all r) o e = e
fit (turn k) o e = ap if_sealed e
fit look o e = e
fit (copy at k) o e = e

passes : (i : Own) (o : Option Stage) → o ≡ Some Sealed → at_stage (stage_for i Sealed) o ≡ true
passes (load at v) o e = ap (at_stage Sealed) e
passes (set_all r) o e = ap (at_stage Sealed) e
passes (turn k) o e = ap (at_stage Sealed) e
passes look o e = ap (at_stage Sealed) e
passes (copy at k) o e = ap (at_stage Sealed) e

pub changed_bay : (n : ℕ) (o : Option Program) (l : List Bay) → stage_of l n ≡ Some Sealed → bay_at (changed o l n) n ≡ bay_with o (bay_at l n)
changed_bay n None l e = refl
changed_bay n (Some p) l e = put_there (with_program (bay_at l n) p.registers p.stop) l n Sealed e

is_true : (b : Bool) → T b → b ≡ true
is_true true t = refl
is_true false t = absurd t

-- the greatest number of steps
abbrev pub top : ℕ
top = 2 ^ 32 - 1

abbrev pub with_steps : Noted → ℕ → Noted
with_steps m k = record m { steps = k }

-- calls in two parts
pub asked_append : (qs rs : List (ℕ × Act)) (m : Noted) (H : Hall) → asked_all (qs ++ rs) m H ≡ asked_all rs (asked_all qs m H).noted (asked_all qs m H).hall
asked_append [] rs m H = refl
asked_append (q ∷ qs) rs m H = asked_append qs rs (noted (serve q.0 q.1 H).reply m) (serve q.0 q.1 H).hall

-- a call of its own of a sealed bay
pub own_served : (n : ℕ) (i : Own) (H : Hall) → stage_of H.bays n ≡ Some Sealed
    → serve n (own i) H ≡ (let d = end_of i H.book (bay_at H.bays n).rights (program_of (bay_at H.bays n)) H.bytes in request_end (Some d.answer) (settle_own n H d).hall)
own_served n i H e =
    let d : OwnEnd = end_of i H.book (bay_at H.bays n).rights (program_of (bay_at H.bays n)) H.bytes in
    ap (λ (o : Option Stage). served_by o n (own i) H) (fit i (stage_of H.bays n) e)
    ∙ ap (λ (t : Bool). let z = cond t (settle_own n H d) (call_end (refused 2) H) in request_end (Some z.answer) z.hall) (passes i (stage_of H.bays n) e)

module _ (n : ℕ) (b : Tables) (rights : Rights) where
  -- one call of the bay's own
  record Served (i : Own) (e : OwnEnd) (p : Program) (H : Hall) : Type 0 where
    pub reply : (serve n (own i) H).reply ≡ Some e.answer
    pub at : At n b rights (next e.program p) e.bytes (serve n (own i) H).hall

  served : (i : Own) (e : OwnEnd) (p : Program) (bs : List ℕ) (H : Hall) → end_of i b rights p bs ≡ e → At n b rights p bs H → Served i e p H
  served i e p bs H x a = record {
    reply = ap (λ (s : RequestEnd). s.reply) whole ∙ ap (λ (z : OwnEnd). Some z.answer) same;
    at = subst (At n b rights (next e.program p) e.bytes) (sym (ap (λ (s : RequestEnd). s.hall) whole))
        (subst (λ (z : OwnEnd). At n b rights (next z.program p) z.bytes (settle_own n H d).hall) same (record {
          stage = ap (λ (y : Bay). y.stage) bay ∙ stage_with d.program (bay_at H.bays n) ∙ a.stage;
          rights = ap (λ (y : Bay). y.rights) bay ∙ rights_with d.program (bay_at H.bays n) ∙ a.rights;
          program = ap program_of bay ∙ program_with d.program (bay_at H.bays n) ∙ ap (next d.program) a.program;
          bytes = refl;
          book = a.book;
        }));
  }
    where
      d : OwnEnd
      d = end_of i H.book (bay_at H.bays n).rights (program_of (bay_at H.bays n)) H.bytes

      whole : serve n (own i) H ≡ request_end (Some d.answer) (settle_own n H d).hall
      whole = own_served n i H a.stage

      same : d ≡ e
      same = (λ j. end_of i (a.book j) (a.rights j) (a.program j) (a.bytes j)) ∙ x

      bay : bay_at (settle_own n H d).hall.bays n ≡ bay_with d.program (bay_at H.bays n)
      bay = changed_bay n d.program H.bays a.stage

  -- the calls qs come to the calls rs, asked of another hall
  record Led (qs rs : List (ℕ × Act)) (m m' : Noted) (p : Program) (bs : List ℕ) (H : Hall) : Type 0 where
    pub hall : Hall
    pub at : At n b rights p bs hall
    pub same : asked_all qs m H ≡ asked_all rs m' hall

  one : (i : Own) (e : OwnEnd) (rs : List (ℕ × Act)) (m m' : Noted) (p : Program) (bs : List ℕ) (H : Hall) → end_of i b rights p bs ≡ e → noted (Some e.answer) m ≡ m' → At n b rights p bs H
      → Led ((n, own i) ∷ rs) rs m m' (next e.program p) e.bytes H
  one i e rs m m' p bs H x y a =
      let s : Served i e p H = served i e p bs H x a in
      let K : Hall = (serve n (own i) H).hall in
      record {
        hall = K;
        at = s.at;
        same = ap (λ (o : Option Answer). asked_all rs (noted o m) K) s.reply ∙ ap (λ (z : Noted). asked_all rs z K) y;
      }

  then : (qs rs ts : List (ℕ × Act)) (m m' m'' : Noted) (p p' : Program) (bs bs' : List ℕ) (H : Hall) (l : Led qs rs m m' p bs H) → Led rs ts m' m'' p' bs' l.hall → Led qs ts m m'' p' bs' H
  then qs rs ts m m' m'' p p' bs bs' H l k = record { hall = k.hall; at = k.at; same = l.same ∙ k.same }

  module _ (budget : ℕ) (rs : List (ℕ × Act)) where
    abbrev turns : ℕ → List (ℕ × Act)
    turns t = replicate t (n, own (turn budget)) ++ rs

    -- under a standing stop
    stopped : (t : ℕ) (m : Noted) (r : Registers) (x : Stop) (bs : List ℕ) (H : Hall) → m.steps ≤ top → At n b rights (program r (Some x)) bs H → Led (turns t) rs m m (program r (Some x)) bs H
    stopped zero m r x bs H h a = record { hall = H; at = a; same = refl }
    stopped (suc t) m r x bs H h a =
        let e : OwnEnd = own_end (turned 0 (stop_told (Some x))) None bs in
        let l : Led (turns (suc t)) (turns t) m m (program r (Some x)) bs H = one (turn budget) e (turns t) m m (program r (Some x)) bs H refl (ap (λ (k : ℕ). with_steps m k) (min-eq_left {n = m.steps + 0} {m = top} (omega arith) ∙ omega arith)) a in
        then _ _ _ _ _ _ _ _ _ _ H l (stopped t m r x bs l.hall h l.at)

    abbrev taken_run : ℕ → Registers → List ℕ → Run
    taken_run t r bs = run (reading b) rights (t * budget) 0 r bs

    -- what a run of the rules adds
    abbrev Goes : ℕ → Noted → Hall → Run → Type 0
    Goes t m H w = Led (turns t) rs m (with_steps m (m.steps + w.turned.steps)) (program w.registers w.turned.stop) w.bytes H

    none_taken : (m : Noted) (r : Registers) (bs : List ℕ) (H : Hall) → At n b rights (program r None) bs H → Goes zero m H (run (reading b) rights 0 0 r bs)
    none_taken m r bs H a = record { hall = H; at = a; same = ap (λ (k : ℕ). asked_all rs (with_steps m k) H) (omega arith) }

    running : (t : ℕ) (m : Noted) (r : Registers) (bs : List ℕ) (H : Hall) → m.steps + t * budget ≤ top → At n b rights (program r None) bs H → Goes t m H (taken_run t r bs)
    running zero m r bs H h a =
        let z : 0 ≡ zero * budget = omega arith in
        subst (Goes zero m H) (ap (λ (k : ℕ). run (reading b) rights k 0 r bs) z) (none_taken m r bs H a)
    running (suc t) m r bs H h a =
        let z : suc t * budget ≡ budget + t * budget = omega arith in
        subst (Goes (suc t) m H) (sym (ap (λ (k : ℕ). run (reading b) rights k 0 r bs) z ∙ split (reading b) rights budget (t * budget) r bs))
        (by_stop q.turned.stop refl (running t (with_steps m (m.steps + q.turned.steps)) q.registers q.bytes l.hall))
      where
        q : Run
        q = run (reading b) rights budget 0 r bs

        within_budget : q.turned.steps ≤ budget
        within_budget = let i = in_budget (reading b) rights budget 0 r bs in omega arith

        room : m.steps + q.turned.steps + t * budget ≤ top
        room = let i = within_budget in let z : suc t * budget ≡ budget + t * budget = omega arith in omega arith

        l : Led (turns (suc t)) (turns t) m (with_steps m (m.steps + q.turned.steps)) (program q.registers q.turned.stop) q.bytes H
        l = one (turn budget) (turn_end q) (turns t) m (with_steps m (m.steps + q.turned.steps)) (program r None) bs H refl (ap (with_steps m) (min-eq_left (let u = room in omega arith))) a

        by_stop : (o : Option Stop) → q.turned.stop ≡ o
            → (m.steps + q.turned.steps + t * budget ≤ top → At n b rights (program q.registers None) q.bytes l.hall → Goes t (with_steps m (m.steps + q.turned.steps)) l.hall (taken_run t q.registers q.bytes))
            → Goes (suc t) m H (unless o q (run (reading b) rights (t * budget) 0))
        by_stop None e f =
            let k = f room (subst (λ (o : Option Stop). At n b rights (program q.registers o) q.bytes l.hall) e l.at) in
            let w : Run = taken_run t q.registers q.bytes in
            let sum : m.steps + q.turned.steps + w.turned.steps ≡ m.steps + (q.turned.steps + w.turned.steps) = omega arith in
            subst (λ (s : ℕ). Led (turns (suc t)) rs m (with_steps m s) (program w.registers w.turned.stop) w.bytes H) sum (then _ _ _ _ _ _ _ _ _ _ H l k)
        by_stop (Some x) e f =
            let a' = subst (λ (o : Option Stop). At n b rights (program q.registers o) q.bytes l.hall) e l.at in
            let k = stopped t (with_steps m (m.steps + q.turned.steps)) q.registers x q.bytes l.hall (let u = room in omega arith) a' in
            subst (λ (o : Option Stop). Led (turns (suc t)) rs m (with_steps m (m.steps + q.turned.steps)) (program q.registers o) q.bytes H) (sym e) (then _ _ _ _ _ _ _ _ _ _ H l k)

pub runs_by_the_rules : RunsByTheRules
runs_by_the_rules j counts results H d g small = record {
  steps = ap (λ (o : RecordEnd). o.noted.steps) ends ∙ omega arith;
  registers = ap (λ (o : RecordEnd). o.noted.registers) ends;
  stop = ap (λ (o : RecordEnd). o.noted.stop) ends;
  results = ap (λ (o : RecordEnd). o.noted.results) ends;
  bytes = ap (λ (o : RecordEnd). o.hall.bytes) ends ∙ l5.at.bytes;
  ready = subst (Ready j) (sym (ap (λ (o : RecordEnd). o.hall) ends)) (record { stage = l5.at.stage; rights = l5.at.rights });
}
  where
    n : ℕ
    n = j.number

    b : Tables
    b = H.book

    bs : List ℕ
    bs = written H.bytes j.input.address counts

    w : Run
    w = recorded (reading b) j H.bytes counts

    p0 : Program
    p0 = program_of (bay_at H.bays n)

    a0 : At n b j.rights p0 H.bytes H
    a0 = record { stage = d.stage; rights = d.rights; program = refl; bytes = refl; book = refl }

    m0 : Noted
    m0 = begun j.registers results

    m1 : Noted
    m1 = with_steps m0 (m0.steps + w.turned.steps)

    m2 : Noted
    m2 = record m1 { registers = w.registers; stop = stop_told w.turned.stop }

    out : List ℕ
    out = taken w.bytes j.output.address (2 * j.output.halfwords)

    m3 : Noted
    m3 = record m2 { results = results ++ out }

    copying : List (ℕ × Act)
    copying = (n, own (copy j.output.address (2 * j.output.halfwords))) ∷ []

    looking : List (ℕ × Act)
    looking = (n, own look) ∷ copying

    turning : List (ℕ × Act)
    turning = replicate j.turns.count (n, own (turn j.turns.budget)) ++ looking

    setting : List (ℕ × Act)
    setting = (n, own (set_all j.registers)) ∷ turning

    l1 : Led n b j.rights (record_asks j counts) setting m0 m0 p0 bs H
    l1 = one n b j.rights (load j.input.address counts) (own_end done None bs) setting m0 m0 p0 H.bytes H
        (ap (λ (t : Bool). cond t (own_end done None bs) (own_end (refused 7) None H.bytes)) (is_true (within j.rights Load j.input.address (length counts)) g.input)) refl a0

    l2 : Led n b j.rights setting turning m0 m0 (program j.registers None) bs l1.hall
    l2 = one n b j.rights (set_all j.registers) (own_end done (Some (program j.registers None)) bs) turning m0 m0 p0 bs l1.hall refl refl l1.at

    l3 : Led n b j.rights turning looking m0 m1 (program w.registers w.turned.stop) w.bytes l2.hall
    l3 = running n b j.rights j.turns.budget looking j.turns.count m0 j.registers bs l2.hall (omega arith) l2.at

    l4 : Led n b j.rights looking copying m1 m2 (program w.registers w.turned.stop) w.bytes l3.hall
    l4 = one n b j.rights look (own_end (shown w.registers (stop_told w.turned.stop)) None w.bytes) copying m1 m2 (program w.registers w.turned.stop) w.bytes l3.hall refl refl l3.at

    l5 : Led n b j.rights copying [] m2 m3 (program w.registers w.turned.stop) w.bytes l4.hall
    l5 = one n b j.rights (copy j.output.address (2 * j.output.halfwords)) (own_end (copied out) None w.bytes) [] m2 m3 (program w.registers w.turned.stop) w.bytes l4.hall
        (ap (λ (t : Bool). own_end (cond t (copied out) (refused 7)) None w.bytes) (is_true (within j.rights Copy j.output.address (2 * j.output.halfwords)) g.output)) refl l4.at

    ends : record_run j counts results H ≡ record_end m3 l5.hall
    ends = l1.same ∙ l2.same ∙ l3.same ∙ l4.same ∙ l5.same

-- one part after the other
pub parts : (p q s t : ℕ × Act) (qs : List (ℕ × Act)) (m0 m1 m2 m3 m4 m5 : Noted) (K0 K1 K2 K3 K4 K5 : Hall)
    → record_end m1 K1 ≡ asked_all (p ∷ []) m0 K0 → record_end m2 K2 ≡ asked_all (q ∷ []) m1 K1 → record_end m3 K3 ≡ asked_all qs m2 K2
    → record_end m4 K4 ≡ asked_all (s ∷ []) m3 K3 → record_end m5 K5 ≡ asked_all (t ∷ []) m4 K4
    → record_end m5 K5 ≡ asked_all (p ∷ q ∷ (qs ++ (s ∷ t ∷ []))) m0 K0
parts p q s t qs m0 m1 m2 m3 m4 m5 K0 K1 K2 K3 K4 K5 e1 e2 e3 e4 e5 =
    e5
    ∙ ap (λ (x : RecordEnd). asked_all (t ∷ []) x.noted x.hall) e4
    ∙ ap (λ (x : RecordEnd). asked_all (s ∷ t ∷ []) x.noted x.hall) e3
    ∙ sym (asked_append qs (s ∷ t ∷ []) m2 K2)
    ∙ ap (λ (x : RecordEnd). asked_all (qs ++ (s ∷ t ∷ [])) x.noted x.hall) e2
    ∙ ap (λ (x : RecordEnd). asked_all (q ∷ (qs ++ (s ∷ t ∷ []))) x.noted x.hall) e1
