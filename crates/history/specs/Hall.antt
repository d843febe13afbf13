-- The hall as calls see it, and what each call answers and leaves.
use Rattle.std.specs.Prelude.{ℕ, List, [], length, replicate, Some, None, Ok, Err, Option, Result, is_some, if◌then◌else◌}
use Rattle.book.specs.Readings.{reading}
use Rattle.book.specs.declared.tables.Tables.{Tables}
use Rattle.store.specs.Bulk.{taken, written}
use Rattle.access.specs.Access.{within}
use Rattle.access.specs.declared.kind.Use.TheVariants.{Load, Copy}
use Rattle.access.specs.declared.rights.Rights.{Rights}
use Rattle.access.specs.declared.stop.Stop.{Stop}
use Rattle.machine.specs.declared.registers.Registers.{Registers}
use Rattle.turns.specs.Turn.{Run, run}
use Rattle.bays.specs.Bays.{bay_at, clash, free, opened, place_of, put_bay, ranges, wiped, with_grant, with_program, with_stage}
use Rattle.bays.specs.Grants.{checked}
use Rattle.bays.specs.Refusals.{number}
use Rattle.bays.specs.Stages.{at_stage, is_free}
use Rattle.bays.specs.declared.bay.Bay.{Bay}
use Rattle.bays.specs.declared.refusal.Refusal.{Refusal}
use Rattle.bays.specs.declared.refusal.Refusal.TheVariants.{NoSuchBay, OtherStage, Taken}
use Rattle.bays.specs.declared.stage.Stage.{Stage}
use Rattle.bays.specs.declared.stage.Stage.TheVariants.{Preparing, Sealed}
use Rattle.history.specs.Calls.{Act, Answer, Call, Own, Shared, close, copied, copy, done, grant, load, look, open_bay, own, refused, seal, set_all, shared, shown, stop_told, turn, turned}

-- the book is what it says, by its tables
pub record Hall : Type 0 where
  pub book : Tables
  pub bays : List Bay
  pub bytes : List ℕ
  pub footing : List ℕ

-- a new hall has eight free bays
abbrev pub new : Tables → List ℕ → Hall
new b bs = record { book = b; bays = replicate 8 free; bytes = bs; footing = [] }

-- the same hall, with what its store stands on
abbrev pub over : List ℕ → Hall → Hall
over m H = record H { footing = m }

-- what a call is answered, and the hall after it
pub record CallEnd : Type 0 where
  pub answer : Answer
  pub hall : Hall

abbrev pub call_end : Answer → Hall → CallEnd
call_end a H = record { answer = a; hall = H }

-- the program in a bay
pub record Program : Type 0 where
  pub registers : Registers
  pub stop : Option Stop

abbrev pub program : Registers → Option Stop → Program
program r t = record { registers = r; stop = t }

abbrev pub program_of : Bay → Program
program_of b = program b.registers b.stop

-- what load, set, turn, look and copy answer and leave, by what the program may reach, the program and the store's bytes; without a new
-- program the bay stays as it is
pub record OwnEnd : Type 0 where
  pub answer : Answer
  pub program : Option Program
  pub bytes : List ℕ

abbrev pub own_end : Answer → Option Program → List ℕ → OwnEnd
own_end a o bs = record { answer = a; program = o; bytes = bs }

abbrev pub turn_end : Run → OwnEnd
turn_end w =
    own_end (turned w.turned.steps (stop_told w.turned.stop)) (Some (program w.registers w.turned.stop)) w.bytes

-- a standing stop is answered again, with no step
abbrev pub turn_from : Option Stop → ℕ → Tables → Rights → Program → List ℕ → OwnEnd
turn_from (Some t) n b rights p bs = own_end (turned 0 (stop_told (Some t))) None bs
turn_from None n b rights p bs = turn_end (run (reading b) rights n 0 p.registers bs)

abbrev pub end_of : Own → Tables → Rights → Program → List ℕ → OwnEnd
end_of (load at vs) b rights p bs =
    if within rights Load at (length vs) then own_end done None (written bs at vs) else own_end (refused 7) None bs
end_of (set_all r) b rights p bs = own_end done (Some (program r None)) bs
end_of (turn n) b rights p bs = turn_from p.stop n b rights p bs
end_of look b rights p bs = own_end (shown p.registers (stop_told p.stop)) None bs
end_of (copy at n) b rights p bs =
    own_end (if within rights Copy at n then copied (taken bs at n) else refused 7) None bs

abbrev pub changed : Option Program → List Bay → ℕ → List Bay
changed None l k = l
changed (Some p) l k = put_bay l k (with_program (bay_at l k) p.registers p.stop)

abbrev pub settle_own : ℕ → Hall → OwnEnd → CallEnd
settle_own k H e = call_end e.answer (record H { bays = changed e.program H.bays k; bytes = e.bytes })

-- a turn goes at the sealed stage only, the others at the handle's
abbrev pub stage_for : Own → Stage → Stage
stage_for (load at vs) s = s
stage_for (set_all r) s = s
stage_for (turn n) s = Sealed
stage_for look s = s
stage_for (copy at n) s = s

abbrev pub apply_own : ℕ → Stage → Own → Hall → CallEnd
apply_own k s i H =
    if at_stage (stage_for i s) (bay_at H.bays k).stage
    then settle_own k H (end_of i H.book (bay_at H.bays k).rights (program_of (bay_at H.bays k)) H.bytes)
    else call_end (refused 2) H

abbrev pub refusal_of : {T : Type 0} → Result T Refusal → Option Refusal
refusal_of (Ok x) = None
refusal_of (Err e) = Some e

-- open, grant, seal and close: the refusal, if any, by stages and grants alone
abbrev pub verdict : ℕ → Stage → Shared → List Bay → Option Refusal
verdict k s open_bay l =
    if is_some (place_of k) then (if is_free (bay_at l k).stage then None else Some Taken) else Some NoSuchBay
verdict k s (grant g) l =
    if at_stage Preparing (bay_at l k).stage then refusal_of (checked g (ranges (bay_at l k)) (clash g l)) else Some OtherStage
verdict k s seal l = if at_stage Preparing (bay_at l k).stage then None else Some OtherStage
verdict k s close l = if at_stage s (bay_at l k).stage then None else Some OtherStage

abbrev pub bay_after : Shared → Bay → Bay
bay_after open_bay b = opened
bay_after (grant g) b = with_grant b g
bay_after seal b = with_stage b Sealed
bay_after close b = free

-- close makes all bytes of the bay's exclusive grants zero
abbrev pub bytes_after : Shared → Bay → List ℕ → List ℕ
bytes_after open_bay b bs = bs
bytes_after (grant g) b bs = bs
bytes_after seal b bs = bs
bytes_after close b bs = wiped b.rights.grants 0 bs

abbrev pub perform : ℕ → Shared → Hall → Hall
perform k o H = record H { bays = put_bay H.bays k (bay_after o (bay_at H.bays k)); bytes = bytes_after o (bay_at H.bays k) H.bytes }

-- a refusal alters nothing
abbrev pub settle : Option Refusal → ℕ → Shared → Hall → CallEnd
settle None k o H = call_end done (perform k o H)
settle (Some r) k o H = call_end (refused (number r)) H

abbrev pub apply_act : ℕ → Stage → Act → Hall → CallEnd
apply_act k s (own i) H = apply_own k s i H
apply_act k s (shared o) H = settle (verdict k s o H.bays) k o H

abbrev pub apply : Call → Hall → CallEnd
apply c H = apply_act c.bay c.held c.act H
