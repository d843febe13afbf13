-- What a list of requests is answered by one who keeps the handles.
use Rattle.std.specs.Prelude.{◌≡◌, ℕ, zero, suc, Bool, true, ◌&&◌, List, [], ◌∷◌, ◌++◌, length, Some, None, Ok, Err, vec_items, map, Option, Result, ◌==◌}
use Rattle.bays.specs.Bays.{bay_at}
use Rattle.bays.specs.Refusals.{number}
use Rattle.bays.specs.Stages.{at_stage, is_free}
use Rattle.bays.specs.declared.bay.Bay.{Bay}
use Rattle.bays.specs.declared.refusal.Refusal.{Refusal}
use Rattle.bays.specs.declared.stage.Stage.{Stage}
use Rattle.bays.specs.declared.stage.Stage.TheVariants as stage
use Rattle.book.specs.declared.book.Book.{Book}
use Rattle.hall.specs.declared.shown.Shown.{Shown as Look}
use Rattle.history.specs.Calls.{Act, Answer, Call, answered, call, close, copied, copy, done, grant, load, look, open_bay, own, refused, seal, set_all, shared, shown, stop_told, turn, turned}
use Rattle.history.specs.Hall.{Hall, new}
use Rattle.history.specs.History.{after, answers}
use Rattle.session.specs.declared.request.Deed.{Deed}
use Rattle.session.specs.declared.request.Deed.TheVariants.{Open, Grant, Seal, Close, Set, Turn, Look as LookAt, Load, Copy}
use Rattle.session.specs.declared.request.Reply.{Reply}
use Rattle.session.specs.declared.request.Reply.TheVariants.{NoHandle, Refused, Done, Turned, Shown, Copied}
use Rattle.session.specs.declared.request.Request.{Request}
use Rattle.session.specs.declared.slot.Slot.{Slot}
use Rattle.session.specs.declared.slot.Slot.TheVariants.{Empty, Preparing, Sealed}

-- a reply as an answer; without a handle there is none
abbrev pub said : Reply → Option Answer
said NoHandle = None
said (Refused e) = Some (refused (number e))
said Done = Some done
said (Turned t) = Some (turned t.steps (stop_told t.stop))
said (Shown s) = Some (shown s.registers (stop_told s.stop))
said (Copied v) = Some (copied (vec_items v))

abbrev pub said_done : Result (Unit {0}) Refusal → Option Answer
said_done r = Some (answered (λ _. done) (λ e. e) r)

abbrev pub said_shown : Result Look Refusal → Option Answer
said_shown r = Some (answered (λ (s : Look). shown s.registers (stop_told s.stop)) (λ e. e) r)

-- the call that is asked for
abbrev pub act_of : Deed → Act
act_of Open = shared open_bay
act_of (Grant g) = shared (grant g)
act_of Seal = shared seal
act_of Close = shared close
act_of (Load at v) = own (load at (vec_items v))
act_of (Set r) = own (set_all r)
act_of (Turn n) = own (turn n)
act_of LookAt = own look
act_of (Copy at n) = own (copy at n)

-- the stage of the handle that a call needs, if it is held: that of the bay, and for some calls one stage only
abbrev pub if_preparing : Option Stage → Option Stage
if_preparing None = None
if_preparing (Some stage.Preparing) = Some stage.Preparing
if_preparing (Some stage.Sealed) = None

abbrev pub if_sealed : Option Stage → Option Stage
if_sealed None = None
if_sealed (Some stage.Preparing) = None
if_sealed (Some stage.Sealed) = Some stage.Sealed

abbrev pub fitting : Act → Option Stage → Option Stage
fitting (shared open_bay) o = Some stage.Preparing
fitting (shared (grant g)) o = if_preparing o
fitting (shared seal) o = if_preparing o
fitting (shared close) o = o
fitting (own (load at v)) o = o
fitting (own (set_all r)) o = o
fitting (own (turn n)) o = if_sealed o
fitting (own look) o = o
fitting (own (copy at n)) o = o

-- the calls that are made: none without such a handle
abbrev pub calls_by : Option Stage → ℕ → Act → List Call
calls_by None n c = []
calls_by (Some s) n c = call n s c ∷ []

abbrev pub calls_of : ℕ → Act → Hall → List Call
calls_of n c H = calls_by (fitting c (bay_at H.bays n).stage) n c

-- what is said of the answers to them
abbrev pub reply_by : List Answer → Option Answer
reply_by [] = None
reply_by (a ∷ l) = Some a

-- what is said to a request, and the hall after it
pub record RequestEnd : Type 0 where
  pub reply : Option Answer
  pub hall : Hall

abbrev pub request_end : Option Answer → Hall → RequestEnd
request_end o H = record { reply = o; hall = H }

abbrev pub served : List Call → Hall → RequestEnd
served h H = request_end (reply_by (answers h H)) (after h H)

abbrev pub serve : ℕ → Act → Hall → RequestEnd
serve n c H = served (calls_of n c H) H

-- the calls that a list of requests makes, and what is said to each request
abbrev pub history : List Request → Hall → List Call
history [] H = []
history (q ∷ qs) H =
    calls_of q.bay (act_of q.deed) H ++ history qs (serve q.bay (act_of q.deed) H).hall

abbrev pub replies : List Request → Hall → List (Option Answer)
replies [] H = []
replies (q ∷ qs) H =
    (serve q.bay (act_of q.deed) H).reply ∷ replies qs (serve q.bay (act_of q.deed) H).hall

-- what of the replies is an answer
abbrev pub spoken_on : Option Answer → List Answer → List Answer
spoken_on None l = l
spoken_on (Some a) l = a ∷ l

abbrev pub spoken : List (Option Answer) → List Answer
spoken [] = []
spoken (o ∷ os) = spoken_on o (spoken os)

-- the slot holds the handle of the bay n, at its stage
abbrev pub Fits : List Bay → ℕ → Slot → Type 0
Fits l n Empty = (bay_at l n).stage ≡ None
Fits l n (Preparing p) = (p.bay ≡ n) × ((bay_at l n).stage ≡ Some stage.Preparing)
Fits l n (Sealed s) = (s.bay ≡ n) × ((bay_at l n).stage ≡ Some stage.Sealed)

-- the same as a test, of all slots from a bay on
abbrev pub fits : List Bay → ℕ → Slot → Bool
fits l n Empty = is_free (bay_at l n).stage
fits l n (Preparing p) = p.bay == n && at_stage stage.Preparing (bay_at l n).stage
fits l n (Sealed s) = s.bay == n && at_stage stage.Sealed (bay_at l n).stage

unfoldable pub fits_from : List Bay → ℕ → List Slot → Bool
fits_from l n [] = true
fits_from l n (s ∷ ss) = fits l n s && fits_from l (suc n) ss

-- eight bays and eight slots, each with the handle of its bay
abbrev pub all_fit : List Bay → List Slot → Bool
all_fit l ss = (length l == 8 && length ss == 8) && fits_from l 1 ss

-- a request that was served, or not even made for want of memory
abbrev pub Made : {E : Type 0} → Result Reply E → Hall → Hall → RequestEnd → Type 0
Made (Ok r) H K s = request_end (said r) K ≡ s
Made (Err e) H K s = K ≡ H

-- the hall after the handles of the bays 1, 2, .. are given to close
unfoldable pub closed_to : ℕ → Hall → Hall
closed_to zero H = H
closed_to (suc n) H = (serve (suc n) (shared close) (closed_to n H)).hall

-- the hall at the end of a session
abbrev pub left : Hall → Hall
left H = closed_to 8 H

-- the hall after all that is requested, at the end of the session
abbrev pub driven : List Request → Hall → Hall
driven qs H = left (after (history qs H) H)

-- what the requests are replied, what of it is an answer, and the bytes that the hall leaves
pub record Ending : Type 0 where
  pub replies : List (Option Answer)
  pub answers : List Answer
  pub bytes : List ℕ

abbrev pub ending : List Reply → List ℕ → Ending
ending told bytes = record {
  replies = map said told;
  answers = spoken (map said told);
  bytes = bytes;
}

-- with the answers of the history that the requests make
abbrev pub ending_from : List Request → Hall → Ending
ending_from qs H = record {
  replies = replies qs H;
  answers = answers (history qs H) H;
  bytes = (driven qs H).bytes;
}

-- from a new hall over these bytes
abbrev pub ending_of : List Request → Book → List ℕ → Ending
ending_of qs book bytes = ending_from qs (new book.tables bytes)
