-- One request more, and what is said to all of them as answers of a history.
use Rattle.std.proofs.Common.{◌≡◌, ℕ, ◌+◌, ◌<◌, ◌≤◌, List, [], ◌∷◌, ◌++◌, length, get_or, drop, Some, None, Option, sym, refl, ap, ◌∙◌, append_assoc}
use Rattle.std.specs.Prelude.{map}
use Rattle.std.proofs.lemmas.List.{append-nil, at_drop_all, at_drop_more, map-append}
use Rattle.bays.specs.Bays.{bay_at}
use Rattle.bays.specs.declared.stage.Stage.{Stage}
use Rattle.history.specs.Calls.{Answer, call}
use Rattle.history.specs.Hall.{Hall, apply}
use Rattle.history.specs.History.{after, answers}
use Rattle.session.proofs.Stages.{served_by}
use Rattle.session.specs.Serve.{act_of, calls_by, fitting, history, replies, request_end, said, serve, spoken}
use Rattle.session.specs.declared.request.Reply.{Reply}
use Rattle.session.specs.declared.request.Request.{Request}

-- the answers among what is said are those of the calls that are made
pub spoken_is : (qs : List Request) (H : Hall) → spoken (replies qs H) ≡ answers (history qs H) H
spoken_is [] H = refl
spoken_is (q ∷ qs) H = by_stage (fitting (act_of q.deed) (bay_at H.bays q.bay).stage) (spoken_is qs)
  where
    by_stage : (o : Option Stage) → ((K : Hall) → spoken (replies qs K) ≡ answers (history qs K) K) → spoken ((served_by o q.bay (act_of q.deed) H).reply ∷ replies qs (served_by o q.bay (act_of q.deed) H).hall) ≡ answers (calls_by o q.bay (act_of q.deed) ++ (history qs (served_by o q.bay (act_of q.deed) H).hall)) H
    by_stage None k = k H
    by_stage (Some s) k = ap (λ (l : List Answer). (apply (call q.bay s (act_of q.deed)) H).answer ∷ l) (k (apply (call q.bay s (act_of q.deed)) H).hall)

-- what was said so far, and what is still to be said
pub said_on : (qs : List Request) (i : ℕ) (q : Request) (H K : Hall) (vs : List Reply) (r : Reply) → i < length qs → get_or qs i q ≡ q
    → request_end (said r) K ≡ serve q.bay (act_of q.deed) H
    → map said (vs ++ r ∷ []) ++ replies (drop (i + 1) qs) K ≡ map said vs ++ replies (drop i qs) H
said_on qs i q H K vs r h g m =
    ap (λ (l : List (Option Answer)). l ++ replies (drop (i + 1) qs) K) (map-append said vs (r ∷ []))
    ∙ append_assoc (map said vs) (said r ∷ []) (replies (drop (i + 1) qs) K)
    ∙ (λ j. map said vs ++ ((m j).reply ∷ replies (drop (i + 1) qs) (m j).hall))
    ∙ ap (λ (p : Request). map said vs ++ replies (p ∷ drop (i + 1) qs) H) (sym g)
    ∙ sym (ap (λ (l : List (Option Answer)). map said vs ++ l) (at_drop_more (λ (l : List Request). replies l H) qs i q h))

-- nothing is still to be said
pub said_all : (qs : List Request) (i : ℕ) (G H : Hall) (vs : List Reply) → length qs ≤ i → map said vs ++ replies (drop i qs) H ≡ replies qs G → map said vs ≡ replies qs G
said_all qs i G H vs h e = sym (append-nil (map said vs)) ∙ sym (at_drop_all (λ (l : List Request). map said vs ++ replies l H) qs i h) ∙ e

-- the hall after requests is that after the calls that they make
abbrev pub hall_after : List Request → Hall → Hall
hall_after [] H = H
hall_after (q ∷ qs) H = hall_after qs (serve q.bay (act_of q.deed) H).hall

pub after_is : (qs : List Request) (H : Hall) → hall_after qs H ≡ after (history qs H) H
after_is [] H = refl
after_is (q ∷ qs) H = by_stage (fitting (act_of q.deed) (bay_at H.bays q.bay).stage) (after_is qs)
  where
    by_stage : (o : Option Stage) → ((K : Hall) → hall_after qs K ≡ after (history qs K) K) → hall_after qs (served_by o q.bay (act_of q.deed) H).hall ≡ after (calls_by o q.bay (act_of q.deed) ++ (history qs (served_by o q.bay (act_of q.deed) H).hall)) H
    by_stage None k = k H
    by_stage (Some s) k = k (apply (call q.bay s (act_of q.deed)) H).hall

-- one request is served_by, and the rest is still to be
pub on_after : (qs : List Request) (i : ℕ) (q : Request) (H K : Hall) → i < length qs → get_or qs i q ≡ q → K ≡ (serve q.bay (act_of q.deed) H).hall → hall_after (drop (i + 1) qs) K ≡ hall_after (drop i qs) H
on_after qs i q H K h g m =
    ap (hall_after (drop (i + 1) qs)) m
    ∙ ap (λ (p : Request). hall_after (p ∷ drop (i + 1) qs) H) (sym g)
    ∙ sym (at_drop_more (λ (l : List Request). hall_after l H) qs i q h)

pub all_after : (qs : List Request) (i : ℕ) (H : Hall) → length qs ≤ i → hall_after (drop i qs) H ≡ H
all_after qs i H h = at_drop_all (λ (l : List Request). hall_after l H) qs i h
