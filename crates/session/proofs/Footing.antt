-- Requests over a store, whatever it stands on.
use Rattle.std.proofs.Common.{◌≡◌, ℕ, zero, suc, List, [], ◌∷◌, ◌++◌, Some, None, Option, refl, ap, ◌∙◌}
use Rattle.bays.specs.Bays.{bay_at}
use Rattle.bays.specs.declared.stage.Stage.{Stage}
use Rattle.history.proofs.Footing.{any_footing, apply_over}
use Rattle.history.specs.Calls.{Act, Answer, Call, call, close, shared}
use Rattle.history.specs.Hall.{CallEnd, Hall, over}
use Rattle.history.specs.History.{after, answers}
use Rattle.session.proofs.Stages.{served_by}
use Rattle.session.specs.Serve.{Ending, RequestEnd, act_of, calls_of, closed_to, driven, ending_from, fitting, history, left, replies, request_end, serve}
use Rattle.session.specs.declared.request.Request.{Request}

abbrev served_over : List ℕ → RequestEnd → RequestEnd
served_over m s = request_end s.reply (over m s.hall)

serve_over : (m : List ℕ) (n : ℕ) (c : Act) (H : Hall) → serve n c (over m H) ≡ served_over m (serve n c H)
serve_over m n c H = by_stage (fitting c (bay_at H.bays n).stage)
  where
    by_stage : (o : Option Stage) → served_by o n c (over m H) ≡ served_over m (served_by o n c H)
    by_stage None = refl
    by_stage (Some s) = ap (λ (t : CallEnd). request_end (Some t.answer) t.hall) (apply_over m (call n s c) H)

pub replies_over : (m : List ℕ) (qs : List Request) (H : Hall) → replies qs (over m H) ≡ replies qs H
replies_over m [] H = refl
replies_over m (q ∷ qs) H =
    (let e = serve_over m q.bay (act_of q.deed) H in λ i. (e i).reply ∷ replies qs (e i).hall)
    ∙ ap (λ (l : List (Option Answer)). (serve q.bay (act_of q.deed) H).reply ∷ l) (replies_over m qs (serve q.bay (act_of q.deed) H).hall)

pub history_over : (m : List ℕ) (qs : List Request) (H : Hall) → history qs (over m H) ≡ history qs H
history_over m [] H = refl
history_over m (q ∷ qs) H =
    ap (λ (h : List Call). calls_of q.bay (act_of q.deed) H ++ h)
    (ap (λ (s : RequestEnd). history qs s.hall) (serve_over m q.bay (act_of q.deed) H) ∙ history_over m qs (serve q.bay (act_of q.deed) H).hall)

closed_over : (m : List ℕ) (n : ℕ) (H : Hall) → closed_to n (over m H) ≡ over m (closed_to n H)
unfolding closed_to
closed_over m zero H = refl
closed_over m (suc n) H =
    ap (λ (K : Hall). (serve (suc n) (shared close) K).hall) (closed_over m n H)
    ∙ ap (λ (s : RequestEnd). s.hall) (serve_over m (suc n) (shared close) (closed_to n H))

pub driven_over : (m : List ℕ) (qs : List Request) (H : Hall) → driven qs (over m H) ≡ over m (driven qs H)
driven_over m qs H =
    ap left (ap (λ (h : List Call). after h (over m H)) (history_over m qs H) ∙ (any_footing m (history qs H) H).1)
    ∙ closed_over m 8 (after (history qs H) H)

pub same_ending : (r s : List (Option Answer)) (a b : List Answer) (xs ys : List ℕ) → r ≡ s → a ≡ b → xs ≡ ys
    → ◌≡◌ {A = Ending} (record { replies = r; answers = a; bytes = xs }) (record { replies = s; answers = b; bytes = ys })
same_ending r s a b xs ys p o q = λ i. record { replies = p i; answers = o i; bytes = q i }

pub ending_over : (m : List ℕ) (qs : List Request) (H : Hall) → ending_from qs (over m H) ≡ ending_from qs H
ending_over m qs H =
    same_ending _ _ _ _ _ _ (replies_over m qs H)
    (ap (λ (h : List Call). answers h (over m H)) (history_over m qs H) ∙ (any_footing m (history qs H) H).0)
    (ap (λ (K : Hall). K.bytes) (driven_over m qs H))
