use Rattle.std.proofs.Common.{◌+◌, ◌++◌, ℕ, List, ap, drop, subst, sym, ◌∙◌}
use Rattle.std.specs.Prelude.{map}
use Rattle.history.specs.Hall.{Hall}
use Rattle.session.proofs.Replies.{after_is, all_after, on_after, said_all, said_on, spoken_is}
use Rattle.session.specs.Serve.{Made, RequestEnd, act_of, replies, said, serve, spoken}
use Rattle.session.specs.declared.request.Reply.{Reply}
use Rattle.session.specs.declared.request.Request.{Request}
use Rattle.session.proofs.session.Session.serve_all.Goals as goal

pub loop-request-preserved : goal.loop-request-preserved
loop-request-preserved g c =
    let H : Hall = c.loop-request.self in
    let K : Hall = c.serve.new.self in
    let q : Request = c.request-item.result in
    let i : ℕ = c.loop-request.request-index in
    let qs : List Request = c.args.requests.now in
    let m = subst (λ r. Made r H K (serve q.bay (act_of q.deed) H)) c.in_ok-serve.was c.serve.ensures in (
      ap (λ (l : List Reply). map said l ++ replies (drop (i + 1) qs) K) c.in_ok-push.ensures.items
          ∙ said_on qs i q H K c.loop-request.replies.items c.in_ok-serve.field-0 c.loop-request-test.true (sym c.request-item.is) m
          ∙ c.loop-request.invariant.0,
      on_after qs i q H K c.loop-request-test.true (sym c.request-item.is) (ap (λ (e : RequestEnd). e.hall) m) ∙ c.loop-request.invariant.1,
    )

pub returns-clause-replies : goal.returns-clause-replies
returns-clause-replies g c = said_all c.args.requests.now c.loop-request.request-index c.args.self.now c.loop-request.self c.loop-request.replies.items c.loop-request-test.false c.loop-request.invariant.0

pub returns-clause-answers : goal.returns-clause-answers
returns-clause-answers g c =
    let qs : List Request = c.args.requests.now in
    ap spoken (said_all qs c.loop-request.request-index c.args.self.now c.loop-request.self c.loop-request.replies.items c.loop-request-test.false c.loop-request.invariant.0) ∙ spoken_is qs c.args.self.now

pub returns-clause-after : goal.returns-clause-after
returns-clause-after g c =
    let qs : List Request = c.args.requests.now in
    sym (all_after qs c.loop-request.request-index c.loop-request.self c.loop-request-test.false) ∙ c.loop-request.invariant.1 ∙ after_is qs c.args.self.now
