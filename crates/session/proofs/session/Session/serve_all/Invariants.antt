use Rattle.std.proofs.Common.{◌≡◌, ◌++◌, drop, vec_items}
use Rattle.std.specs.Prelude.{map}
use Rattle.session.proofs.Replies.{hall_after}
use Rattle.session.specs.Serve.{replies, said}
use Rattle.session.proofs.session.Session.serve_all.Given as goal

abbrev pub invariant-loop-request : goal.invariant-loop-request
invariant-loop-request g l =
    (map said (vec_items l.replies) ++ replies (drop l.request-index l.requests) l.self ≡ replies l.requests l.initial.self)
    × (hall_after (drop l.request-index l.requests) l.self ≡ hall_after l.requests l.initial.self)
