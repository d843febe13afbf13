use Rattle.std.proofs.Common.{◌≡◌, ap, rules, ◌∙◌}
use Rattle.session.specs.Serve.{ending, ending_of}
use Rattle.session.proofs.driving.drive_lent.Goals as goal

pub returns-clause-driven : goal.returns-clause-driven
returns-clause-driven g c =
    let e = c.in_ok-lent.ensures.driven ∙ ap (λ s. ending_of c.args.requests.now c.args.book (g.S.Store.bytes s.now)) c.new.ensures in
    search rules

pub returns-clause-footing : goal.returns-clause-footing
returns-clause-footing g c =
    let f = c.in_ok-lent.ensures.footing in
    search rules
