use Rattle.std.proofs.Common.{List, ap, ◌∙◌, ℕ}
use Rattle.history.specs.Hall.{Hall, new}
use Rattle.session.proofs.Footing.{driven_over, ending_over, same_ending}
use Rattle.session.specs.Serve.{driven, ending_from, left}
use Rattle.session.proofs.driving.drive.Goals as goal

pub returns-clause-driven : goal.returns-clause-driven
returns-clause-driven g c =
    let qs = c.args.requests.now in
    let d = ap left c.in_ok-replies.ensures.after in
    same_ending _ _ _ _ _ _ c.in_ok-replies.ensures.replies c.in_ok-replies.ensures.answers (c.finish.ensures.bytes ∙ ap (λ (K : Hall). K.bytes) d)
    ∙ ap (ending_from qs) c.new-session.ensures
    ∙ ending_over (g.S.Store.footing c.args.store) qs (new c.args.book.tables (g.S.Store.bytes c.args.store))

pub returns-clause-footing : goal.returns-clause-footing
returns-clause-footing g c =
    let qs = c.args.requests.now in
    let m : List ℕ = g.S.Store.footing c.args.store in
    let d = ap left c.in_ok-replies.ensures.after ∙ ap (driven qs) c.new-session.ensures ∙ driven_over m qs (new c.args.book.tables (g.S.Store.bytes c.args.store)) in
    c.finish.ensures.footing ∙ ap (λ (K : Hall). K.footing) d
