use Rattle.std.proofs.Common.{◌<◌, Some, ap, arith, length, sym, ◌∙◌}
use Rattle.std.proofs.lemmas.List.{get_or_default}
use Rattle.access.specs.Access.{covers_all}
use Rattle.access.specs.Cache.{no_bytes, spans}
use Rattle.access.specs.declared.rights.Rights.{Rights}
use Rattle.access.specs.declared.rights.Grant.{Grant}
use Rattle.access.proofs.reach.Reach.hits.Goals as goal

pub returns : goal.returns
returns c e =
    let near = c.self.inside.cache in
    let pages = c.self.inside.paged in
    let page = c.from.ensures in
    let fits = c.ranges.first.fits in
    let there : c.from.result < length near = omega arith in
    ap (λ (rights : Rights). spans rights c.args.purpose c.args.first c.args.last) (sym c.self.view_is)
    ∙ c.self.inside.among c.from.result c.args.purpose c.args.first c.args.last c.requires
    (ap (λ (grant : Grant). covers_all (Some grant) c.args.purpose c.args.first c.args.last) (get_or_default near c.from.result no_bytes _ there) ∙ sym c.covers.ensures ∙ e)
