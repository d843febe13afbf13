use Rattle.std.proofs.Common.{drop, ◌+◌, sym, ap, ◌∙◌}
use Rattle.bays.specs.Bays.{wiped}
use Rattle.bays.proofs.Bytes.{wiped_next, wiped_past}
use Rattle.bays.proofs.wiping.wipe_places.Goals as goal

pub loop-place-preserved : goal.loop-place-preserved
loop-place-preserved g c =
    let gs = c.args.places.now in
    let i = c.loop-place.place-index in (
      ap (wiped (drop (i + 1) gs) 0) c.wipe_place.ensures.bytes ∙ sym (wiped_next gs i (g.S.Store.bytes c.loop-place.store)) ∙ c.loop-place.invariant.0,
      c.wipe_place.ensures.footing ∙ c.loop-place.invariant.1,
    )

pub returns-clause-bytes : goal.returns-clause-bytes
returns-clause-bytes g c = sym (wiped_past c.args.places.now c.loop-place.place-index _ c.loop-place-test.false) ∙ c.loop-place.invariant.0
