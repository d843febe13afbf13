use Rattle.std.proofs.Common.{◌+◌, ◌<◌, length, refl, sym, ap, ◌∙◌, subst, arith, rules, length-set}
use Rattle.bays.proofs.Bytes.{ZeroedTo, zeroed_more, zeroed_none, wiped_exclusive, wiped_shared}
use Rattle.bays.proofs.wiping.wipe_grant.Goals as goal

pub loop-at-init : goal.loop-at-init
loop-at-init g c = (omega arith, zeroed_none c.args.grant.first (g.S.Store.bytes c.args.store.now), search rules, refl)

pub loop-at-preserved : goal.loop-at-preserved
loop-at-preserved g c =
    let i = c.loop-at.invariant in
    let bs = g.S.Store.bytes c.loop-at.store in
    let there : c.loop-at.at < length bs = omega (arith, i.2) in (
      omega arith,
      subst (ZeroedTo c.args.grant.first (c.loop-at.at + 1) (g.S.Store.bytes c.args.store.now)) (sym c.write.ensures.bytes) (zeroed_more c.args.grant.first c.loop-at.at _ bs c.loop-at.auto.at there i.1),
      ap length c.write.ensures.bytes ∙ length-set bs c.loop-at.at 0 ∙ i.2,
      c.write.ensures.footing ∙ i.3,
    )

pub returns-then-permits-clause-bytes : goal.returns-then-permits-clause-bytes
returns-then-permits-clause-bytes g c = wiped_exclusive c.args.grant c.loop-at.at _ _ (sym c.if-permits.ensures) c.loop-at-test.false (omega arith) c.loop-at.invariant.1

pub returns-then-permits-2-clause-bytes : goal.returns-then-permits-2-clause-bytes
returns-then-permits-2-clause-bytes g c =
    let there : c.loop-at.at < length (g.S.Store.bytes c.loop-at.store) = omega (arith, c.loop-at.invariant.2) in
    c.write.ensures.bytes
    ∙ wiped_exclusive c.args.grant (c.loop-at.at + 1) _ _ (sym c.if-permits.ensures) (omega arith) (omega arith) (zeroed_more c.args.grant.first c.loop-at.at _ _ c.loop-at.auto.at there c.loop-at.invariant.1)

pub returns-else-permits-clause-bytes : goal.returns-else-permits-clause-bytes
returns-else-permits-clause-bytes g c = wiped_shared c.args.grant (g.S.Store.bytes c.args.store.now) (sym c.if-permits.ensures)
