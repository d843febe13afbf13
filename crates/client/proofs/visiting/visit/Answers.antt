use Rattle.std.proofs.Common.{ℕ, List, nat_le, ap, ◌∙◌}
use Rattle.history.specs.Hall.{CallEnd, new, over}
use Rattle.client.proofs.Visits.{grant_answer, not_granted, open_done, prepared, seal_done, told_grant, turned_stage}
use Rattle.client.proofs.visiting.visit.Goals as goal

pub returns-in_err-preparing : goal.returns-in_err-preparing
returns-in_err-preparing g c =
    let z = ap (λ (t : CallEnd). t.answer) c.in_err-preparing.ensures.is ∙ open_done c.new-hall.result (g.S.Store.footing c.args.store) c.args.book.tables (g.S.Store.bytes c.args.store) c.new-hall.ensures.made in
    cc

pub leave-requires : goal.leave-requires
leave-requires g c =
    let e = c.in_ok-preparing.ensures in
    prepared c.in_ok-preparing.preparing.bay c.new-hall.result c.open.new.self c.grant.new.self c.args.grant e.named (ap (λ (t : CallEnd). t.hall) e.is) e.eight (ap (λ (t : CallEnd). t.answer) e.is) (ap (λ (t : CallEnd). t.hall) c.grant.ensures)

pub returns-in-Err : goal.returns-in-Err
returns-in-Err g c =
    let bs : List ℕ = g.S.Store.bytes c.args.store in
    let m : List ℕ = g.S.Store.footing c.args.store in
    let e = c.in_ok-preparing.ensures in
    let t = told_grant c.in_ok-preparing.preparing.bay (over m (new c.args.book.tables bs)) c.new-hall.result c.open.new.self c.args.grant e.named c.new-hall.ensures.made (ap (λ (t : CallEnd). t.hall) e.is) in
    not_granted (nat_le c.args.grant.first c.args.grant.last) _ _ (ap (λ (x : CallEnd). x.answer) (c.in-Err.ensures ∙ t) ∙ grant_answer c.args.grant m c.args.book.tables bs)

pub unreachable-requires : goal.unreachable-requires
unreachable-requires g c =
    let e = c.in_ok-preparing.ensures in
    let m = c.in_ok-preparing.preparing.bay in
    let p = prepared m c.new-hall.result c.open.new.self c.grant.new.self c.args.grant e.named (ap (λ (t : CallEnd). t.hall) e.is) e.eight (ap (λ (t : CallEnd). t.answer) e.is) (ap (λ (t : CallEnd). t.hall) c.grant.ensures) in
    let z = ap (λ (t : CallEnd). t.answer) c.in-Err-seal.ensures.is ∙ seal_done m c.grant.new.self p in
    cc

pub leave-requires-2 : goal.leave-requires-2
leave-requires-2 g c =
    let e = c.in_ok-preparing.ensures in
    let m = c.in_ok-preparing.preparing.bay in
    let p = prepared m c.new-hall.result c.open.new.self c.grant.new.self c.args.grant e.named (ap (λ (t : CallEnd). t.hall) e.is) e.eight (ap (λ (t : CallEnd). t.answer) e.is) (ap (λ (t : CallEnd). t.hall) c.grant.ensures) in
    turned_stage c.in-Ok.sealed.bay m _ c.grant.new.self c.seal.new.self c.turn-turned.new.self c.in-Ok.ensures.named p (ap (λ (t : CallEnd). t.hall) c.in-Ok.ensures.is) (ap (λ (t : CallEnd). t.hall) c.turn-turned.ensures)
