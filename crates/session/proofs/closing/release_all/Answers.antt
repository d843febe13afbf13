use Rattle.std.proofs.Common.{◌≡◌, ◌+◌, ◌-◌, ◌<◌, ℕ, true, slice_index_or, slice_set, List, length, ap, arith, refl, subst, sym, ◌∙◌}
use Rattle.history.specs.Calls.{close, shared}
use Rattle.history.specs.Hall.{Hall}
use Rattle.session.proofs.Fitting.{anew, closed_on, counted, held, let_go, one_more_empty, serve_keeps}
use Rattle.session.proofs.Stages.{stage_of}
use Rattle.session.specs.Serve.{Fits, all_fit, closed_to}
use Rattle.session.specs.declared.slot.Slot.{Slot}
use Rattle.session.specs.declared.slot.Slot.TheVariants.{Empty}
use Rattle.session.proofs.closing.release_all.Goals as goal

pub loop-place-init : goal.loop-place-init
unfolding closed_to
loop-place-init g c = (c.requires, (λ i h. absurd (omega arith)), refl)

pub release-requires : goal.release-requires
release-requires g c =
    let n : ℕ = c.loop-place.place + 1 in
    let m : n - 1 ≡ c.from.result = let e = c.from.ensures in omega arith in
    let e = c.take-slot.ensures.taken ∙ ap (λ (j : ℕ). slice_index_or c.loop-place.slots j Empty) (sym m) in
    subst (Fits c.loop-place.hall.bays n) (sym e) (held n c.loop-place.hall c.loop-place.slots (omega arith) (let t = c.loop-place-test.true in omega arith) c.loop-place.invariant.0)

pub loop-place-preserved : goal.loop-place-preserved
loop-place-preserved g c =
    let H : Hall = c.loop-place.hall in
    let K : Hall = c.release.new.hall in
    let p : ℕ = c.loop-place.place in
    let n : ℕ = p + 1 in
    let m : n - 1 ≡ p = omega arith in
    let f = ap (λ (G : Hall). stage_of G.bays n) c.release.ensures ∙ let_go n H in
    let e = c.take-slot.ensures.left ∙ ap (λ (j : ℕ). slice_set c.loop-place.slots j Empty) c.from.ensures in
    let a = subst (λ (j : ℕ). all_fit K.bays (slice_set c.loop-place.slots j Empty) ≡ true) m (anew n H K c.loop-place.slots Empty (omega arith) c.loop-place.invariant.0 (serve_keeps n (shared close) H K c.release.ensures) f) in
    let h : p < length c.loop-place.slots = let q : length c.loop-place.slots ≡ 8 = (counted _ _ c.loop-place.invariant.0).1.0 in let t = c.loop-place-test.true in omega arith in
    (subst (λ (l : List Slot). all_fit K.bays l ≡ true) (sym e) a, λ i l. ap (λ (v : List Slot). slice_index_or v i Empty) e ∙ one_more_empty c.loop-place.slots p h c.loop-place.invariant.1 i l, closed_on p c.args.hall.now H K c.loop-place.invariant.2 c.release.ensures)
