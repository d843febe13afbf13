use Rattle.std.proofs.Common.{◌≡◌, ◌-◌, ◌<◌, ◌⊎◌, ℕ, true, slice_index_or, slice_set, ap, arith, subst, sym, ◌∙◌}
use Rattle.std.proofs.lemmas.Bool.Decides.{nat_tests}
use Rattle.history.specs.Hall.{Hall}
use Rattle.session.proofs.Fitting.{anew, beyond, counted, emptied, held, made_keeps, set_again, unmade}
use Rattle.session.proofs.Stages.{stage_of}
use Rattle.session.specs.Serve.{Fits, act_of, all_fit}
use Rattle.session.specs.declared.slot.Slot.TheVariants.{Empty}
use Rattle.session.proofs.session.Session.serve.Goals as goal

pub act_in-slot-requires : goal.act_in-slot-requires
act_in-slot-requires g c = beyond c.self.inside.hall.bays c.args.request.now.bay (counted _ _ c.self.invariant).0 (grind (arith, nat_tests))

pub discard-requires : goal.discard-requires
discard-requires g c =
    let H : Hall = c.self.inside.hall in
    let n = c.args.request.now.bay in
    let out : (n < 1) ⊎ (8 < n) = grind (arith, nat_tests) in
    let e = beyond H.bays n (counted _ _ c.self.invariant).0 out in
    let u = unmade _ n (act_of c.args.request.now.deed) H c.act_in-slot.new.hall out e c.act_in-slot.ensures.made in
    emptied _ n _ c.act_in-slot.ensures.fits (ap (λ (K : Hall). stage_of K.bays n) u ∙ e)

pub invariant_of-self : goal.invariant_of-self
invariant_of-self g c =
    let H : Hall = c.self.inside.hall in
    let n = c.args.request.now.bay in
    let out : (n < 1) ⊎ (8 < n) = grind (arith, nat_tests) in
    let e = beyond H.bays n (counted _ _ c.self.invariant).0 out in
    let u = unmade _ n (act_of c.args.request.now.deed) H c.act_in-slot.new.hall out e c.act_in-slot.ensures.made in
    subst (λ (K : Hall). all_fit K.bays c.self.inside.slots ≡ true) (sym u) c.self.invariant

pub act_in-slot-requires-2 : goal.act_in-slot-requires-2
act_in-slot-requires-2 g c =
    let H : Hall = c.self.inside.hall in
    let n = c.args.request.now.bay in
    let i : ℕ = c.from-place.result - 1 in
    let e = c.take-slot.ensures.taken ∙ ap (λ (j : ℕ). slice_index_or c.self.inside.slots (j - 1) Empty) c.from-place.ensures in
    subst (Fits H.bays n) (sym e) (held n H c.self.inside.slots (grind (arith, nat_tests)) (grind (arith, nat_tests)) c.self.invariant)

pub invariant_of-self-2 : goal.invariant_of-self-2
invariant_of-self-2 g c =
    let H : Hall = c.self.inside.hall in
    let n = c.args.request.now.bay in
    let k = made_keeps _ n (act_of c.args.request.now.deed) H c.act_in-slot-2.new.hall c.act_in-slot-2.ensures.made in
    let e = c.put.ensures ∙ ap (λ l. slice_set l (c.from-place.result - 1) c.act_in-slot-2.result.0) c.take-slot.ensures.left ∙ set_again c.self.inside.slots (c.from-place.result - 1) Empty c.act_in-slot-2.result.0 ∙ ap (λ (j : ℕ). slice_set c.self.inside.slots (j - 1) c.act_in-slot-2.result.0) c.from-place.ensures in
    subst (λ l. all_fit c.act_in-slot-2.new.hall.bays l ≡ true) (sym e) (anew n H c.act_in-slot-2.new.hall c.self.inside.slots c.act_in-slot-2.result.0 (grind (arith, nat_tests)) c.self.invariant k c.act_in-slot-2.ensures.fits)
