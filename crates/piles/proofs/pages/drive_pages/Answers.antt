use Rattle.std.proofs.Common.{◌≡◌, ℕ, List, ap, sym, rules, ◌∙◌}
use Rattle.piles.proofs.Seams.{same_rest, same_start}
use Rattle.session.specs.Serve.{ending, ending_of}
use Rattle.stores.specs.Mapped.{mapped_bytes}
use Rattle.piles.proofs.pages.drive_pages.Goals as goal

pub returns-clause-driven : goal.returns-clause-driven
returns-clause-driven g c =
    let s = c.new-store.result in
    let t = c.drive_lent.new.store in
    let k = same_start t.table s.table _ _ (t.paged ∙ sym s.paged) c.in_ok-replies.ensures.footing in
    let r = same_rest t.table s.table _ _ (t.paged ∙ sym s.paged) c.in_ok-replies.ensures.footing in
    let n = ap (λ l. l.store.now) c.new-store.ensures.below ∙ ap (λ b. b.now) c.new.ensures in
    let start : mapped_bytes s.table (g.S.Store.bytes s.below.store.now) ≡ mapped_bytes c.args.table (g.S.Store.bytes c.args.below.now)
    = λ i. mapped_bytes (c.new-store.ensures.table i) (g.S.Store.bytes (n i)) in
    let end = ap (λ (u : List ℕ). mapped_bytes u (g.S.Store.bytes t.below.store.now)) (sym (k ∙ c.new-store.ensures.table)) in
    let e : ending c.in_ok-replies.replies.items (mapped_bytes c.args.table (g.S.Store.bytes t.below.store.now)) ≡ ending_of c.args.requests.now c.args.book (mapped_bytes c.args.table (g.S.Store.bytes c.args.below.now))
    = ap (ending c.in_ok-replies.replies.items) end ∙ c.in_ok-replies.ensures.driven ∙ ap (ending_of c.args.requests.now c.args.book) start in
    search rules

pub returns-clause-footing : goal.returns-clause-footing
returns-clause-footing g c =
    let s = c.new-store.result in
    let t = c.drive_lent.new.store in
    let r = same_rest t.table s.table _ _ (t.paged ∙ sym s.paged) c.in_ok-replies.ensures.footing in
    search rules
