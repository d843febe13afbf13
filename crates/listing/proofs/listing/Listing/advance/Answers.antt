use Rattle.std.proofs.Common.{ℕ, ◌<◌, ◌≤◌, Some, None, Ok, Err, Option, refl, sym, ap, ◌∙◌, arith, rules}
use Rattle.listing.specs.declared.entry.Content.{Content}
use Rattle.listing.specs.declared.entry.Entry.{Entry}
use Rattle.listing.specs.declared.fault.Fault.TheVariants.{Unended}
use Rattle.listing.specs.declared.listing.Listing.{Listing}
use Rattle.listing.specs.Words.{words}
use Rattle.listing.specs.Line.{a_word, halfwords, content_says, entry_says}
use Rattle.listing.proofs.Turns.{refused, turned, stopped, lined, by_line, too_low, from_here, word_done}
use Rattle.listing.proofs.listing.Listing.advance.Goals as goal

pub returns-in_err-line-clause-is : goal.returns-in_err-line-clause-is
returns-in_err-line-clause-is c =
    rw c.line-self.ensures (refused c.lines.self.lines.line _ Unended _ c.from_residual-in_err-line.ensures.1 ∙ stopped c.args.book.now.tables c.lines.self c.next_line.new.self _ c.in_default.ensures c.in_err-line.ensures ∙ c.lines.invariant.0)

pub returns-in_err-entry-clause-is : goal.returns-in_err-entry-clause-is
returns-in_err-entry-clause-is c =
    let t = c.args.book.now.tables in
    let e = c.in_ok-line.ensures in
    let f = c.in_err-entry.field-0.0 in
    let g = lined t c.lines.self c.next_line.new.self c.in_ok-line.field-0 c.in-Some-2.line (Err f) c.in_default.ensures c.in-Some-2.is e c.in_err-entry.ensures in
    rw c.line-self.ensures (refused c.lines.self.lines.line _ f _ c.from_residual-in_err-entry.ensures.1 ∙ by_line t c.lines.self c.next_line.new.self (Err f) g ∙ c.lines.invariant.0)

pub returns-then-address-self-clause-is : goal.returns-then-address-self-clause-is
returns-then-address-self-clause-is c =
    let t = c.args.book.now.tables in
    let e = c.in_ok-line.ensures in
    let a = c.from-address.result in
    let x = content_says c.in-Some-3.entry.content in
    let g = lined t c.lines.self c.next_line.new.self c.in_ok-line.field-0 c.in-Some-2.line (Ok (Some (a, x))) c.in_default.ensures c.in-Some-2.is e (ap (λ (i : ℕ). Ok (Some (i, x))) c.from-address.ensures ∙ ap (λ (v : Option Entry). Ok (entry_says v)) (sym c.in-Some-3.is) ∙ c.in_ok-entry.ensures) in
    rw c.line-self.ensures (too_low t c.lines.self c.next_line.new.self a x g c.if-address-self.true ∙ c.lines.invariant.0)

pub returns-in-Word-clause-is : goal.returns-in-Word-clause-is
returns-in-Word-clause-is c =
    let t = c.args.book.now.tables in
    let e = c.in_ok-line.ensures in
    let a = c.from-address.result in
    let w = c.in-Word.word in
    let g = lined t c.lines.self c.next_line.new.self c.in_ok-line.field-0 c.in-Some-2.line (Ok (Some (a, a_word w))) c.in_default.ensures c.in-Some-2.is e (ap (λ (i : ℕ). Ok (Some (i, a_word w))) c.from-address.ensures ∙ ap (λ (v : Content). Ok (Some (c.in-Some-3.entry.address, content_says v))) (sym c.in-Word.is) ∙ ap (λ (v : Option Entry). Ok (entry_says v)) (sym c.in-Some-3.is) ∙ c.in_ok-entry.ensures) in
    let h : c.lines.self.end ≤ a = c.if-address-self.false in
    let k : a < 65536 = search rules in
    let p = c.in_ok-place-in-Word.ensures in
    word_done t c.lines.self (record { lines = c.next_line.new.self; rest = c.lines.self.rest; line = c.line-self.result; end = a }) c.place-in-Word.new.self a w c.in_ok-place-in-Word.field-0 g h k p.is refl p.after ∙ c.lines.invariant.0

pub lines-preserved-in-Halfwords : goal.lines-preserved-in-Halfwords
lines-preserved-in-Halfwords c =
    let t = c.args.book.now.tables in
    let e = c.in_ok-line.ensures in
    let a = c.from-address.result in
    let x = halfwords (words c.in-Halfwords.rest.now) in
    let g = lined t c.lines.self c.next_line.new.self c.in_ok-line.field-0 c.in-Some-2.line (Ok (Some (a, x))) c.in_default.ensures c.in-Some-2.is e (ap (λ (i : ℕ). Ok (Some (i, x))) c.from-address.ensures ∙ ap (λ (v : Content). Ok (Some (c.in-Some-3.entry.address, content_says v))) (sym c.in-Halfwords.is) ∙ ap (λ (v : Option Entry). Ok (entry_says v)) (sym c.in-Some-3.is) ∙ c.in_ok-entry.ensures) in
    (rw c.line-self.ensures (from_here t c.lines.self c.next_line.new.self a x g c.if-address-self.false ∙ c.lines.invariant.0), omega (arith, c.lines.invariant.1))

pub lines-preserved : goal.lines-preserved
lines-preserved c =
    let t = c.args.book.now.tables in
    let e = c.in_ok-line.ensures in
    let r : Listing = c.lines.self in
    let g = lined t r c.next_line.new.self c.in_ok-line.field-0 c.in-Some-2.line (Ok None) c.in_default.ensures c.in-Some-2.is e (ap (λ (v : Option Entry). Ok (entry_says v)) (sym c.in_default-3.is) ∙ c.in_ok-entry.ensures) in
    let s : Listing = record { lines = c.next_line.new.self; rest = r.rest; line = c.line-self.result; end = r.end } in
    (turned t s c.in_default.ensures ∙ by_line t r c.next_line.new.self (Ok None) g ∙ c.lines.invariant.0, c.lines.invariant.1)
