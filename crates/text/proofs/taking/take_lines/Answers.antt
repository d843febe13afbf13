use Rattle.std.proofs.Common.{◌≡◌, Ok, Err, sym, ap, ◌∙◌}
use Rattle.std.proofs.lemmas.Result.{err_from_is_err_and}
use Rattle.text.specs.Lines.{a_line, unended, next, shown}
use Rattle.text.specs.LineRule.{rest_read}
use Rattle.text.specs.TakeLine.{taking}
use Rattle.text.proofs.Reading.{rest_read-next, then-taken, then-turned_away}
use Rattle.text.proofs.taking.take_lines.Goals as goal

pub lines-preserved : goal.lines-preserved
lines-preserved g c =
    let t = g.T.TakeLine in
    let r = taking t.line_rule t.unended in
    let l = c.in-Ok-Some.line in
    let rest = c.next_line.new.self in
    let next : (a_line l.number l.text.now, rest) ≡ next c.lines.lines = ap (λ o. (shown (Ok o), rest)) (sym c.in-Ok-Some.field-0-is) ∙ c.in-Ok-Some.ensures in
    sym (rest_read-next r (t.said c.lines.taker) c.lines.lines rest (a_line l.number l.text.now) next
    ∙ then-taken l.number c.take_line.result _ (t.said c.take_line.new.self) _ (λ s. rest_read r s rest) c.take_line.ensures (sym c.in_ok-at_line-in-Ok-Some.was ∙ c.at_line.ensures))
    ∙ c.lines.invariant

pub returns-in_err-at_line-in-Ok-Some : goal.returns-in_err-at_line-in-Ok-Some
returns-in_err-at_line-in-Ok-Some g c =
    let t = g.T.TakeLine in
    let r = taking t.line_rule t.unended in
    let l = c.in-Ok-Some.line in
    let rest = c.next_line.new.self in
    let next : (a_line l.number l.text.now, rest) ≡ next c.lines.lines = ap (λ o. (shown (Ok o), rest)) (sym c.in-Ok-Some.field-0-is) ∙ c.in-Ok-Some.ensures in
    let p = err_from_is_err_and c.from_residual.result c.from_residual.ensures.1 in
    rw (p.1, p.2)
    (sym (rest_read-next r (t.said c.lines.taker) c.lines.lines rest (a_line l.number l.text.now) next
    ∙ then-turned_away l.number c.take_line.result _ (t.said c.take_line.new.self) _ (λ s. rest_read r s rest) c.take_line.ensures (sym c.in_err-at_line-in-Ok-Some.was ∙ c.at_line.ensures))
    ∙ c.lines.invariant)

pub returns-in-Err : goal.returns-in-Err
returns-in-Err g c =
    let t = g.T.TakeLine in
    let r = taking t.line_rule t.unended in
    ap (λ f. Err (record { fault = f; line = c.in-Err.unended.line })) c.unended.ensures
    ∙ sym (rest_read-next r (t.said c.lines.taker) c.lines.lines c.next_line.new.self (unended c.in-Err.unended.line) c.in-Err.ensures)
    ∙ c.lines.invariant
