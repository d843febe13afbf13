use Rattle.std.proofs.Common.{◌≡◌, length}
use Rattle.text.specs.LineRule.{rest_read}
use Rattle.text.specs.TakeLine.{taking, lines_taken}
use Rattle.text.proofs.taking.take_lines.Given as goal

abbrev pub invariant-lines : goal.invariant-lines
invariant-lines g l = rest_read (taking g.T.TakeLine.line_rule g.T.TakeLine.unended) (g.T.TakeLine.said l.taker) l.lines ≡ lines_taken g.T.TakeLine.line_rule g.T.TakeLine.unended (g.T.TakeLine.said l.initial.taker) l.text

abbrev pub decreases-lines : goal.decreases-lines
decreases-lines g l = length l.lines.text
