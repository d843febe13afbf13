use Rattle.std.proofs.Common.{length}
use Rattle.calls.proofs.script.read_script.Given as goal

abbrev pub decreases-lines : goal.decreases-lines
decreases-lines l = length l.lines.text
