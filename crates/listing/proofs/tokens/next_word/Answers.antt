use Rattle.listing.proofs.Words.{no_word, first_word}
use Rattle.std.proofs.Common.{refl}
use Rattle.std.proofs.lemmas.List.{take_rest}
use Rattle.listing.proofs.tokens.next_word.Goals as goal

pub returns-in_err-t : goal.returns-in_err-t
returns-in_err-t c = rw c.from_residual.ensures (no_word c.args.s.now c.in_err-t.ensures.is)

pub returns : goal.returns
returns c = rw c.unwrap_or.ensures (first_word c.args.s.now _ c.in_ok-t.field-0 c.cut.result _ c.in_ok-t.ensures.is (take_rest c.args.s.now c.in_ok-t.field-0) refl refl c.cut.ensures)
