use Rattle.std.proofs.Common.{Some, sym, ap, ◌∙◌}
use Rattle.text.proofs.Hex.{word_of, word_read}
use Rattle.text.proofs.number.hex_word.Goals as goal

pub returns-in-Ok : goal.returns-in-Ok
returns-in-Ok c = ap Some c.from_be_bytes.ensures ∙ ap word_of (sym c.in-Ok.is ∙ c.from_hex.ensures) ∙ word_read c.args.s.now

pub returns-in-Err : goal.returns-in-Err
returns-in-Err c = ap word_of (sym c.in-Err.is ∙ c.from_hex.ensures) ∙ word_read c.args.s.now
