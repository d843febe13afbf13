use Rattle.std.proofs.Common.{sym, ap, ◌∙◌}
use Rattle.hex.specs.Hex.{decode_sized}
use Rattle.text.proofs.Hex.{byte_of, byte_read}
use Rattle.text.proofs.number.hex_byte.Goals as goal

pub returns-in-Err : goal.returns-in-Err
returns-in-Err c = ap byte_of (sym c.in-Err.is ∙ c.from_hex.ensures ∙ ap (λ s. decode_sized s 1) c.as_slice.ensures) ∙ byte_read c.args.high c.args.low
