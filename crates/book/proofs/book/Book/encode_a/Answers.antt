use Rattle.std.proofs.Common.{◌<◌, sym, ◌∙◌, subst}
use Rattle.book.specs.Encode.{pattern_values}
use Rattle.book.proofs.Facts.{facts}
use Rattle.book.proofs.Limits.{pattern_limit}
use Rattle.book.proofs.book.Book.encode_a.Goals as goal

pub a_word-requires-clause-pattern_fits : goal.a_word-requires-clause-pattern_fits
a_word-requires-clause-pattern_fits c =
    let b = c.args.self.now in
    subst (λ x. x < pattern_values c.args.format) (sym c.from.ensures) (pattern_limit b.tables (facts b.tables b.sound) c.args.format c.in_ok-pattern.pattern (sym c.in_ok-pattern.ensures.ok_part ∙ c.pattern_of.ensures))
