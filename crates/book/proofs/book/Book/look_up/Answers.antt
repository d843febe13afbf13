use Rattle.std.proofs.Common.{◌∙◌, ap, slice_index_or}
use Rattle.isa.specs.declared.reading.Reading.TheVariants.{Undefined}
use Rattle.book.proofs.Looked.{looked}
use Rattle.book.proofs.book.Book.look_up.Goals as goal

pub returns-in-Some : goal.returns-in-Some
returns-in-Some c =
    let b = c.args.self.now in
    c.at.ensures
    ∙ ap (λ readings. slice_index_or readings c.args.word Undefined) (b.tabled c.in-Some.readings c.in-Some.is)
    ∙ looked b.tables c.args.word c.ranges.word.fits
