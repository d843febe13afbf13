use Rattle.book.proofs.Keeping.{read_sound}
use Rattle.book.proofs.book.Book.read.Goals as goal

pub invariant_of-self : goal.invariant_of-self
invariant_of-self c = record { sound = read_sound c.args.text.now c.in_ok-tables.tables c.in_ok-tables.ensures; tabled = λ readings none. cc }
