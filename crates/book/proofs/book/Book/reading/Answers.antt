use Rattle.book.specs.Readings.{reading}
use Rattle.book.proofs.RoundTrips.{is_layout, is_sole_layout, encodes_word_back}
use Rattle.book.proofs.book.Book.reading.Goals as goal

pub returns : goal.returns
unfolding reading
returns c =
    let b = c.args.self.now in
    let e = c.look_up.ensures in
    record {
      is = e;
      layout = is_layout b.tables b.sound c.args.word c.look_up.result e;
      sole = is_sole_layout b.tables b.sound c.args.word c.look_up.result e;
      encodes_back = encodes_word_back b.tables b.sound c.args.word c.look_up.result e;
    }
