use Rattle.std.proofs.Common.{◌≡◌, rules}
use Rattle.book.specs.Encode.{encoding, encode}
use Rattle.book.proofs.RoundTrips.{reads_back}
use Rattle.book.proofs.book.Book.encode.Goals as goal

pub returns : goal.returns
unfolding encode
returns c =
    let e : c.encode_format.result ≡ encoding c.args.self.now.tables c.args.name c.args.format c.args.m c.args.d = search rules in
    record { is = e; reads_back = reads_back c.args.self.now.tables c.args.self.now.sound c.args.name c.args.format c.args.m c.args.d c.encode_format.result e }
