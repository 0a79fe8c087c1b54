use Rattle.std.proofs.Common.{◌∙◌, arith}
use Rattle.tape.proofs.Appended.{appends}
use Rattle.tape.proofs.writer.Writer.write.Goals as goal

pub returns-clause-writes : goal.returns-clause-writes
returns-clause-writes c =
    let put = c.copy_from_slice.ensures.after ∙ c.deref.ensures.0 ∙ c.bytes-bytes.ensures.bytes in
    appends c.args.self.now _ c.args.command c.len.result c.copy_from_slice.new.self c.bytes-bytes.ensures.fits put (cc) (omega arith) (cc) (omega arith)
