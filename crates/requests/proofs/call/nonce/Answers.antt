use Rattle.std.proofs.Common.{◌∙◌, arith}
use Rattle.link.specs.Issuing.{nonce_bytes}
use Rattle.requests.proofs.SixBytes.{six}
use Rattle.requests.proofs.call.nonce.Goals as goal

pub returns : goal.returns
unfolding nonce_bytes
returns c =
    six c.args.bytes.now c.drawn.result.run c.drawn.result.message c.told-bytes (omega arith) (omega arith) (omega arith) (omega arith) (omega arith) (omega arith) (c.drawn.ensures.run ∙ c.from_le_bytes.ensures) (c.drawn.ensures.message ∙ c.from_le_bytes-2.ensures)
