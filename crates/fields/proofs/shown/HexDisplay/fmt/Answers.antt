use Rattle.std.proofs.Common.{rules, arith}
use Rattle.std.proofs.lemmas.Grind.{put_two}
use Rattle.hex.specs.Hex.{encode_with}
use Rattle.fields.proofs.Digits.{one_more}
use Rattle.fields.proofs.shown.HexDisplay.fmt.Goals as goal

pub loop-byte-preserved : goal.loop-byte-preserved
loop-byte-preserved g c =
    λ plain.
    let so_far = c.loop-byte.invariant plain in
    put_two _ _ _ _ _ _ _ so_far (search rules) (one_more c.args.self.now.0.now c.loop-byte.byte-index (omega arith) (omega arith))

pub loop-byte-init : goal.loop-byte-init
unfolding encode_with
loop-byte-init g c = search rules
