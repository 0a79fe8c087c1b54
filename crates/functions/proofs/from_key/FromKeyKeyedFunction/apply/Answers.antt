use Rattle.std.proofs.Common.{ℕ, sym, ap, ◌∙◌}
use lib.Bits.{bit_xor}
use Rattle.sss.specs.Cipher.{key_entry}
use Rattle.functions.proofs.Keys.{keyed_by_entry}
use Rattle.functions.proofs.from_key.FromKeyKeyedFunction.apply.Goals as goal

pub returns-clause-value : goal.returns-clause-value
returns-clause-value c _ =
    let key = c.args.self.now.key.bytes.items in
    ap (λ (x : ℕ). bit_xor x c.args.a) (c.entry.ensures ∙ ap (key_entry key) c.high_byte.ensures) ∙
    sym (keyed_by_entry key c.args.a c.ranges.a.fits)
