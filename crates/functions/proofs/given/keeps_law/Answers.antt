use Rattle.functions.proofs.Law.{seen_none, seen_more}
use Rattle.functions.proofs.given.keeps_law.Goals as goal

pub loop-i-init : goal.loop-i-init
loop-i-init c = seen_none c.args.table.now

pub loop-i-preserved : goal.loop-i-preserved
loop-i-preserved c =
    let byte = c.law_byte-byte.ensures in
    seen_more c.args.table.now c.loop-i.seen c.loop-i.i c.loop-i.invariant c.law_byte-byte.result byte.value byte.bound
    c.if-seen-byte.false
