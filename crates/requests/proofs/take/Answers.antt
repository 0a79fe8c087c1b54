use Rattle.std.proofs.Common.{inl, inr, refl, ◌++◌, append_assoc, codes}
use Rattle.std.specs.Fmt.{decimal}
use Rattle.std.proofs.lemmas.Result.{on_ok_weaker}
use Rattle.fields.specs.Texts.{ended}
use Rattle.requests.specs.Texts.{reply_text, unread_text}
use Rattle.requests.proofs.take.Goals as goal

pub returns-in-Ok : goal.returns-in-Ok
returns-in-Ok g c =
    on_ok_weaker c.writeln.result (λ appends. (ended (reply_text c.in-Ok.reply), inl (c.in-Ok.reply, c.in-Ok.ensures, c.replied.ensures, refl), appends)) c.writeln.ensures.bytes

pub returns-in-Err : goal.returns-in-Err
returns-in-Err g c =
    on_ok_weaker c.writeln-in-Err.result
    (λ appends. (codes "line " ++ (decimal c.unread.new.self.requests ++ (codes ": " ++ ended (unread_text c.in-Err.why))), inr (c.in-Err.why, c.in-Err.ensures, c.unread.ensures, simp append_assoc), appends))
    c.writeln-in-Err.ensures.bytes
