use Rattle.std.proofs.Common.{rules, ◌≡◌, false, true≢false, Ok, Err, Result, sym, refl, [], ◌∷◌, ap, ◌∙◌, subst}
use Rattle.link.specs.declared.call.Call.TheVariants.{OnReceiver}
use Rattle.link.specs.declared.call.ReceiverCall.TheVariants as call
use Rattle.std.specs.Result.{is_err}
use Rattle.sss.specs.declared.Fault.{Fault}
use Rattle.tape.specs.Reading.{Answers}
use Rattle.tape.specs.Writing.{IsWritten, Writes, WritesAll, written}
use Rattle.tape.specs.declared.command.Command.{Command}
use Rattle.tape.specs.declared.writer.Writer.{Writer}
use Rattle.tape_examples.specs.Written.{the_commands}
use Rattle.tape_examples.proofs.written.read_back.Goals as goal

-- A write that was not refused was done.
done : {before after : Writer} {command : Command} (result : Result (Unit {0}) Fault) → Writes before command result after → is_err result ≡ false →
    IsWritten before command after
done (Ok u) w e = w
done (Err x) w e = absurd (true≢false e)

pub returns : goal.returns
returns c =
    let first = done c.write-first.result c.write-first.ensures.writes (sym c.is_err.ensures.value ∙ c.if-is_err.false) in
    let second = done c.write-second.result c.write-second.ensures.writes (sym c.is_err-else-is_err.ensures.value ∙ c.if-is_err-2.false) in
    let all : WritesAll c.new-writer.result the_commands c.write-second.new.self = (c.write-first.new.self, first, (c.write-second.new.self, second, refl)) in
    let it : c.new.result.tape.now ≡ written c.write-second.new.self = ap (λ t. t.now) c.new.ensures.tape ∙ c.written.ensures in
    let reads = c.new.ensures.reads in
    let back = c.new-writer.ensures.tapes.back the_commands c.write-second.new.self all c.new.result it c.new.ensures.place reads.items reads.ending reads.answers in
    record {
      new = c.new-writer.result;
      after = c.write-second.new.self;
      writes = all;
      reader = c.new.result;
      reads_it = it;
      items = reads.items;
      answers = subst (Answers c.new.result reads.items) back.2 reads.answers;
      commands = back.0;
      places = back.1;
      whole = search rules;
      calls = OnReceiver call.Break ∷ OnReceiver (call.Word 65535 0x1234) ∷ [];
      are_calls = search rules;
    }
