use Rattle.std.proofs.Common.{rules, append-nil}
use Rattle.tape.proofs.Listed.{listed_of, refusal_of}
use Rattle.tape.proofs.text.listing.Goals as goal
use Rattle.tape.proofs.text.listing.Goals.{in-Ok+in_ok-write_lines-in-Ok, in-Err+in_ok-writeln-in-Err}

pub returns : goal.returns
returns c =
    elim c.match-of_input.branch [
      | in-Ok+in_ok-write_lines-in-Ok w ↦
          let opened = w.in-Ok.ensures in
          let written = w.in_ok-write_lines-in-Ok.ensures in
          rw w.text-is
          (listed_of c.args.input.now _ w.in-Ok.replay written.0 opened.opens (opened.lines opened.opens.1.lawful written.0 written.1) (rw c.new-text.ensures.bytes at written.2))
      | in-Err+in_ok-writeln-in-Err w ↦ rw w.text-is (refusal_of c.args.input.now _ w.in-Err.fault w.in-Err.ensures.opens (search (rules, append-nil)))
    ]
