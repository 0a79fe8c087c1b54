use Rattle.std.proofs.Common.{◌++◌, ◌∷◌, [], append-nil, refl, sym}
use Rattle.tape.proofs.Listed.{listed_of, refusal_of}
use Rattle.tape.specs.Lines.{fault_text}
use Rattle.tape.proofs.lent.put_listing.Goals as goal

pub returns-in-Ok : goal.returns-in-Ok
returns-in-Ok c =
    let opened = c.in-Ok.ensures in
    let put = c.put_lines.ensures in
    (_, listed_of c.args.input.now _ c.in-Ok.replay put.0 opened.opens (opened.lines opened.opens.1.lawful put.0 put.1) refl, put.2)

pub returns-in-Err : goal.returns-in-Err
returns-in-Err c =
    let text = fault_text c.in-Err.fault ++ 0x0A ∷ [] in
    (text, refusal_of c.args.input.now text c.in-Err.fault c.in-Err.ensures.opens (sym (append-nil text)), c.put_line.ensures)
