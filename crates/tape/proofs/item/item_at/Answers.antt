use Rattle.std.proofs.Common.{rules}
use Rattle.std.proofs.lemmas.Result.{err_from_is_err_and}
use Rattle.tape.proofs.Finding.{found, sample, short}
use Rattle.tape.proofs.item.item_at.Goals as goal
use Rattle.tape.proofs.item.item_at.Goals.{in-78+in_ok-at-in-78, in-83+in_ok-at-in-83, in-79+in_ok-at-in-79, in-80+in_ok-at-in-80, in-66+in_ok-at-in-66, in-84+in_ok-at-in-84}

-- Each command that is cut off.
pub returns-in_err-at-in-78 : goal.returns-in_err-at-in-78
returns-in_err-at-in-78 c =
    let p = err_from_is_err_and c.from_residual.result c.from_residual.ensures.1 in
    let cut = c.in_err-at-in-78.ensures in
    rw (p.1, p.2) (short c.args.place c.args.rest.now _ (sample 78) (search rules) cut.0 cut.1 (search rules) (search rules))

pub returns-in_err-at-in-83 : goal.returns-in_err-at-in-83
returns-in_err-at-in-83 c =
    let p = err_from_is_err_and c.from_residual-in_err-at-in-83.result c.from_residual-in_err-at-in-83.ensures.1 in
    let cut = c.in_err-at-in-83.ensures in
    rw (p.1, p.2) (short c.args.place c.args.rest.now _ (sample 83) (search rules) cut.0 cut.1 (search rules) (search rules))

pub returns-in_err-at-in-79 : goal.returns-in_err-at-in-79
returns-in_err-at-in-79 c =
    let p = err_from_is_err_and c.from_residual-in_err-at-in-79.result c.from_residual-in_err-at-in-79.ensures.1 in
    let cut = c.in_err-at-in-79.ensures in
    rw (p.1, p.2) (short c.args.place c.args.rest.now _ (sample 79) (search rules) cut.0 cut.1 (search rules) (search rules))

pub returns-in_err-at-in-80 : goal.returns-in_err-at-in-80
returns-in_err-at-in-80 c =
    let p = err_from_is_err_and c.from_residual-in_err-at-in-80.result c.from_residual-in_err-at-in-80.ensures.1 in
    let cut = c.in_err-at-in-80.ensures in
    rw (p.1, p.2) (short c.args.place c.args.rest.now _ (sample 80) (search rules) cut.0 cut.1 (search rules) (search rules))

pub returns-in_err-at-in-84 : goal.returns-in_err-at-in-84
returns-in_err-at-in-84 c =
    let p = err_from_is_err_and c.from_residual-in_err-at-in-84.result c.from_residual-in_err-at-in-84.ensures.1 in
    let cut = c.in_err-at-in-84.ensures in
    rw (p.1, p.2) (short c.args.place c.args.rest.now _ (sample 84) (search rules) cut.0 cut.1 (search rules) (search rules))

-- And each that stands there whole.
pub returns : goal.returns
returns c =
    elim c.match-command.branch [
      | in-78+in_ok-at-in-78 w ↦ rw w.item-is (found c.args.place 7 c.args.rest.now _ (search rules) (search rules))
      | in-83+in_ok-at-in-83 w ↦ rw w.item-is (found c.args.place 3 c.args.rest.now _ (search rules) (search rules))
      | in-79+in_ok-at-in-79 w ↦ rw w.item-is (found c.args.place 3 c.args.rest.now _ (search rules) (search rules))
      | in-80+in_ok-at-in-80 w ↦ rw w.item-is (found c.args.place 5 c.args.rest.now _ (search rules) (search rules))
      | in-66+in_ok-at-in-66 w ↦ rw w.item-is (found c.args.place 1 c.args.rest.now _ (search rules) (search rules))
      | in-84+in_ok-at-in-84 w ↦ rw w.item-is (found c.args.place 17 c.args.rest.now _ (search rules) (search rules))
    ]
