-- The law of a loss for the runs of this program: both ends have one key and the one coefficient.
use Rattle.std.specs.Prelude.{◌≡◌, ℕ, List, vec_items}
use Rattle.sss.specs.Cipher.{key_table, keyed, product}
use Rattle.link.specs.Ends.{history, receiving, registers_of, sealing}
use Rattle.link.specs.Histories.{after}
use Rattle.link.specs.Law.{Law}
use Rattle.link.specs.declared.call.Call.{Call}
use Rattle.link.specs.declared.history.History.{History}

-- The log of a run and the registers that it ends with keep the law of a loss, for the table of a key and the printed coefficient.
abbrev pub KeepsLaw : {SK SC RK RC : Type 0} → List ℕ → History SK SC RK RC → Type 0
KeepsLaw key h = Law (keyed (key_table key)) product (vec_items h.log) (registers_of (sealing h.sealer)) (receiving h.receiver).registers

-- The run is the history of a list of calls, for the table of a key and the printed coefficient.
abbrev pub IsRunOf : {SK SC RK RC : Type 0} → List ℕ → List Call → History SK SC RK RC → Type 0
IsRunOf key calls h = let f = keyed (key_table key) in after h ≡ history f product f product calls
