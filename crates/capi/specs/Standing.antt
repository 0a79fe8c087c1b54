-- The link's receiver that stands where one in C's memory does.
use Rattle.std.specs.Prelude.{◌≡◌}
use Rattle.sss.specs.Cipher.{Lawful, key_table}
use Rattle.functions.specs.Functions.{from_key_table}
use Rattle.functions.specs.declared.from_key.FromKey.{FromKey}
use Rattle.functions.specs.declared.coefficient.PrintedTable.{PrintedTable}
use Rattle.link.specs.declared.receiver.Receiver.{Receiver}
use Rattle.capi.specs.Receivers.{SetUp, key_of, reception_of, registers_held}
use Rattle.capi.specs.declared.receiver.FutsambolyReceiver.{FutsambolyReceiver}

-- It is set up, and the link's receiver has the function of its key, its registers and its state.
pub record Stands (r : FutsambolyReceiver) (s : Receiver FromKey PrintedTable) : Type 0 where
  pub set_up : SetUp r
  pub function : from_key_table s.engine.function ≡ key_table (key_of r)
  pub sound : Lawful (from_key_table s.engine.function)
  pub registers : s.engine.registers ≡ registers_held r
  pub reception : s.footing.reception ≡ reception_of r.state
