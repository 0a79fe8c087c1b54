-- Which calls the run of the whole link is of.
use Rattle.std.specs.Prelude.{ℕ, List, vec_items}
use Rattle.std.specs.List.{zip}
use Rattle.link.specs.declared.call.Call.{Call}
use Rattle.link.specs.declared.history.History.{History}
use Rattle.weld.specs.Joint.{CarriesAcross}
use Rattle.weld.specs.Runs.{IsRunOf}
use Rattle.weld.specs.Scenario.{messages_from, the_key, the_run}
use Rattle.weld.specs.declared.scenario.Plan.{Plan}

-- The run is that of the calls which seal the messages of these plans, and of what the joint carries of them. Wire words and tags are carried as
-- they stand in the log of a run of the same messages with nothing carried.
pub record Crosses {SK SC RK RC : Type 0} (plans : List Plan) (run first : ℕ) (h : History SK SC RK RC) : Type 0 where
  pub alone : History SK SC RK RC
  pub calls : List Call
  pub sealed : IsRunOf the_key (messages_from the_run 0 plans) alone
  pub carried : CarriesAcross plans (zip (messages_from run first plans) (vec_items alone.log)) calls
  pub made : IsRunOf the_key calls h
