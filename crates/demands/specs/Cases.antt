-- Document 01's cases "with *" and the worked examples of document 02, as one claim about the meanings themselves. Requests 4 and 5 state none.
use Rattle.demands.specs.Demand1.{Demand1Cases}
use Rattle.demands.specs.Demand2.{Demand2Cases}
use Rattle.demands.specs.Demand3.{Demand3Cases}
use Rattle.demands.specs.Request1.{Request1Cases}
use Rattle.demands.specs.Request2.{Request2Cases}
use Rattle.demands.specs.Request3.{Request3Cases}
use Rattle.demands.specs.Request6.{Request6Cases}
use Rattle.demands.specs.Request7.{Request7Cases}

pub record Cases : Type 0 where
  pub demand_1 : Demand1Cases
  pub demand_2 : Demand2Cases
  pub demand_3 : Demand3Cases
  pub request_1 : Request1Cases
  pub request_2 : Request2Cases
  pub request_3 : Request3Cases
  pub request_6 : Request6Cases
  pub request_7 : Request7Cases
