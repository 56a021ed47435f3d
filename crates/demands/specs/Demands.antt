-- What the customer is promised, as one claim about the definitions that the calls' contracts cite: the three demands, and each request.
use Rattle.demands.specs.Demand1.{Demand1}
use Rattle.demands.specs.Demand2.{Demand2}
use Rattle.demands.specs.Demand3.{Demand3}
use Rattle.demands.specs.Request1.{Request1}
use Rattle.demands.specs.Request2.{Request2}
use Rattle.demands.specs.Request3.{Request3}
use Rattle.demands.specs.Request4.{Request4}
use Rattle.demands.specs.Request5.{Request5}
use Rattle.demands.specs.Request6.{Request6}
use Rattle.demands.specs.Request7.{Request7}

pub record Demands : Type 0 where
  pub demand_1 : Demand1
  pub demand_2 : Demand2
  pub demand_3 : Demand3
  pub request_1 : Request1
  pub request_2 : Request2
  pub request_3 : Request3
  pub request_4 : Request4
  pub request_5 : Request5
  pub request_6 : Request6
  pub request_7 : Request7
