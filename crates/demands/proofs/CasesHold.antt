-- The cases of documents 01 and 02 hold.
use Rattle.demands.specs.Cases.{Cases}
use Rattle.demands.proofs.Demand1Holds.{demand_1_cases}
use Rattle.demands.proofs.Demand2Holds.{demand_2_cases}
use Rattle.demands.proofs.Demand3Holds.{demand_3_cases}
use Rattle.demands.proofs.Request1Holds.{request_1_cases}
use Rattle.demands.proofs.Request2Holds.{request_2_cases}
use Rattle.demands.proofs.Request3Holds.{request_3_cases}
use Rattle.demands.proofs.Request6Holds.{request_6_cases}
use Rattle.demands.proofs.Request7Holds.{request_7_cases}

pub cases_hold : Cases
cases_hold = record {
  demand_1 = demand_1_cases;
  demand_2 = demand_2_cases;
  demand_3 = demand_3_cases;
  request_1 = request_1_cases;
  request_2 = request_2_cases;
  request_3 = request_3_cases;
  request_6 = request_6_cases;
  request_7 = request_7_cases;
}
