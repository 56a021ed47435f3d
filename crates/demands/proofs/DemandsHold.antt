-- The customer's three demands hold, and every request is met.
use Rattle.demands.specs.Demands.{Demands}
use Rattle.demands.proofs.Demand1Holds.{demand_1}
use Rattle.demands.proofs.Demand2Holds.{demand_2}
use Rattle.demands.proofs.Demand3Holds.{demand_3}
use Rattle.demands.proofs.Request1Holds.{request_1}
use Rattle.demands.proofs.Request2Holds.{request_2}
use Rattle.demands.proofs.Request3Holds.{request_3}
use Rattle.demands.proofs.Request4Holds.{request_4}
use Rattle.demands.proofs.Request5Holds.{request_5}
use Rattle.demands.proofs.Request6Holds.{request_6}
use Rattle.demands.proofs.Request7Holds.{request_7}

pub demands_hold : Demands
demands_hold = record {
  demand_1 = demand_1;
  demand_2 = demand_2;
  demand_3 = demand_3;
  request_1 = request_1;
  request_2 = request_2;
  request_3 = request_3;
  request_4 = request_4;
  request_5 = request_5;
  request_6 = request_6;
  request_7 = request_7;
}
