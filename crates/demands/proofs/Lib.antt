-- The demands and the cases hold.
pub mod Computing
pub mod Demand1Holds
pub mod Demand2Holds
pub mod Demand3Holds
pub mod Request1Holds
pub mod Request2Holds
pub mod Request3Holds
pub mod Request4Holds
pub mod Request5Holds
pub mod Request6Holds
pub mod Request7Holds
pub mod ProfileAttached
pub mod DemandsHold
pub mod CasesHold
