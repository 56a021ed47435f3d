pub mod Profile
pub mod RulingStandard
pub mod AppendixC
pub mod AsPrinted
pub mod Pass
pub mod AlgorithmCases
