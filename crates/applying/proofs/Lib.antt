-- What the proofs of several functions use, and the theorems about the sets of nodes.
pub mod FieldAlone
pub mod Filling
pub mod Marking
pub mod NodesApplyByFields
pub mod MembersAreClosed
