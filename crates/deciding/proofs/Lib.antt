-- What the proofs of the functions use.
pub mod MemberByMember
pub mod CardByCard
