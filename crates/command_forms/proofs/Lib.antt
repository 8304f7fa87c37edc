pub mod ReadLemmas
pub mod AnswerCauses
