pub mod ValueLemmas
pub mod KeyLemmas
pub mod InputLemmas
pub mod KeyFacts
pub mod HeadlineLemmas
