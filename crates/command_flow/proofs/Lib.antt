pub mod FlowFacts
pub mod CallFacts
