pub mod ProgramFacts
