pub mod NumberLemmas
pub mod NumberTexts
pub mod ManyTexts
pub mod HeadTexts
pub mod NodeTexts
pub mod WholeTexts
