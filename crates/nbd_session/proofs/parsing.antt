pub mod LeadingLemmas
pub mod ShownOperationLemmas
