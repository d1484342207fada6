pub mod WholeMessage
pub mod UpdateMessages
pub mod DefinitionMessages
pub mod Aging
pub mod LastUpdates
