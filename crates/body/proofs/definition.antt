pub mod DefinitionLaws
