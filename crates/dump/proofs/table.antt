pub mod DefinitionWords
