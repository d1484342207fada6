pub mod EntryWords
