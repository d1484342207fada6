pub mod SendingWords
