pub mod ReplyWords
