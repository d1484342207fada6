pub mod CallLines
pub mod AnswerLines
pub mod ReplyLines
pub mod EndLines
