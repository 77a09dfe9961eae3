pub mod ReplyText
pub mod Script
