mod DataLemmas
mod EditLemmas
mod ReplyLemmas
mod ScopeLemmas
