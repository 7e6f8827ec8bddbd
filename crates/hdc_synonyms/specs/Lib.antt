pub mod Synonyms
pub mod Adding
pub mod Noted
