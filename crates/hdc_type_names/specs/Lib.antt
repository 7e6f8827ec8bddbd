pub mod TypeNames
pub mod ResolvedTypes
pub mod Variables
pub mod Synonyms
pub mod TypeLists
