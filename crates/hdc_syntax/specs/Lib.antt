pub mod Parser
pub mod Results
pub mod Regular
pub mod Words
pub mod Names
pub mod PatternReader
pub mod TypeReader
