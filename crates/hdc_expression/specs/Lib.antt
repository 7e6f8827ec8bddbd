pub mod ExpressionReader
pub mod DeclarationReader
pub mod Nested
pub mod Nests
