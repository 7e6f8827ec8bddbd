pub mod Binding
mod Linked
pub mod PatternMirror
pub mod TypeMirror
pub mod ExpressionMirror
pub mod Scoping
pub mod Loops
pub mod Numbered
pub mod Listing
pub mod FirstBreach
