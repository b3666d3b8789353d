pub mod OfKind
pub mod InGrammar
pub mod Short
pub mod FirstLines
