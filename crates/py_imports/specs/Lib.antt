-- The definitions that contracts cite.
pub mod ActionComment
pub mod Binds
pub mod BindingValue
pub mod Declaration
pub mod FirstWords
pub mod Grammar
pub mod Names
pub mod Private
pub mod Shape
pub mod Spelled
pub mod Statement
