-- Keys, the first binding under each, and the bindings of a logical line that are taken by their keys.
pub mod KeyTexts
pub mod Places
pub mod Firsts
pub mod TakenBindings
