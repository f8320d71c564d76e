-- Laws on the pieces of logical lines, which cite no definition of sorting.
pub mod Each
pub mod Parts
pub mod OneLine
pub mod Tokens
pub mod Laws
pub mod Units
pub mod Joined
pub mod Indented
