-- The statements of a block's members, and what each takes from them.
pub mod Gathered
pub mod Seen
pub mod Firsts
pub mod Brought
pub mod Grouped
pub mod Ordered
