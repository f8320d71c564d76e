-- The definitions that contracts cite.
pub mod RunError
pub mod Written
pub mod Printed
pub mod FaultText
pub mod Options
pub mod Choice
pub mod CommandLine
pub mod UsageText
pub mod Reading
pub mod Sorting
pub mod Task
pub mod Reported
pub mod Private
