-- What contracts of private functions alone cite: how the parser's answer becomes a job, the steps of a listing, and where it
-- stands between them. No public contract names a word of these files.
pub mod ParserSteps
pub mod Steps
pub mod Stages
