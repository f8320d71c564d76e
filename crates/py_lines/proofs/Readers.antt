-- What the reader of logical lines answers, from one state to the next.
pub mod LineFaults
pub mod LineAnswers
pub mod NextLines
pub mod GivenLines
pub mod PassedLines
