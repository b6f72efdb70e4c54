pub mod Spelling
pub mod OneSpelling
pub mod ParsingLemmas
pub mod Written
pub mod CalendarLemmas
