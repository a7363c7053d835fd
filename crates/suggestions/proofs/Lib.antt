mod Ranking
mod SuggestAnswers
pub mod Once
