pub mod OptionLemmas
pub mod NamesLemmas
pub mod OneJobLemmas
pub mod JobsLemmas
pub mod WordsLemmas
pub mod GrammarLemmas
pub mod CommandsLemmas
