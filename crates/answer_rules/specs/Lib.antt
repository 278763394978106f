pub mod Terms
pub mod PairRules
pub mod FileRules
pub mod AnswerNumbers
