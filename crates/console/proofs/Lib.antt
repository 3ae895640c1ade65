pub mod DigitByDigit
pub mod Spelling
