pub mod DigitSteps
