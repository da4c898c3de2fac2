-- What single steps of the rules do to the files of one number.
pub mod States
pub mod Walk
pub mod Reached
pub mod OneStep
pub mod StepFour
pub mod WriterSteps
pub mod Pending
pub mod Groups
pub mod Erased
pub mod Handing
