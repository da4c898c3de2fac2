pub mod RegisterCases
pub mod CommandCases
