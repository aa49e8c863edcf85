-- What a proof by tactics may use.
pub mod Rules
