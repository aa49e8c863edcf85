-- What a proof by tactics may use, and the laws of a relay's links.
pub mod Rules
pub mod NearLaws
