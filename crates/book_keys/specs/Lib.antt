-- Why a key is found where it should be.
pub mod Cases
