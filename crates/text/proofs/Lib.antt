-- What the proofs of several functions use, and the laws of the texts.
pub mod Known
pub mod Laws
pub mod Puts
