-- Laws for the readers' proofs.
pub mod Numbers
