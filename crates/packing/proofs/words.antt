-- What the proofs of the words' functions use.
mod Parts
mod Widened
