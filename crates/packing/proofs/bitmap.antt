-- What the proofs of the map's functions use.
mod Turns
