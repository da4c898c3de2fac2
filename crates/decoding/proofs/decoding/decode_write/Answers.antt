-- `decoding::decoding::decode_write` meets its contract. Assumes nothing.
use Rattle.decoding.proofs.Requests.{kept}
use Rattle.decoding.proofs.decoding.decode_write.Goals as goal

pub returns : goal.returns
returns c = kept _ _ _ c.then_some.ensures c.requires.0 c.are_zero.ensures
