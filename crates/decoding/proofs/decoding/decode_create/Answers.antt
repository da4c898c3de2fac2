-- `decoding::decoding::decode_create` meets its contract. Assumes nothing.
use Rattle.decoding.proofs.Requests.{kept}
use Rattle.decoding.proofs.decoding.decode_create.Goals as goal

pub returns : goal.returns
returns c = kept _ _ _ c.then_some.ensures tt c.are_zero.ensures
