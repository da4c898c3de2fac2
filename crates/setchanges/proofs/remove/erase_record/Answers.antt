-- `setchanges::remove::erase_record` meets its contract. Assumes nothing.
use Rattle.setchanges.proofs.ZeroWords.{record_erased}
use Rattle.setchanges.proofs.remove.erase_record.Goals as goal

pub returns : goal.returns
returns c = record_erased _ _ _ _ c.requires c.zero_bytes.ensures
