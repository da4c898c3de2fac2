-- `pages::zero_bytes` meets its contract. Assumes nothing.
use Rattle.pages.proofs.Parts.{zeroed_run}
use Rattle.pages.proofs.zero_bytes.Goals as goal

pub returns : goal.returns
returns c = let a = c.args in zeroed_run _ _ a.at a.n c.requires (c.fill.ensures.after (λ y e. e))
