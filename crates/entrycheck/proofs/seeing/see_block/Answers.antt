-- `entrycheck::seeing::see_block` meets its contract. Assumes nothing.
use borrow.Author.Rules.{rules}
use native.Mathlib.Omega.{arith}
use Rattle.entrycheck.proofs.Windows.{one_clash, one_seen, run_limit}
use Rattle.entrycheck.proofs.seeing.see_block.Goals as goal

pub returns-then-b-limit : goal.returns-then-b-limit
returns-then-b-limit c = run_limit c.args.limit c.args.b 1 _ c.told-seen (omega arith) (omega arith)

pub returns-then-x-y-ne0 : goal.returns-then-x-y-ne0
returns-then-x-y-ne0 c =
    one_clash _ _ (λ i. search rules) c.told-seen c.args.b c.requires c.if-x-y-ne0.true

pub returns : goal.returns
returns c =
    one_seen _ _ (λ i. search rules) c.told-seen c.args.b c.requires c.if-b-limit.false c.if-x-y-ne0.false
