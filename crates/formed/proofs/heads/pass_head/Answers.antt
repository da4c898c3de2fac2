-- `formed::heads::pass_head` meets its contract. Assumes nothing.
use mathlib.Core.Path.{◌∙◌}
use Rattle.formed.proofs.FileHead.{head_turned}
use Rattle.formed.proofs.HeadRules.{bytes_any, bytes_none, bytes_virgin}
use Rattle.formed.proofs.heads.pass_head.Goals as goal

pub returns-then-v-eq0 : goal.returns-then-v-eq0
returns-then-v-eq0 c =
    let p = c.requires in
    bytes_none _ _ _ _ _ _ _ c.low-v.ensures.0 _ _ c.if-v-eq0.true p.1

pub returns-then-v-eq128 : goal.returns-then-v-eq128
returns-then-v-eq128 c =
    let p = c.requires in
    bytes_virgin _ _ _ _ _ _ _ c.low-v.ensures.0 _ _ c.if-v-eq128.true p.1 _ _ c.pass_virgin.ensures

pub returns : goal.returns
returns c =
    let w = c.head_of-w.ensures ∙ head_turned _ _ _ (λ j. (c.type_inv.files j).fits) c.low-v.ensures.0 in
    bytes_any _ _ _ _ _ _ _ c.low-v.ensures.0 _ _ _ w _ _ _ c.end_of.ensures c.live_digit.ensures c.head_formed.ensures
