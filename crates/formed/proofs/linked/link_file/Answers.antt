-- `formed::linked::link_file` meets its contract. Assumes nothing.
use mathlib.Core.Path.{refl}
use Rattle.formed.proofs.LinkedRules.{above_decided, dead_above, mapped_decided, none_above}
use Rattle.formed.proofs.linked.link_file.Goals as goal

pub returns-then-u-eq0 : goal.returns-then-u-eq0
returns-then-u-eq0 c =
    let p = c.requires in
    mapped_decided _ _ _ _ _ _ _ _ _ p.1 p.0 p.2 _ refl c.if-u-eq0.true _ _ _ c.put_resolved.ensures

pub returns-then-x-ge8 : goal.returns-then-x-ge8
returns-then-x-ge8 c =
    let p = c.requires in
    none_above _ _ _ _ _ _ _ _ _ p.1 p.0 p.2 _ refl c.if-u-eq0.false _ refl _ c.if-x-ge8.true

pub returns-then-lives-places-eq0 : goal.returns-then-lives-places-eq0
returns-then-lives-places-eq0 c =
    let p = c.requires in
    dead_above _ _ _ _ _ _ _ _ _ p.1 p.0 p.2 _ refl c.if-u-eq0.false _ refl _ c.if-x-ge8.false c.if-lives-places-eq0.true

pub returns : goal.returns
returns c =
    let p = c.requires in
    above_decided _ _ _ _ _ _ _ _ _ p.1 p.0 p.2 _ refl c.if-u-eq0.false _ refl c.if-x-ge8.false c.if-lives-places-eq0.false _ p.3 _ _ c.put_resolved-2.ensures
