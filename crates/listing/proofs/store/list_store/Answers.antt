-- `listing::store::list_store` meets its contract. Assumes nothing.
use mathlib.Core.Bool.{false, true}
use mathlib.Core.Path.{sym, ◌∙◌, ◌≡◌}
use native.Mathlib.Omega.{arith}
use borrow.Author.Rules.{rules}
use Rattle.tables.specs.Packed.{well_formed}
use Rattle.listing.proofs.Outcomes.{formed_tables, listed_short, listed_whole, not_listed}
use Rattle.listing.proofs.Writing.{put_wrote, wrote_length}
use Rattle.listing.proofs.store.list_store.Goals as goal

pub returns-then-not-well_formed : goal.returns-then-not-well_formed
returns-then-not-well_formed c =
    let a = c.args in
    let h : well_formed a.t.now a.n ≡ false = search rules in
    (not_listed a.t.now a.n a.out.now h, tt)

pub list_set-requires : goal.list_set-requires
list_set-requires c =
    let a = c.args in
    let h : well_formed a.t.now a.n ≡ true = search rules in
    ((formed_tables a.t.now a.n h).packed.len, omega arith, omega arith, omega arith, omega arith)

pub returns-then-out-wanted : goal.returns-then-out-wanted
returns-then-out-wanted c =
    let a = c.args in
    let h : well_formed a.t.now a.n ≡ true = search rules in
    let p = (c.list_set.ensures.0 16 (omega arith)).put in
    let same = sym (p.same ∙ c.new-w.ensures.0) in
    let v = put_wrote c.new-w.ensures.1 c.new-w.ensures.2 p (search rules) in
    let q = wrote_length v in
    (listed_short a.t.now a.n h a.out.now _ _ v (omega (arith, q, c.if-out-wanted.true)), omega arith)

pub returns : goal.returns
returns c =
    let a = c.args in
    let h : well_formed a.t.now a.n ≡ true = search rules in
    let p = (c.list_set.ensures.0 16 (omega arith)).put in
    let same = sym (p.same ∙ c.new-w.ensures.0) in
    let v = put_wrote c.new-w.ensures.1 c.new-w.ensures.2 p (search rules) in
    let q = wrote_length v in
    (listed_whole a.t.now a.n h a.out.now _ _ v (omega (arith, q, c.if-out-wanted.false)), omega arith)
