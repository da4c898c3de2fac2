-- `writing::write_pages` meets its contract. Assumes nothing.
use mathlib.Core.List.{◌++◌}
use mathlib.Core.Path.{refl, subst, sym}
use Prim.Native.Nat.{◌+◌, ◌-◌, ◌≤◌, ℕ}
use native.Mathlib.Omega.{arith}
use lib.ListN.{length}
use Rattle.rules.specs.Rules.{from}
use Rattle.rules.specs.Storage.{overlay}
use Rattle.entering.proofs.Pending.{pending_kept, reserves_ready}
use Rattle.changing.proofs.Whole.{both_need, both_ready, both_used, same_used, settled_used, told}
use Rattle.writing.proofs.Writing.{written}
use Rattle.writing.proofs.write_pages.Goals as goal

pub settle_children-requires : goal.settle_children-requires
settle_children-requires c =
    (c.settle_set.ensures.packed, c.requires.0.file, c.requires.1, settled_used c.args.f c.args.s c.settle_set.ensures c.requires.2)

pub reserve_all-r-requires : goal.reserve_all-r-requires
reserve_all-r-requires c =
    let a = c.args in
    let re = both_ready a.s c.requires.0 c.settle_set.ensures c.settle_children.ensures.1 in (
      re.packed,
      re.sound,
      re.file,
      c.requires.1,
      omega (arith, c.requires.4, c.requires.5),
      subst (λ (x : ℕ). x ≤ a.k.left) (sym (both_need a.s c.requires.0 c.settle_set.ensures c.settle_children.ensures.1 (from a.first a.m))) c.requires.7,
    )

pub give_groups-b-requires : goal.give_groups-b-requires
give_groups-b-requires c =
    let a = c.args in
    let re = both_ready a.s c.requires.0 c.settle_set.ensures c.settle_children.ensures.1 in (
      reserves_ready re c.reserve_all-r.ensures,
      c.requires.1,
      c.requires.3,
      c.requires.4,
      c.requires.5,
      same_used _ _ a.f a.s c.reserve_all-r.ensures.same (both_used a.s c.requires.0 c.settle_set.ensures c.settle_children.ensures.1 c.requires.2),
    )

pub enter_all-requires : goal.enter_all-requires
enter_all-requires c =
    (c.give_groups-b.ensures.ready, pending_kept c.reserve_all-r.ensures c.give_groups-b.ensures, c.requires.1, omega (arith, c.requires.4, c.requires.5), c.requires.6)

pub returns : goal.returns
returns c =
    let a = c.args in
    told c.give_groups-b.result c.from.ensures (written a.s a.first a.m (from a.lo (a.first - a.lo) ++ from (a.first + a.m) (a.hi - (a.first + a.m))) (overlay a.off a.«data».now) (a.off + length a.«data».now) c.size_at-z.result c.max-n.result refl c.max-n.ensures
    c.requires.0 c.settle_set.ensures c.settle_children.ensures.1 c.reserve_all-r.ensures c.give_groups-b.ensures c.enter_all.ensures c.size_at-z.ensures.0 c.resize.ensures)
