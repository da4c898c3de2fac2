-- `cutting::cut_kept` meets its contract. Assumes nothing.
use mathlib.Core.Path.{◌≡◌, ap, refl, subst, sym, ◌∙◌}
use Prim.Native.Nat.{◌%◌, ◌-◌, ◌≤◌, ℕ}
use native.Mathlib.Omega.{arith}
use lib.ListN.{get_or}
use Rattle.rules.specs.Rules.{from}
use Rattle.rules.specs.Storage.{zero_from}
use Rattle.tables.proofs.Pending.{pending_at}
use Rattle.tables.specs.Meaning.{pending_meant}
use Rattle.tables.specs.Views.{pending_of}
use Rattle.cutting.proofs.Cutting.{cut_kept}
use Rattle.entering.proofs.Pending.{pending_kept, reserves_ready}
use Rattle.changing.proofs.Whole.{both_need, both_ready, both_used, ready_in, same_used, settled_used, told}
use Rattle.cutting.proofs.cut_kept.Goals as goal
use Rattle.cutting.proofs.cut_kept.Goals.{After-enter_cut, After-give_all-b}

pub settle_children-requires : goal.settle_children-requires
settle_children-requires c =
    (c.settle_set.ensures.packed, c.requires.0.file, c.requires.1, settled_used c.args.f c.args.s c.settle_set.ensures c.requires.2)

pub reserve_all-r-requires : goal.reserve_all-r-requires
reserve_all-r-requires c =
    let a = c.args in
    let re = both_ready a.s c.requires.0 c.settle_set.ensures c.settle_children.ensures.1 in (
      re.packed,
      re.sound,
      re.file,
      c.requires.1,
      omega (arith, c.requires.3, c.requires.4),
      subst (λ (x : ℕ). x ≤ a.k.left) (sym (both_need a.s c.requires.0 c.settle_set.ensures c.settle_children.ensures.1 (from a.first 1))) c.requires.6,
    )

pub give_all-b-requires : goal.give_all-b-requires
give_all-b-requires c =
    let a = c.args in
    let re = both_ready a.s c.requires.0 c.settle_set.ensures c.settle_children.ensures.1 in (
      reserves_ready re c.reserve_all-r.ensures,
      c.requires.1,
      omega (arith, c.requires.3, c.requires.4),
      same_used _ _ a.f a.s c.reserve_all-r.ensures.same (both_used a.s c.requires.0 c.settle_set.ensures c.settle_children.ensures.1 c.requires.2),
    )

-- what is pending for the page
own_is : (c : After-give_all-b) → let a = c.args in
    pending_meant (get_or c.reserve_all-r.result.pending a.first (record { 0 = 0 })) ≡ pending_of c.reserve_all-r.result.pending a.first
own_is c =
    pending_at c.reserve_all-r.result.pending c.args.first _ (omega (arith, c.reserve_all-r.ensures.pending.len, c.requires.3, c.requires.4))

pub enter_cut-requires : goal.enter_cut-requires
enter_cut-requires c = (
  c.give_all-b.ensures.ready,
  (λ b e. (pending_kept c.reserve_all-r.ensures c.give_all-b.ensures).below c.args.first b (sym (own_is (goal.at.enter_cut-requires c).After-give_all-b) ∙ e)),
  c.requires.1,
  omega (arith, c.new.ensures, c.requires.3, c.requires.4),
  omega arith,
)

-- the page enters
entered : (c : After-enter_cut) → pending_of c.reserve_all-r.result.pending c.new.result.0 ≡ pending_meant (get_or c.reserve_all-r.result.pending c.args.first (record { 0 = 0 }))
entered c =
    ap (pending_of c.reserve_all-r.result.pending) c.new.ensures ∙ sym (pending_at c.reserve_all-r.result.pending c.args.first _ (omega (arith, c.reserve_all-r.ensures.pending.len, c.requires.3, c.requires.4)))

pub drop_pages-requires : goal.drop_pages-requires
drop_pages-requires c =
    let re = (c.enter_cut.ensures (pending_of c.reserve_all-r.result.pending) (entered (goal.at.drop_pages-requires c).After-enter_cut)).ready in
    (re.packed, ready_in re, re.file, c.requires.1, omega (arith, c.requires.3, c.requires.4))

pub resize-requires : goal.resize-requires
resize-requires c =
    (c.drop_pages.ensures.packed, (c.enter_cut.ensures (pending_of c.reserve_all-r.result.pending) (entered (goal.at.resize-requires c).After-enter_cut)).ready.file, c.requires.1, c.requires.5)

pub returns : goal.returns
returns c =
    let a = c.args in
    told c.give_all-b.result c.from.ensures (cut_kept a.s a.first (a.m - 1) a.n c.new.result.0 (λ q. zero_from (a.n % 512)) refl c.new.ensures c.requires.0 c.settle_set.ensures
    c.settle_children.ensures.1 c.reserve_all-r.ensures c.give_all-b.ensures (c.enter_cut.ensures (pending_of c.reserve_all-r.result.pending) (entered (goal.at.returns c).After-enter_cut)) c.drop_pages.ensures c.resize.ensures)
