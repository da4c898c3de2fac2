-- `changing::deleting::delete_file` meets its contract. Assumes nothing.
use mathlib.Core.Path.{ap, sym, ◌∙◌}
use Rattle.rules.specs.State.{live}
use Rattle.tables.proofs.FormedStore.{formed_store}
use Rattle.copying.proofs.Begin.{formed_packed, ready_begin}
use Rattle.changing.proofs.Whole.{begin_in, begun, deleted_not, deleted_so}
use Rattle.changing.proofs.deleting.delete_file.Goals as goal

pub state_at-requires : goal.state_at-requires
state_at-requires c =
    let a = c.args in
    ((formed_packed a.t.now a.p.now c.requires.0).len, c.requires.1, c.requires.2)

pub erase_file-requires : goal.erase_file-requires
erase_file-requires c =
    let a = c.args in
    (formed_packed a.t.now a.p.now c.requires.0, begin_in a.t.now a.p.now c.requires.0 a.f, c.requires.1, c.requires.2)

pub returns-then-not-is_live : goal.returns-then-not-is_live
returns-then-not-is_live c =
    let a = c.args in
    deleted_not a.p.now a.s (ap live (sym c.state_at.ensures) ∙ sym c.is_live.ensures ∙ c.if-not-is_live.true) c.erase_file.ensures

pub free_blocks-left-requires : goal.free_blocks-left-requires
free_blocks-left-requires c =
    let a = c.args in
    let h = formed_store a.t.now a.p.now c.requires.0 in
    (h.packed.len, h.header.most, h.bits_past)

pub delete_live-requires : goal.delete_live-requires
delete_live-requires c =
    let a = c.args in
    (ready_begin a.t.now a.p.now c.requires.0 a.f c.free_blocks-left.result _ c.requires.1 c.new-k.ensures c.free_blocks-left.ensures.0, c.requires.2, c.requires.3)

pub returns : goal.returns
returns c =
    let a = c.args in
    deleted_so a.s (ap live (sym c.state_at.ensures) ∙ sym c.is_live.ensures ∙ c.if-not-is_live.false) (begun c.free_blocks-left.result c.new-k.ensures c.delete_live.ensures)
