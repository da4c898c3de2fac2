-- `writing::write_file` meets its contract. Assumes nothing.
use mathlib.Core.List.{◌++◌}
use mathlib.Core.Path.{refl}
use Prim.Native.Nat.{◌+◌, ◌-◌, ◌/◌}
use native.Mathlib.Omega.{arith}
use lib.ListN.{length}
use Rattle.rules.proofs.Agreement.Agree.{touched_is}
use Rattle.rules.proofs.Steps.Groups.{group_high, group_low}
use Rattle.rules.specs.Rules.{from}
use Rattle.tables.proofs.FormedStore.{formed_store}
use Rattle.copying.proofs.Begin.{ready_begin}
use Rattle.changing.proofs.Whole.{begun}
use Rattle.writing.proofs.Writing.{extra_is, need_begin, wrote}
use Rattle.writing.proofs.write_file.Goals as goal

pub free_blocks-left-requires : goal.free_blocks-left-requires
free_blocks-left-requires c =
    let a = c.args in
    let h = formed_store a.t.now a.p.now c.requires.2 in
    (h.packed.len, h.header.most, h.bits_past)

pub write_pages-requires : goal.write_pages-requires
write_pages-requires c =
    let a = c.args in
    let n = length a.«data».now in
    let first = a.off / 512 in
    let last = (a.off + n - 1) / 512 in
    let m = last - first + 1 in (
      ready_begin a.t.now a.p.now c.requires.2 a.f c.free_blocks-left.result _ c.requires.3 c.new-k.ensures c.free_blocks-left.ensures.0,
      c.requires.4,
      c.requires.5,
      omega (arith, c.group_first-lo.ensures, group_low a.group first),
      omega (arith, c.group_end-hi.ensures, group_high a.group last, c.requires.6, c.requires.7),
      omega (arith, c.group_end-hi.ensures),
      c.requires.7,
      need_begin a.t.now a.f a.s a.off n first m c.free_blocks-left.result _ (touched_is a.off n first m c.requires.6 refl refl) c.new-k.ensures c.free_blocks-left.ensures.0 c.requires.8,
    )

pub returns : goal.returns
returns c =
    let a = c.args in
    let n = length a.«data».now in
    let first = a.off / 512 in
    let m = (a.off + n - 1) / 512 - first + 1 in
    let lo = c.group_first-lo.result in
    let hi = c.group_end-hi.result in
    wrote a.group a.s a.off first m (from lo (first - lo) ++ from (first + m) (hi - (first + m))) a.«data».now
    (touched_is a.off n first m c.requires.6 refl refl)
    (extra_is a.group a.off n first m lo hi c.requires.6 refl (omega (arith, c.requires.6)) c.group_first-lo.ensures c.group_end-hi.ensures) (begun c.free_blocks-left.result c.new-k.ensures c.write_pages.ensures)
