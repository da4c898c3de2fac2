-- `cutting::truncate_file` meets its contract. Assumes nothing.
use Prim.Native.Nat.{◌<◌}
use native.Mathlib.Omega.{arith}
use Rattle.tables.proofs.FormedStore.{formed_store}
use Rattle.copying.proofs.Begin.{formed_packed, ready_begin}
use Rattle.changing.proofs.Whole.{begun}
use Rattle.cutting.proofs.Cutting.{alone_begun, need_below, size_in_law, truncate_above, truncate_below, truncate_same}
use Rattle.cutting.proofs.truncate_file.Goals as goal

pub size_of-z-requires : goal.size_of-z-requires
size_of-z-requires c =
    let a = c.args in
    ((formed_packed a.t.now a.p.now c.requires.0).len, c.requires.1, c.requires.2)

pub returns-then-n-z : goal.returns-then-n-z
returns-then-n-z c =
    let a = c.args in
    truncate_same a.t.now a.p.now a.f a.s a.n c.size_of-z.result c.size_of-z.ensures.0 (formed_packed a.t.now a.p.now c.requires.0) c.if-n-z.true

pub grow-requires : goal.grow-requires
grow-requires c =
    let a = c.args in
    (formed_packed a.t.now a.p.now c.requires.0, c.requires.1, c.requires.2, c.requires.3, omega (arith, c.requires.4))

pub returns-then-z-n : goal.returns-then-z-n
returns-then-z-n c =
    let a = c.args in
    truncate_above a.t.now a.p.now a.f a.s a.n c.size_of-z.result c.size_of-z.ensures.0 c.if-n-z.false c.if-z-n.true (alone_begun a.t.now a.p.now c.requires.0 c.requires.1 c.grow.ensures)

pub free_blocks-left-requires : goal.free_blocks-left-requires
free_blocks-left-requires c =
    let a = c.args in
    let h = formed_store a.t.now a.p.now c.requires.0 in
    (h.packed.len, h.header.most, h.bits_past)

pub cut-requires : goal.cut-requires
cut-requires c =
    let a = c.args in
    let l : a.n < c.size_of-z.result = omega (arith, c.if-n-z.false, c.if-z-n.false) in (
      ready_begin a.t.now a.p.now c.requires.0 a.f c.free_blocks-left.result _ c.requires.1 c.new-k.ensures c.free_blocks-left.ensures.0,
      c.requires.2,
      c.requires.3,
      l,
      size_in_law a.t.now a.p.now c.requires.0 a.f a.s c.size_of-z.result c.size_of-z.ensures.0,
      need_below a.t.now a.f a.s a.n c.size_of-z.result c.free_blocks-left.result _ c.new-k.ensures c.size_of-z.ensures.0 l c.free_blocks-left.ensures.0 c.requires.5,
    )

pub returns : goal.returns
returns c =
    let a = c.args in
    truncate_below a.t.now a.p.now a.f a.s a.n c.size_of-z.result c.size_of-z.ensures.0 c.if-n-z.false c.if-z-n.false (begun c.free_blocks-left.result c.new-k.ensures c.cut.ensures)
