-- `cutting::cut` meets its contract. Assumes nothing.
use mathlib.Core.Bool.{false, true}
use Prim.Native.Nat.{◌/◌}
use native.Mathlib.Omega.{arith}
use Rattle.rules.specs.Reading.{resolve}
use Rattle.rules.specs.State.{tree_of}
use Rattle.tables.specs.Meaning.{entry_meant}
use Rattle.tables.specs.Packed.{unpack}
use Rattle.cutting.proofs.Cutting.{at_page_law, cut_even, cut_hole, cut_stored, kept_stored, need_kept}
use Rattle.cutting.proofs.cut.Goals as goal

pub returns-then-n-eq0 : goal.returns-then-n-eq0
returns-then-n-eq0 c =
    let a = c.args in
    cut_even a.s a.n a.z (resolve (tree_of (unpack a.t.now).sets) ((unpack a.t.now).files a.f) a.s (a.n / 512)) c.if-n-eq0.true c.cut_away.ensures

pub cut_away-requires-then-not-is_stored : goal.cut_away-requires-then-not-is_stored
cut_away-requires-then-not-is_stored c =
    (c.requires.0, c.requires.1, c.requires.2, omega (arith, c.requires.3, c.requires.4), omega (arith, c.requires.3, c.requires.4))

pub returns-then-not-is_stored : goal.returns-then-not-is_stored
returns-then-not-is_stored c =
    let a = c.args in
    cut_hole a.s a.n a.z (resolve (tree_of (unpack a.t.now).sets) ((unpack a.t.now).files a.f) a.s (a.n / 512)) c.if-n-eq0.false (at_page_law (tree_of (unpack a.t.now).sets) ((unpack a.t.now).files a.f) a.s (a.n / 512) c.new.result.0 (entry_meant c.resolve_in-r.result.entry) c.is_stored.result false c.new.ensures c.resolve_in-r.ensures.0 c.is_stored.ensures c.if-not-is_stored.true) c.cut_away-then-not-is_stored.ensures

pub cut_kept-requires : goal.cut_kept-requires
cut_kept-requires c =
    let a = c.args in (
      c.requires.0,
      c.requires.1,
      c.requires.2,
      omega arith,
      omega (arith, c.requires.3, c.requires.4),
      omega (arith, c.requires.3, c.requires.4),
      need_kept a.t.now a.f a.s a.n a.k.left (resolve (tree_of (unpack a.t.now).sets) ((unpack a.t.now).files a.f) a.s (a.n / 512)) (kept_stored a.n a.z (resolve (tree_of (unpack a.t.now).sets) ((unpack a.t.now).files a.f) a.s (a.n / 512)) c.if-n-eq0.false (at_page_law (tree_of (unpack a.t.now).sets) ((unpack a.t.now).files a.f) a.s (a.n / 512) c.new.result.0 (entry_meant c.resolve_in-r.result.entry) c.is_stored.result true c.new.ensures c.resolve_in-r.ensures.0 c.is_stored.ensures c.if-not-is_stored.false)) c.requires.5,
    )

pub returns : goal.returns
returns c =
    let a = c.args in
    cut_stored a.s a.n a.z (resolve (tree_of (unpack a.t.now).sets) ((unpack a.t.now).files a.f) a.s (a.n / 512)) c.if-n-eq0.false (at_page_law (tree_of (unpack a.t.now).sets) ((unpack a.t.now).files a.f) a.s (a.n / 512) c.new.result.0 (entry_meant c.resolve_in-r.result.entry) c.is_stored.result true c.new.ensures c.resolve_in-r.ensures.0 c.is_stored.ensures c.if-not-is_stored.false) c.cut_kept.ensures
