-- `looking::read_file` meets its contract. Assumes nothing.
use mathlib.Core.Path.{◌≡◌, ap, ◌∙◌}
use Prim.Native.Nat.{◌+◌, ◌≤◌}
use native.Mathlib.Omega.{arith}
use lib.ListN.{length}
use Rattle.rules.specs.Calls.{read_count}
use Rattle.rules.specs.Reading.{size_by_reading}
use Rattle.rules.specs.State.{tree_of}
use Rattle.tables.specs.Packed.{unpack}
use Rattle.looking.proofs.Parts.{blocks_in, in_file, pages_in, read_done, read_none, size_in_law}
use Rattle.looking.proofs.read_file.Goals as goal
use Rattle.looking.proofs.read_file.Goals.{After-read_count-n, Else-n-eq0}

-- how many bytes are read
counted : (c : After-read_count-n) → let a = c.args in
    c.read_count-n.result ≡ read_count (length a.buffer.now) a.off (size_by_reading (tree_of (unpack a.t.now).sets) ((unpack a.t.now).files a.f) a.s)
counted c =
    let a = c.args in
    c.read_count-n.ensures ∙ ap (read_count (length a.buffer.now) a.off) c.size_of.ensures.0

pub returns-then-n-eq0 : goal.returns-then-n-eq0
returns-then-n-eq0 c = read_none _ _ _ _ _ _ _ (counted (goal.at.returns-then-n-eq0 c).After-read_count-n) c.if-n-eq0.true

-- they are in the file and in the buffer
fits : (c : Else-n-eq0) → let a = c.args in (a.off + c.read_count-n.result ≤ 32768) × (c.read_count-n.result ≤ length a.buffer.now)
fits c =
    let a = c.args in
    in_file (length a.buffer.now) a.off _ c.read_count-n.result (c.read_count-n.ensures ∙ ap (read_count (length a.buffer.now) a.off) c.size_of.ensures.0) (size_in_law a.t.now a.p.now c.requires.0 a.s a.f) c.if-n-eq0.false

pub resolve_range-r-requires : goal.resolve_range-r-requires
resolve_range-r-requires c =
    let z = (fits (goal.at.resolve_range-r-requires c).Else-n-eq0).0 in
    (c.requires.0.packed.len, c.requires.1, c.requires.2, pages_in _ _ (omega arith) (omega arith))

pub read_pages-requires : goal.read_pages-requires
read_pages-requires c =
    let a = c.args in
    (blocks_in a.t.now a.p.now a.s a.f c.requires.0 _ _ _ c.resolve_range-r.ensures, (fits (goal.at.read_pages-requires c).Else-n-eq0).0, (fits (goal.at.read_pages-requires c).Else-n-eq0).1)

pub returns : goal.returns
returns c =
    let a = c.args in
    read_done a.t.now a.p.now a.s a.f a.off c.read_count-n.result a.buffer.now _ c.resolve_range-r.result c.requires.0 (counted (goal.at.returns c).After-read_count-n) c.if-n-eq0.false c.resolve_range-r.ensures
    c.read_pages.ensures
