-- `pages::lay_bytes` meets its contract. Assumes nothing.
use mathlib.Core.Path.{ap, ◌∙◌}
use Prim.Native.Nat.{◌+◌, ◌-◌, ◌*◌, max, min}
use lib.ListN.{length, get_or}
use Rattle.tables.specs.Calls.{pages_of}
use Rattle.pages.specs.Run.{run}
use Rattle.pages.proofs.Overlays.{none_laid, some_laid}
use Rattle.pages.proofs.lay_bytes.Goals as goal

pub returns-then-hi-lo : goal.returns-then-hi-lo
returns-then-hi-lo c =
    let a = c.args in
    let d = a.«data».now in
    none_laid a.pages.now a.b.0 a.page.0 a.off c.max-lo.result c.min-hi.result d
    (c.max-lo.ensures ∙ ap (λ x. max a.off (x * 512)) c.number-start.ensures)
    (c.min-hi.ensures ∙ ap (λ x. min (a.off + length d) (x * 512 + 512)) c.number-start.ensures)
    c.if-hi-lo.true

pub returns : goal.returns
returns c =
    let a = c.args in
    let P = a.pages.now in
    let d = a.«data».now in
    let lo = c.max-lo.result in
    let hi = c.min-hi.result in
    ap pages_of c.copy_bytes.ensures
    ∙ ap (λ x. pages_of (run P (x * 512 + (lo - c.number-start.result * 512)) (λ i. get_or d (lo - a.off + i) 0) (hi - lo))) c.number.ensures
    ∙ ap (λ x. pages_of (run P (a.b.0 * 512 + (lo - x * 512)) (λ i. get_or d (lo - a.off + i) 0) (hi - lo))) c.number-start.ensures
    ∙ some_laid P a.b.0 a.page.0 a.off lo hi d
    (c.max-lo.ensures ∙ ap (λ x. max a.off (x * 512)) c.number-start.ensures)
    (c.min-hi.ensures ∙ ap (λ x. min (a.off + length d) (x * 512 + 512)) c.number-start.ensures)
    c.if-hi-lo.false c.requires.0
