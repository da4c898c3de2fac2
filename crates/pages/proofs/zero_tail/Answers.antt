-- `pages::zero_tail` meets its contract. Assumes nothing.
use mathlib.Core.Path.{ap, ◌∙◌}
use Prim.Native.Nat.{◌+◌, ◌-◌, ◌*◌}
use Rattle.tables.specs.Calls.{pages_of}
use Rattle.pages.specs.Run.{run}
use Rattle.pages.proofs.PageRuns.{tail_zeroed}
use Rattle.pages.proofs.zero_tail.Goals as goal

pub returns : goal.returns
returns c =
    let a = c.args in
    let P = a.pages.now in
    ap pages_of c.zero_bytes.ensures ∙ ap (λ x. pages_of (run P (x * 512 + a.n) (λ i. 0) (512 - a.n))) c.number.ensures
    ∙ tail_zeroed P a.b.0 a.n c.requires.0 c.requires.1
