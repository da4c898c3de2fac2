-- `pages::read_page` meets its contract. Assumes nothing.
use mathlib.Core.Path.{ap, ◌∙◌}
use Prim.Native.Nat.{◌+◌, ◌*◌}
use lib.ListN.{get_or}
use Rattle.pages.specs.Run.{run}
use Rattle.pages.proofs.PageRuns.{page_read}
use Rattle.pages.proofs.read_page.Goals as goal

pub returns : goal.returns
returns c =
    let a = c.args in
    c.copy_bytes.ensures
    ∙ ap (λ x. run a.buffer.now a.at (λ i. get_or a.pages.now (x * 512 + a.from + i) 0) a.n) c.number.ensures
    ∙ page_read a.buffer.now a.pages.now a.at a.b.0 a.from a.n c.requires.1
