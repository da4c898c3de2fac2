-- `pages::zero_page` meets its contract. Assumes nothing.
use mathlib.Core.Path.{ap, ◌∙◌}
use Prim.Native.Nat.{◌*◌}
use Rattle.tables.specs.Calls.{pages_of}
use Rattle.pages.specs.Run.{run}
use Rattle.pages.proofs.PageRuns.{page_zeroed}
use Rattle.pages.proofs.zero_page.Goals as goal

pub returns : goal.returns
returns c =
    let P = c.args.pages.now in
    ap pages_of c.zero_bytes.ensures ∙ ap (λ x. pages_of (run P (x * 512) (λ i. 0) 512)) c.number.ensures ∙ page_zeroed P c.args.b.0 c.requires
