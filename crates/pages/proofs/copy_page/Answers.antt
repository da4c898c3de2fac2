-- `pages::copy_page` meets its contract. Assumes nothing.
use Rattle.std.proofs.Common.{◌+◌, ◌*◌, ◌∙◌, ap, arith, get_or}
use Rattle.tables.specs.Calls.{pages_of}
use Rattle.pages.specs.Run.{run}
use Rattle.pages.proofs.PageRuns.{copied, copy_self}
use Rattle.pages.proofs.Parts.{moved_run}
use Rattle.pages.proofs.copy_page.Goals as goal

pub returns-then-a-b : goal.returns-then-a-b
returns-then-a-b c =
    copy_self c.args.pages.now c.args.from.0 c.args.to.0 c.number-a.result c.number-b.result c.number-a.ensures c.number-b.ensures c.if-a-b.true

pub returns : goal.returns
returns c =
    let P = c.args.pages.now in
    let a = c.number-a.result in
    ap pages_of (c.copy_within.ensures.after ∙ moved_run P (c.number-b.result * 512) (a * 512) 512 (omega arith) (omega arith))
    ∙ ap (λ x. pages_of (run P (c.number-b.result * 512) (λ k. get_or P (x * 512 + k) 0) 512)) c.number-a.ensures
    ∙ ap (λ x. pages_of (run P (x * 512) (λ k. get_or P (c.args.from.0 * 512 + k) 0) 512)) c.number-b.ensures
    ∙ copied P c.args.from.0 c.args.to.0 c.requires.1
