-- `pages::copy_bytes` meets its contract. The loop's invariant: the bytes up to `i` are copied.
use Rattle.std.proofs.Common.{List, ◌≡◌, ◌∙◌, ◌+◌, ℕ, sym, ap, arith, set, get_or}
use Rattle.pages.specs.Run.{run, run_none, run_more}
use Rattle.pages.proofs.copy_bytes.Goals as goal

pub loop-i-init : goal.loop-i-init
loop-i-init c = sym (run_none _ _ _)

pub loop-i-preserved : goal.loop-i-preserved
loop-i-preserved c =
    let L = c.loop-i in
    let a = c.args in
    let f : ℕ → ℕ = λ k. get_or a.source.now (a.start + k) 0 in
    ap (λ (l : List ℕ). set l (a.at + L.i) (f L.i)) L.invariant ∙ sym (run_more a.target.now a.at f L.i)

pub returns : goal.returns
returns c =
    let L = c.loop-i in
    let a = c.args in
    let e : L.i ≡ a.n = omega arith in
    L.invariant ∙ ap (run a.target.now a.at (λ k. get_or a.source.now (a.start + k) 0)) e
