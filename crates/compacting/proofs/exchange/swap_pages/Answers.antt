-- `compacting::exchange::swap_pages` meets its contract. The loop's invariant: the bytes before byte i have changed places. Assumes nothing.
use mathlib.Core.Path.{◌≡◌, ap, sym, ◌∙◌}
use Prim.Native.Nat.{◌*◌, ◌+◌, suc}
use native.Mathlib.Omega.{arith}
use lib.ListN.{length-set}
use Rattle.compacting.specs.Exchange.{traded, traded_none}
use Rattle.compacting.proofs.Trading.{pages_traded, trade_more}
use Rattle.tables.specs.Calls.{pages_of}
use Rattle.compacting.proofs.exchange.swap_pages.Goals as goal

pub loop-i-init : goal.loop-i-init
loop-i-init c = sym (traded_none _ _ _)

pub loop-i-preserved : goal.loop-i-preserved
loop-i-preserved c =
    let l = c.loop-i in
    let x = c.number-x.result * 512 in
    let y = c.number-y.result * 512 in
    let a = c.number-x.ensures in
    let b = c.number-y.ensures in
    let e : suc l.i ≡ l.i + 1 = omega arith in
    trade_more c.args.pages.now l.pages l.spare x y l.i _ l.invariant l.auto.spare (omega (arith, c.loop-i-test.true, c.requires.3))
    (λ j k q. c.requires.0 (omega (arith, k, q, a, b, c.loop-i-test.true))) (λ j k q. c.requires.0 (omega (arith, k, q, a, b, c.loop-i-test.true)))
    (λ q. c.requires.0 (omega (arith, q, a, b))) ∙ ap (traded c.args.pages.now x y) e

pub bounds-pages-y-in-loop-i : goal.bounds-pages-y-in-loop-i
bounds-pages-y-in-loop-i c =
    simp length-set (omega (arith, c.loop-i-test.true, c.loop-i.auto.pages, c.number-y.ensures, c.requires.2))

pub returns : goal.returns
returns c =
    let l = c.loop-i in
    let p = c.args.pages.now in
    let e : l.i ≡ 512 = omega arith in
    ap pages_of (l.invariant
    ∙ (λ i. traded p (c.number-x.ensures i * 512) (c.number-y.ensures i * 512) (e i)))
    ∙ pages_traded p c.args.a.0 c.args.b.0 c.requires.0 c.requires.1 c.requires.2
