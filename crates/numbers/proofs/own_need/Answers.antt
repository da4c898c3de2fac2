-- `numbers::own_need` meets its contract. The loop's invariant: the pages counted and the need of those that are left are the whole need.
use Prim.Native.Nat.{◌+◌}
use mathlib.Core.Path.{ap, refl, ◌∙◌}
use mathlib.Core.Bool.{not}
use native.Mathlib.Omega.{arith}
use Rattle.base.specs.Logic.{digit}
use Rattle.rules.specs.State.{is_stored}
use Rattle.tables.specs.Packed.{unpack}
use Rattle.numbers.proofs.Needs.{own_end, own_start, own_turn}
use Rattle.numbers.proofs.own_need.Goals as goal

pub loop-i-init : goal.loop-i-init
loop-i-init c = let a = c.args in (omega arith, omega arith, own_start ((unpack a.t.now).files a.f) a.s a.first a.m _ refl)

pub loop-i-preserved : goal.loop-i-preserved
loop-i-preserved c =
    let a = c.args in
    let files = (unpack a.t.now).files a.f in (
      omega arith,
      omega arith,
      own_turn files a.s c.loop-i.n c.loop-i.i (a.first + a.m) c.missing-n.result _ (omega arith)
          (c.missing-n.ensures.0 ∙ ap (λ x. digit (not (is_stored x))) c.entry_at.ensures ∙ ap (λ p. digit (not (is_stored ((files a.s).map p)))) c.new.ensures)
          c.loop-i.invariant.2,
    )

pub returns : goal.returns
returns c =
    let a = c.args in
    own_end ((unpack a.t.now).files a.f) a.s c.loop-i.n c.loop-i.i (a.first + a.m) _ (omega arith) c.loop-i.invariant.2
