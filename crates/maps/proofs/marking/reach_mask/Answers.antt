-- `maps::marking::reach_mask` meets its contract. The loop's invariant: m has the answers for the sets from s on as its digits.
use mathlib.Core.Bool.{Bool, false, true}
use mathlib.Core.Path.{ap, refl, sym, ◌∙◌, ◌≡◌}
use Prim.Native.Nat.{◌-◌}
use native.Mathlib.Omega.{arith}
use Rattle.std.specs.Int.{from_bool}
use Rattle.base.specs.Logic.{digit}
use Rattle.rules.specs.Reading.{reaches}
use Rattle.rules.specs.State.{tree_of}
use Rattle.tables.specs.Packed.{unpack}
use Rattle.maps.specs.Mask.{mask_more, packs_lt, packs_none}
use Rattle.maps.proofs.marking.reach_mask.Goals as goal

-- a Boolean as a number is its digit
number : (b : Bool) → from_bool b ≡ digit b
number true = refl
number false = refl

pub loop-s-init : goal.loop-s-init
loop-s-init c = (sym (packs_none _ 8 0 (omega arith)), omega arith)

pub loop-s-preserved : goal.loop-s-preserved
loop-s-preserved c =
    let a = c.args in
    let tb = unpack a.t.now in
    let g = reaches (tree_of tb.sets) (tb.files a.f) a.c in
    let e = mask_more g c.loop-s.s c.loop-s.m c.from.result (omega arith) (omega arith) c.loop-s.invariant.0 (c.from.ensures ∙ number c.depends_on.result ∙ ap digit c.depends_on.ensures) in
    (e, omega (arith, e, packs_lt g (c.loop-s.s - 1) (8 - (c.loop-s.s - 1)) (omega arith)))
