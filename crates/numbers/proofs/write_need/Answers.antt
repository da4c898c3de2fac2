-- `numbers::write_need` meets its contract. Assumes nothing.
use mathlib.Core.List.{List}
use mathlib.Core.Path.{ap, ◌∙◌}
use Prim.Native.Nat.{ℕ}
use Rattle.rules.specs.Rules.{own_need}
use Rattle.rules.specs.Storage.{real}
use Rattle.tables.specs.Packed.{unpack}
use Rattle.numbers.proofs.Needs.{no_bytes, touched_from}
use Rattle.numbers.proofs.write_need.Goals as goal

pub returns-then-n-eq0 : goal.returns-then-n-eq0
returns-then-n-eq0 c = let a = c.args in no_bytes ((unpack a.t.now).files a.f) a.s a.off a.n c.if-n-eq0.true

pub returns : goal.returns
returns c =
    let a = c.args in
    c.own_need.ensures ∙ ap (λ (ps : List ℕ). own_need real a.s ps ((unpack a.t.now).files a.f)) (touched_from a.off a.n c.if-n-eq0.false)
