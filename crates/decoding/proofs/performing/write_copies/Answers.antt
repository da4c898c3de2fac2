-- `decoding::performing::write_copies` meets its contract. Assumes nothing.
use mathlib.Core.List.{List}
use mathlib.Core.Path.{ap, ◌∙◌}
use Prim.Native.Nat.{ℕ}
use Rattle.rules.specs.Numbers
use Rattle.tables.specs.Calls.{call_on}
use Rattle.decoding.proofs.Requests.{take_copies}
use Rattle.decoding.proofs.performing.write_copies.Goals as goal

pub returns : goal.returns
returns c =
    let a = c.args in
    c.write.ensures ∙ ap (λ (l : List ℕ). call_on (Numbers.narrow_write a.set a.file a.offset l) a.t.now a.p.now) (take_copies 4096 a.length a.fill c.requires)
