-- `converting::put_record` meets its contract. Assumes nothing.
use Prim.Native.Nat.{ℕ}
use Rattle.converting.proofs.Fronts.{record_put}
use Rattle.converting.proofs.put_record.Goals as goal

pub returns : goal.returns
returns c =
    let h = c.requires in
    record_put _ _ _ h.0 h.2 _ _ _ _ (λ (j : ℕ). (c.type_inv.front j).fits) c.read-w.ensures c.default_term-term.ensures c.write.ensures c.write-2.ensures
