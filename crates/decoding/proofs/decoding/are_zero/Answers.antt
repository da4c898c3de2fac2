-- `decoding::decoding::are_zero` meets its contract. Assumes nothing.
use Rattle.std.proofs.Common.{◌≡◌, EachIndex, IsTrue, get_or, rules}
use mathlib.Core.Logic.{◌↔◌}
use Rattle.decoding.proofs.Requests.{zeros}
use Rattle.decoding.proofs.decoding.are_zero.Goals as goal

pub returns : goal.returns
returns c =
    let xs = c.args.fields.now in
    let h : IsTrue c.all.result ↔ EachIndex xs (λ k. get_or xs k 0 ≡ 0) = search rules in
    zeros xs c.all.result h.0 h.1
