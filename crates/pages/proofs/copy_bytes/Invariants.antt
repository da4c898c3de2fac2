-- `pages::copy_bytes` meets its contract. The loop's invariant: the bytes up to `i` are copied.
use Rattle.std.proofs.Common.{◌≡◌, ◌+◌, get_or}
use Rattle.pages.specs.Run.{run}
use Rattle.pages.proofs.copy_bytes.Given as goal

abbrev pub invariant-loop-i : goal.invariant-loop-i
invariant-loop-i l = l.target ≡ run l.initial.target l.at (λ k. get_or l.source (l.start + k) 0) l.i
