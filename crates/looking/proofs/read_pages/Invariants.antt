-- `looking::read_pages` meets its contract. The loop's invariant: the bytes before page q are read. Assumes nothing.
use mathlib.Core.Path.{◌≡◌}
use Prim.Native.Nat.{◌*◌, ◌+◌, ◌-◌, min}
use Rattle.pages.specs.Run.{run}
use Rattle.looking.specs.Read.{byte_kept}
use Rattle.looking.proofs.read_pages.Given as goal

abbrev pub invariant-loop-q : goal.invariant-loop-q
invariant-loop-q l = l.buffer ≡ run l.initial.buffer 0 (λ i. byte_kept l.kept l.p (l.off + i)) (min (l.q * 512 - l.off) l.n)
