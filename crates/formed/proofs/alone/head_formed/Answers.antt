-- `formed::alone::head_formed` meets its contract. Assumes nothing.
use mathlib.Core.Path.{refl}
use native.Mathlib.Omega.{arith}
use Rattle.formed.proofs.AloneRules.{head_absent, head_over, head_state, head_unused, head_zeros}
use Rattle.formed.proofs.alone.head_formed.Goals as goal

pub returns-then-w-ne0 : goal.returns-then-w-ne0
returns-then-w-ne0 c = head_zeros _ _ _ _ _ (λ e. omega arith)

pub returns-then-k-eq0 : goal.returns-then-k-eq0
returns-then-k-eq0 c = head_absent _ _ _ _ _ (omega arith) _ _ refl refl _ c.if-k-eq0.true c.zero_file.ensures

pub returns-then-not-used : goal.returns-then-not-used
returns-then-not-used c = head_unused _ _ _ _ _ (omega arith) _ _ refl refl c.if-k-eq0.false c.if-not-used.true

pub returns-then-n-gt32768 : goal.returns-then-n-gt32768
returns-then-n-gt32768 c = head_over _ _ _ _ _ (omega arith) _ _ refl refl c.if-k-eq0.false c.if-not-used.false (omega arith)

pub returns : goal.returns
returns c =
    head_state _ _ _ _ _ (omega arith) _ _ refl refl _ c.if-k-eq0.false c.if-not-used.false (omega arith) c.state_formed.ensures
