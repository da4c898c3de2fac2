-- `entering::enter_all` meets its contract. The loop's invariant: entering the m pages is what is done and then entering those from q on. Assumes nothing.
use mathlib.Core.Path.{◌≡◌, ap, sym, ◌∙◌}
use Prim.Native.Nat.{◌+◌, ◌-◌}
use native.Mathlib.Omega.{arith}
use Rattle.rules.specs.Storage.{overlay}
use Rattle.tables.proofs.Pending.{pending_at}
use Rattle.tables.specs.Views.{pending_of}
use Rattle.entering.proofs.Pending.{entering_done, entering_pending, entering_start, entering_turn}
use Rattle.entering.proofs.enter_all.Goals as goal

pub loop-q-init : goal.loop-q-init
loop-q-init c =
    let a = c.args in
    let e : a.first + a.m - a.first ≡ a.m = omega arith in
    rw e (entering_start (pending_of a.pending) a.s a.first a.m (overlay a.off a.«data».now) c.requires.0)

pub enter-requires : goal.enter-requires
enter-requires c =
    let a = c.args in
    let g = c.loop-q.invariant in (
      g.ready,
      (λ b e. (entering_pending g c.requires.1).below c.loop-q.q b (sym (pending_at a.pending c.loop-q.q _ (omega (arith, c.requires.1.len))) ∙ e)),
      c.requires.2,
      omega (arith, c.new.ensures),
      c.requires.4,
    )

pub loop-q-preserved : goal.loop-q-preserved
loop-q-preserved c =
    let a = c.args in
    entering_turn c.loop-q.invariant (a.first + a.m - (c.loop-q.q + 1)) _ (omega arith) c.new.ensures
    (c.enter.ensures (pending_of a.pending) (ap (pending_of a.pending) c.new.ensures ∙ sym (pending_at a.pending c.loop-q.q _ (omega (arith, c.requires.1.len)))))

pub returns : goal.returns
returns c = entering_done c.loop-q.invariant (omega arith)
