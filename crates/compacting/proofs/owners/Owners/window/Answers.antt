-- `compacting::owners::Owners::window` meets its contract. Assumes nothing.
use mathlib.Core.Path.{refl, sym, ◌∙◌}
use Rattle.compacting.specs.Owners.{owners_at, window_at}
use Rattle.compacting.proofs.owners.Owners.window.Goals as goal

pub returns-then-holds : goal.returns-then-holds
unfolding owners_at window_at
returns-then-holds c = let e = sym c.holds.ensures ∙ c.if-holds.true in (simp e, simp e)

pub returns : goal.returns
unfolding owners_at window_at
returns c = let e = sym c.holds.ensures ∙ c.if-holds.false in (c.fill.ensures.first ∙ simp e, c.fill.ensures.places ∙ simp e refl)
