-- `compacting::exchange::place_block` meets its contract. Assumes nothing.
use mathlib.Core.Bool.{false}
use mathlib.Core.Path.{◌≡◌, sym, ◌∙◌}
use Prim.Native.Nat.{◌<◌}
use native.Mathlib.Omega.{arith}
use Rattle.compaction.specs.Compact.{entry_in}
use Rattle.compacting.proofs.Becoming.{tracked_become}
use Rattle.compacting.proofs.OnBytes.{own_swap}
use Rattle.compacting.proofs.Tracking.{in_window_law, owner_found, tracked_exchanged, tracked_moved, tracked_next, window_moved}
use Rattle.rules.specs.State.{stored}
use Rattle.tables.specs.Packed.{unpack}
use Rattle.compacting.proofs.exchange.place_block.Goals as goal
use Rattle.compacting.proofs.exchange.place_block.Goals.{After-owner_of-o, Then-not-is_used}

pub returns-then-k-number : goal.returns-then-k-number
returns-then-k-number c =
    (own_swap _ _ c.args.k c.args.b.0 c.requires.0 (c.if-k-number.true ∙ c.number.ensures), tracked_next _ _ _ _ c.requires.6)

-- block k is free
unused : (c : Then-not-is_used) → (unpack c.args.t.now).bits c.args.k ≡ false
unused c = sym c.is_used.ensures ∙ c.if-not-is_used.true

pub move_to-requires : goal.move_to-requires
move_to-requires c =
    (c.requires.0, c.requires.1, c.requires.2, c.requires.3, unused (goal.at.move_to-requires c).Then-not-is_used)

pub returns-then-not-is_used : goal.returns-then-not-is_used
returns-then-not-is_used c =
    (c.move_to.ensures, tracked_moved _ _ c.args.owners.now.first c.args.n c.requires.6 _ _ _ c.args.k c.args.b.0 c.requires.0 c.requires.2 c.move_to.ensures (unused (goal.at.returns-then-not-is_used c).Then-not-is_used))

pub window-requires : goal.window-requires
window-requires c = let p = c.requires in (p.0.packed, p.0.held, p.1, omega (arith, p.3, p.0.most))

pub owner_of-o-requires : goal.owner_of-o-requires
owner_of-o-requires c = in_window_law _ _ (window_moved _ _ _ _ c.args.owners.now.first c.args.n c.args.k _ c.requires.0 c.requires.1 c.requires.6 c.window.ensures).holds

-- its owner
owner : (c : After-owner_of-o) → (c.owner_of-o.result < 8192) × (entry_in (unpack c.args.t.now).files c.owner_of-o.result ≡ stored c.args.k)
owner c =
    owner_found _ _ c.window.new.self.first c.args.n c.args.k _
    (window_moved _ _ _ _ c.args.owners.now.first c.args.n c.args.k _ c.requires.0 c.requires.1 c.requires.6 c.window.ensures)
    (c.requires.4 (sym c.is_used.ensures ∙ c.if-not-is_used.false)) c.owner_of-o.ensures

pub entry_in-requires : goal.entry_in-requires
entry_in-requires c = (c.requires.0.packed.len, (owner (goal.at.entry_in-requires c).After-owner_of-o).0)

pub exchange_with-requires : goal.exchange_with-requires
exchange_with-requires c =
    let p = c.requires in
    (p.0, p.1, (owner (goal.at.exchange_with-requires c).After-owner_of-o).0, p.2, (owner (goal.at.exchange_with-requires c).After-owner_of-o).1, c.entry_in.ensures ∙ (owner (goal.at.exchange_with-requires c).After-owner_of-o).1, p.5, λ q. c.if-k-number.false (q ∙ sym c.number.ensures))

pub note-requires : goal.note-requires
note-requires c = (owner (goal.at.note-requires c).After-owner_of-o).0

pub returns : goal.returns
returns c =
    let m = window_moved _ _ _ _ c.args.owners.now.first c.args.n c.args.k _ c.requires.0 c.requires.1 c.requires.6 c.window.ensures in (
      c.exchange_with.ensures,
      tracked_become _ c.window.new.self _ _ c.args.b.0 _ c.owner_of-o.result c.note.ensures c.number-2.ensures
          (tracked_exchanged _ _ _ c.args.n m.tracked _ _ _ c.args.k c.args.b.0 c.requires.0 c.requires.2 c.exchange_with.ensures c.owner_of-o.result (owner (goal.at.returns c).After-owner_of-o).1),
    )
