-- THE BLOCKS THAT MARKING FREES IN A WRITE, "a block as often as it was freed" (document 02, Ask 10, of the room bound of Ask 7). In the words of the tally, turn after
-- turn: where a needed copy finds no block free, the files that become marked give up the blocks that they hold at that moment.
use Rattle.std.specs.Prelude.{◌&&◌, Bool, cond, false, List, ◌∷◌, [], ◌+◌, ◌-◌, suc, zero, ℕ, eqb}
use Rattle.rules.specs.State.{Tree, is_stored, page_count}
use Rattle.rules.specs.Tally.{Tally, Turn, at_page, child_turn, each_child, each_page, holds_byte, kind_at, mark_frees, tally_needs, tally_settle, tally_write_need}

-- of the file in set s
module _ (t : Tree) (s : ℕ) where
  -- by the turn of child c at a touched page p, where x is what it finds: "A needed copy is step 4's, of a needed page resolving to stored; it finds none free if, at its
  -- turn, no block is free"
  unfoldable pub freed_at : ℕ → ℕ → Turn → ℕ
  freed_at p c x = cond (tally_needs x.files c p && is_stored (kind_at t x.files s p) && eqb x.free 0) (mark_frees t x.files c) 0

  -- by the turns of children at page p, one after the other
  unfoldable pub freed_by_children : ℕ → List ℕ → Turn → ℕ
  freed_by_children p [] x = 0
  freed_by_children p (c ∷ cs) x = freed_at p c x + freed_by_children p cs (child_turn t s p c x)

  -- at the touched pages below n, ascending
  unfoldable pub freed_by_pages : (ℕ → Bool) → ℕ → Turn → ℕ
  freed_by_pages touches zero x = 0
  freed_by_pages touches (suc n) x =
      freed_by_pages touches n x + cond (touches n) (freed_by_children n (t.children s) (each_page (at_page t s touches (λ p. false)) n x)) 0

-- what the first turn of a write of n bytes finds: virgin files of the set and its children are own, and the writer's own blocks are taken
abbrev pub write_begun : Tally → ℕ → ℕ → ℕ → ℕ → Turn
write_begun ta s f off n =
    record { files = each_child (tally_settle ta.tree) (s ∷ ta.tree.children s) (ta.files f); free = ta.free - tally_write_need (ta.files f) s off n; copies = 0; marks = 0 }

-- BY AN ACCEPTED WRITE of n bytes at offset off to file f of set s, narrow or by groups: an extra page "marks nothing", so it frees nothing
unfoldable pub freed_by_write : Tally → ℕ → ℕ → ℕ → ℕ → ℕ
freed_by_write ta s f off n = freed_by_pages ta.tree s (holds_byte off n) page_count (write_begun ta s f off n)

-- by a write that gave this number: a refused one frees nothing
abbrev pub freed_given : ℕ → Tally → ℕ → ℕ → ℕ → ℕ → ℕ
freed_given number ta s f off n = cond (eqb number 0) (freed_by_write ta s f off n) 0
