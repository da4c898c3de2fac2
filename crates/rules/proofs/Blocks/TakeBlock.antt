-- Taking a block from the store's memory: a free one below B is found, and one fewer is free. Assumes nothing.
use mathlib.Core.Bool.{false, not, true}
use mathlib.Core.Path.{ap, refl, ◌≡◌}
use Prim.Native.Nat.{◌-◌, ◌<◌, ℕ}
use native.Mathlib.Nat.{mod-lt}
use native.Mathlib.Omega.{arith}
use Rattle.base.specs.Count.{count_less}
use Rattle.base.specs.Logic.{pick}
use Rattle.base.specs.Search.{Free, first_found, first_says, first_free}
use Rattle.base.specs.Update.{upd, upd_other, upd_same}
use Rattle.rules.specs.Storage.{Memory, free_blocks, take_block}

module _ (m : Memory) (low : m.next < m.blocks) (room : 0 < free_blocks m) where
  taken_free : Free m.blocks m.bits (take_block m).0
  unfolding take_block free_blocks
  taken_free =
      let r = first_found m.blocks m.bits m.next low room in
      rw r.1 (first_says m.blocks m.bits m.next r.0 low r.1)

  pub take_below : (take_block m).0 < m.blocks
  take_below = taken_free.below

  pub take_unused : m.bits (take_block m).0 ≡ false
  take_unused = taken_free.unused

  pub take_count : free_blocks (take_block m).1 ≡ free_blocks m - 1
  unfolding take_block free_blocks
  take_count =
      let b : ℕ = pick (first_free m.blocks m.bits m.next) 0 in
      let c = count_less m.blocks (λ x. not (m.bits x)) (λ x. not (upd m.bits b true x)) b take_below (ap not take_unused)
      (ap not (upd_same m.bits b true)) (λ x n. ap not (upd_other m.bits b true x n)) in
      omega arith

  pub take_next : (take_block m).1.next < (take_block m).1.blocks
  unfolding take_block
  take_next = mod-lt _ (omega arith)

module _ (m : Memory) where
  pub take_pages : (b : ℕ) → (take_block m).1.pages b ≡ m.pages b
  unfolding take_block
  take_pages b = refl

  pub take_blocks : (take_block m).1.blocks ≡ m.blocks
  unfolding take_block
  take_blocks = refl

  pub take_bits : (take_block m).1.bits ≡ upd m.bits (take_block m).0 true
  unfolding take_block
  take_bits = refl
