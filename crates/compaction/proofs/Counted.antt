-- As many entries are stored as blocks are used: each used block is named once. Assumes nothing.
use mathlib.Core.Bool.{Bool, true}
use mathlib.Core.Path.{ap, sym, ◌∙◌, ◌≡◌}
use Prim.Native.Nat.{◌+◌, ◌<◌, ℕ, ◌≤◌}
use native.Mathlib.Omega.{arith}
use Rattle.base.specs.Count.{count, count_le, count_not}
use Rattle.compaction.proofs.Places.{entry_at, name_is, name_of, place_low, place_same}
use Rattle.compaction.proofs.Ranks.{Names, count_named, rank_less}
use Rattle.compaction.specs.Compact.{entry_in, file_at, page_at, place_count, place_of, set_at, stored_before, used_blocks}
use Rattle.rules.proofs.Blocks.RealStore.{BlocksOk, Named}
use Rattle.rules.specs.Calls.{Store}
use Rattle.rules.specs.State.{is_stored, stored}
use Rattle.rules.specs.Storage.{free_blocks, real}

module _ (r : Store real) (ok : BlocksOk r) where
  -- an entry that names a block stands at its place, below 8,192
  pub named_low : (f s p b : ℕ) → (r.files f s).map p ≡ stored b → (f < 16) × (s < 8) × (p < 64)
  named_low f s p b e =
      let q = ok.placed in
      (q.file_low f s p b e, q.set_low s (q.lives f s (q.present f s p b e)), q.page_low f s p b e)

  pub named_place : (b : ℕ) → Named r b → (n : ℕ) × (n < place_count) × (entry_in r.files n ≡ stored b)
  named_place b m =
      let l = named_low m.file m.set m.page b m.names in
      (place_of m.set m.file m.page, place_low m.set m.file m.page l.1 l.0 l.2, entry_at r.files m.set m.file m.page l.0 l.2 ∙ m.names)

  -- no block is named at two places
  pub place_once : (n m b : ℕ) → entry_in r.files n ≡ stored b → entry_in r.files m ≡ stored b → n ≡ m
  place_once n m b h k =
      let z = ok.apart (file_at n) (file_at m) (set_at n) (set_at m) (page_at n) (page_at m) b h k in place_same n m z.1 z.0 z.2

  abbrev name : ℕ → ℕ
  name n = name_of (entry_in r.files n)

  abbrev passes : ℕ → Bool
  passes n = is_stored (entry_in r.files n)

  names : Names r.memory.blocks passes name place_count r.memory.bits
  names = record {
    into = λ i l h. let u = ok.used (file_at i) (set_at i) (page_at i) (name i) (name_is (entry_in r.files i) h) in (u.below, u.bit);
    once = λ i j l k h g e. place_once i j (name i) (name_is (entry_in r.files i) h) (name_is (entry_in r.files j) g ∙ ap stored (sym e));
    onto = λ b l h. let z = named_place b (ok.only b h) in (z.0, z.1, ap is_stored z.2, ap name_of z.2);
  }

  -- LAW: the stored entries are as many as the used blocks
  pub used_count : used_blocks r.files ≡ count r.memory.blocks r.memory.bits
  unfolding stored_before
  used_count = count_named r.memory.blocks passes name place_count r.memory.bits names

  pub used_most : used_blocks r.files ≤ r.memory.blocks
  used_most = let a = used_count in let b = count_le r.memory.blocks r.memory.bits in omega arith

  pub used_free : used_blocks r.files + free_blocks r.memory ≡ r.memory.blocks
  unfolding free_blocks
  used_free = let a = used_count in let b = count_not r.memory.blocks r.memory.bits in omega arith

  -- the rank of a stored entry is below the used blocks
  pub rank_low : (n : ℕ) → n < place_count → is_stored (entry_in r.files n) ≡ true → stored_before r.files n < used_blocks r.files
  unfolding stored_before
  rank_low n l h = rank_less passes n place_count l h
