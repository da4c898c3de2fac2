-- The state that the tables hold, part by part: in range it is read from a word, out of range it is the default. Assumes nothing.
use mathlib.Core.Bool.{false}
use mathlib.Core.List.{List}
use mathlib.Core.Path.{refl, ◌≡◌}
use Prim.Native.Nat.{◌<◌, ℕ, ◌≤◌}
use borrow.Author.Tests.{le-ltb, lt-ltb}
use Rattle.packing.specs.Bitmap.{bit_at}
use Rattle.rules.specs.State.{absent, file_count, largest_blocks, page_count, set_count, unmapped, unused_set}
use Rattle.tables.proofs.InRange.{is_file_law, is_page_law}
use Rattle.tables.specs.Layout.{bitmap_at, entry_word, head_word, header_word, read_blocks, read_entry, read_next, read_set, read_size, read_state, set_word, term_word}
use Rattle.tables.specs.Packed.{is_file, is_page, unpack}

module _ (t : List ℕ) where
  -- ---- in range

  pub read_blocks_law : (unpack t).blocks ≡ read_blocks (header_word t)
  unfolding unpack
  read_blocks_law = refl

  pub read_next_law : (unpack t).next ≡ read_next (header_word t)
  unfolding unpack
  read_next_law = refl

  pub read_bit : (b : ℕ) → b < largest_blocks → (unpack t).bits b ≡ bit_at t bitmap_at b
  unfolding unpack
  read_bit b h = rw (lt-ltb b largest_blocks h)

  pub read_set_law : (s : ℕ) → s < set_count → (unpack t).sets s ≡ read_set (set_word t s) (term_word t s)
  unfolding unpack
  read_set_law s h = rw (lt-ltb s set_count h)

  pub read_state_law : (f s : ℕ) → f < file_count → s < set_count → ((unpack t).files f s).state ≡ read_state (head_word t f s)
  unfolding unpack
  read_state_law f s hf hs = rw (is_file_law f s hf hs)

  pub read_size_law : (f s : ℕ) → f < file_count → s < set_count → ((unpack t).files f s).size ≡ read_size (head_word t f s)
  unfolding unpack
  read_size_law f s hf hs = rw (is_file_law f s hf hs)

  pub read_map : (f s p : ℕ) → f < file_count → s < set_count → p < page_count → ((unpack t).files f s).map p ≡ read_entry (entry_word t f s p)
  unfolding unpack
  read_map f s p hf hs hp = rw (is_page_law f s p hf hs hp)

  -- ---- out of range

  pub bit_default : (b : ℕ) → largest_blocks ≤ b → (unpack t).bits b ≡ false
  unfolding unpack
  bit_default b h = rw (le-ltb b largest_blocks h)

  pub set_default : (s : ℕ) → set_count ≤ s → (unpack t).sets s ≡ unused_set
  unfolding unpack
  set_default s h = rw (le-ltb s set_count h)

  pub state_default : (f s : ℕ) → is_file f s ≡ false → ((unpack t).files f s).state ≡ absent
  unfolding unpack
  state_default f s h = rw h

  pub size_default : (f s : ℕ) → is_file f s ≡ false → ((unpack t).files f s).size ≡ 0
  unfolding unpack
  size_default f s h = rw h

  pub map_default : (f s p : ℕ) → is_page f s p ≡ false → ((unpack t).files f s).map p ≡ unmapped
  unfolding unpack
  map_default f s p h = rw h
