-- What the code stores is a change of the state: the laws of Stores, for the words and the places that the code computes. Assumes nothing.
use mathlib.Core.Bool.{false, true}
use mathlib.Core.List.{List}
use mathlib.Core.Path.{ap, refl, subst, sym, ◌∙◌, ◌≡◌}
use Prim.Native.Nat.{◌%◌, ◌*◌, ◌+◌, ◌/◌, ◌<◌, ℕ}
use lib.ListN.{get_or, set}
use Rattle.packing.specs.Bitmap.{clear_bit, set_bit}
use Rattle.packing.specs.Words.{Bytes, put_word}
use Rattle.rules.specs.State.{Entry, SetRecord, State, Tables, Term, file_count, largest_blocks, page_count, set_count}
use Rattle.tables.proofs.Codes.{blocks_lt, head_word, next_bytes}
use Rattle.tables.proofs.Layouts.{TermFits}
use Rattle.tables.proofs.PackUnpack.{pack_unpack}
use Rattle.tables.proofs.Stores.{clear_bit_turns, entry_turns, head_turns, next_turns, set_bit_turns, set_turns, term_turns}
use Rattle.tables.specs.Layout.{bitmap_at, entry_at, file_at, set_at, state_number, term_at, write_entry, write_set, write_term}
use Rattle.tables.specs.OneReading.{SetFits, block_fits}
use Rattle.tables.specs.Packed.{pack, unpack}
use Rattle.tables.specs.Terms.{put_term_in}
use Rattle.tables.specs.Views.{PackedTables, Turns, put_bit_in, put_entry_in, put_head_in, put_next_in, put_set_in}

-- tables that are those of a law
turns_of : (t u v : List ℕ) (op : Tables → Tables) → v ≡ u → Turns t u op → Turns t v op
turns_of t u v op e h = subst (λ (x : List ℕ). Turns t x op) (sym e) h

-- LAW: a change tells the tables whole, byte by byte
pub turns_pack : (t t' : List ℕ) (op : Tables → Tables) → Bytes t' → Turns t t' op → t' ≡ pack (op (unpack t))
turns_pack t t' op bs h = sym (pack_unpack t' h.packed bs) ∙ ap pack h.view

module _ (t t' : List ℕ) where
  pub entry_written : (f s p w : ℕ) (e : Entry ℕ) → PackedTables t × (f < file_count) × (s < set_count) × (p < page_count) × block_fits e
      → w ≡ write_entry e → t' ≡ put_word 1 t (entry_at f s p) w → Turns t t' (put_entry_in f s p e)
  entry_written f s p w e h word put =
      turns_of t _ t' _ (put ∙ ap (put_word 1 t (entry_at f s p)) word) (entry_turns t h.0 f s p e h.1 h.2 h.3 h.4)

  pub head_written : (f s k n : ℕ) (l : State) → PackedTables t × (f < file_count) × (s < set_count) × (n < 65536)
      → k ≡ state_number l → t' ≡ put_word 3 t (file_at f s) ((k * 65536 + n) * 16384) → Turns t t' (put_head_in f s l n)
  head_written f s k n l h number put =
      turns_of t _ t' _ (put ∙ ap (put_word 3 t (file_at f s)) (head_word l n k number)) (head_turns t h.0 f s l n h.1 h.2 h.3)

  pub set_written : (s w v : ℕ) (r : SetRecord) (t₁ : List ℕ) → PackedTables t × (s < set_count) × SetFits r
      → w ≡ write_set r → v ≡ write_term r.term → t₁ ≡ put_word 2 t (set_at s) w → t' ≡ put_word 3 t₁ (term_at s) v → Turns t t' (put_set_in s r)
  set_written s w v r t₁ h word term first put =
      turns_of t _ t' _ (put ∙ (λ i. put_word 3 ((first ∙ ap (put_word 2 t (set_at s)) word) i) (term_at s) (term i))) (set_turns t h.0 s r h.1 h.2)

  pub term_written : (s w : ℕ) (x : Term) → PackedTables t × (s < set_count) × TermFits x
      → w ≡ write_term x → t' ≡ put_word 3 t (term_at s) w → Turns t t' (put_term_in s x)
  term_written s w x h word put = turns_of t _ t' _ (put ∙ ap (put_word 3 t (term_at s)) word) (term_turns t h.0 s x h.1 h.2)

  pub next_written : (n : ℕ) → PackedTables t × (n < 4096) → Bytes t
      → t' ≡ set (set (set t 1 (get_or t 1 0 / 8 * 8 + n / 512)) 2 (n / 2 % 256)) 3 (n % 2 * 128) → Turns t t' (put_next_in n)
  next_written n h bs put =
      turns_of t _ t' _ (put ∙ next_bytes t n bs h.1) (next_turns t h.0 (unpack t).blocks n refl (blocks_lt t bs) h.1)

  pub bit_set : (b : ℕ) → PackedTables t × (b < largest_blocks) → t' ≡ set_bit t bitmap_at b → Turns t t' (put_bit_in b true)
  bit_set b h put = turns_of t _ t' _ put (set_bit_turns t h.0 b h.1)

  pub bit_cleared : (b : ℕ) → PackedTables t × (b < largest_blocks) → t' ≡ clear_bit t bitmap_at b → Turns t t' (put_bit_in b false)
  bit_cleared b h put = turns_of t _ t' _ put (clear_bit_turns t h.0 b h.1)
