-- Freeing the blocks of a file: its entries in turn, on the bits alone. Assumes nothing.
use mathlib.Core.Bool.{Bool, false, true}
use mathlib.Core.List.{List, ◌∷◌, []}
use mathlib.Core.Path.{ap, fun_ext, refl, subst, sym, ◌∙◌, ◌≡◌}
use Prim.Native.Nat.{◌+◌, ◌<◌, suc, zero, ℕ}
use native.Mathlib.Nat.{zero-add}
use native.Mathlib.Numerals.{add-one}
use lib.Pow.{low}
use Rattle.base.specs.Logic.{same?}
use Rattle.base.specs.Update.{upd, upd_other, upd_same}
use Rattle.packing.specs.Zeros.{zero_at, zero_bytes}
use Rattle.rules.proofs.Steps.StepFour.{each_inv}
use Rattle.rules.proofs.Tally.TallyLoops.{from_last, from_none}
use Rattle.rules.specs.Rules.{each, free_entry, free_map, from}
use Rattle.rules.specs.State.{Entry, Files, Tables, hole, largest_blocks, page_count, stored, unmapped}
use Rattle.rules.specs.Storage.{Memory, PageData, real}
use Rattle.setchanges.specs.Changes.{BlocksIn, block_in, freed_entry_in, freed_in, no_pages, with_bits}
use Rattle.tables.proofs.Operations.{turns_as, turns_more, turns_start}
use Rattle.tables.proofs.ZeroFiles.{map_zero}
use Rattle.tables.specs.Layout.{map_at, map_bytes}
use Rattle.tables.specs.Packed.{unpack}
use Rattle.tables.specs.Views.{PackedTables, Turns, memory_of, put_bit_in}

-- the block of an entry is free again, on the bits
abbrev pub free_bit : Entry ℕ → (ℕ → Bool) → ℕ → Bool
free_bit unmapped bits = bits
free_bit hole bits = bits
free_bit (stored b) bits = upd bits b false

-- ---- a loop seen through a function

module _ {A W : Type 0} where
  pub each_through : (h : A → W) (g : ℕ → A → A) (f : ℕ → W → W) → ((x : ℕ) (a : A) → f x (h a) ≡ h (g x a)) → (xs : List ℕ) (a : A) → each f xs (h a) ≡ h (each g xs a)
  unfolding each
  each_through h g f e [] a = refl
  each_through h g f e (x ∷ xs) a = ap (each f xs) (e x a) ∙ each_through h g f e xs (g x a)

-- ---- the memory with other bits

abbrev pub memory_with : Memory → (ℕ → Bool) → Memory
memory_with m bits = record { blocks = m.blocks; next = m.next; bits = bits; pages = m.pages }

free_bit_law : (m : Memory) (e : Entry ℕ) (bits : ℕ → Bool) → free_entry real e (memory_with m bits) ≡ memory_with m (free_bit e bits)
unfolding free_entry
free_bit_law m unmapped bits = refl
free_bit_law m hole bits = refl
free_bit_law m (stored b) bits = refl

-- the bits after freeing the blocks of a map
unfoldable pub freed_bits : (ℕ → Entry ℕ) → (ℕ → Bool) → ℕ → Bool
freed_bits map bits = each (λ p. free_bit (map p)) (from 0 page_count) bits

-- LAW: freeing the blocks of a map changes the bits alone
pub free_map_bits : (map : ℕ → Entry ℕ) (m : Memory) (bits : ℕ → Bool) → free_map real map (memory_with m bits) ≡ memory_with m (freed_bits map bits)
unfolding free_map freed_bits
free_map_bits map m bits = each_through (memory_with m) (λ p. free_bit (map p)) (λ p. free_entry real (map p)) (λ p. free_bit_law m (map p)) (from 0 page_count) bits

-- LAW: freeing the blocks of one file, by the bits
pub freed_by_bits : (f s : ℕ) (tb : Tables) → freed_in f s tb ≡ with_bits (freed_bits (tb.files f s).map tb.bits) tb
unfolding freed_in
freed_by_bits f s tb = ap (λ (m : Memory). with_bits m.bits tb) (free_map_bits (tb.files f s).map (memory_of tb no_pages) tb.bits)

-- LAW: a bit that is 0 stays 0
pub freed_clear : (map : ℕ → Entry ℕ) (b : ℕ) (bits : ℕ → Bool) → bits b ≡ false → freed_bits map bits b ≡ false
unfolding freed_bits
freed_clear map b bits z = each_inv (λ p. free_bit (map p)) (λ x. x b ≡ false) (from 0 page_count) (λ p x m i. one (map p) x i) bits z
  where
    one : (e : Entry ℕ) (x : ℕ → Bool) → x b ≡ false → free_bit e x b ≡ false
    one unmapped x i = i
    one hole x i = i
    one (stored d) x i = same? d b (λ q. ap (upd x d false) (sym q) ∙ upd_same x d false) (λ q. upd_other x d false b q ∙ i)

-- LAW: the memory of the tables after freeing, whatever the pages
pub freed_memory : (f s : ℕ) (tb : Tables) (pages : ℕ → PageData) → free_map real (tb.files f s).map (memory_of tb pages) ≡ memory_of (freed_in f s tb) pages
unfolding freed_in
freed_memory f s tb pages =
    let a = free_map_bits (tb.files f s).map (memory_of tb pages) tb.bits in
    let b = free_map_bits (tb.files f s).map (memory_of tb no_pages) tb.bits in
    a ∙ ap (memory_with (memory_of tb pages)) (sym (ap (λ (m : Memory). m.bits) b))

-- sets and files stay
pub freed_keeps : (f s : ℕ) (tb : Tables) → ((freed_in f s tb).sets ≡ tb.sets) × ((freed_in f s tb).files ≡ tb.files)
unfolding freed_in
freed_keeps f s tb = (refl, refl)

-- ---- the loop of the code

-- the blocks of the first n entries of file f of set s are free
unfoldable pub freed_to : ℕ → ℕ → ℕ → Tables → Tables
freed_to f s n tb = with_bits (each (λ p. free_bit ((tb.files f s).map p)) (from 0 n) tb.bits) tb

module _ (f s : ℕ) (tb : Tables) where
  freed_none : freed_to f s 0 tb ≡ tb
  unfolding freed_to
  freed_none = ap (λ (b : ℕ → Bool). with_bits b tb) (from_none (λ p. free_bit ((tb.files f s).map p)) 0 tb.bits)

  entry_freed : (e : Entry ℕ) → freed_entry_in e tb ≡ with_bits (free_bit e tb.bits) tb
  unfolding freed_entry_in put_bit_in
  entry_freed unmapped = refl
  entry_freed hole = refl
  entry_freed (stored b) = refl

freed_more : (f s n : ℕ) (tb : Tables) → freed_entry_in ((tb.files f s).map n) (freed_to f s n tb) ≡ freed_to f s (suc n) tb
unfolding freed_to
freed_more f s n tb =
    let e = (tb.files f s).map n in
    let one : ℕ → (ℕ → Bool) → ℕ → Bool = λ p. free_bit ((tb.files f s).map p) in
    entry_freed f s (freed_to f s n tb) e ∙ ap (λ (b : ℕ → Bool). with_bits b tb) (ap (λ x. one x (each one (from 0 n) tb.bits)) (sym (zero-add n)) ∙ sym (from_last one n 0 tb.bits))

freed_all : (f s : ℕ) (tb : Tables) → freed_to f s page_count tb ≡ freed_in f s tb
unfolding freed_to freed_bits
freed_all f s tb = sym (freed_by_bits f s tb)

-- an entry whose block, if any, is one of the bitmap
block_in_law : (e : Entry ℕ) → ((b : ℕ) → e ≡ stored b → b < largest_blocks) → block_in e
block_in_law unmapped h = tt
block_in_law hole h = tt
block_in_law (stored b) h = h b refl

-- freeing leaves the files
freed_files : {t₀ t : List ℕ} (f s n : ℕ) → Turns t₀ t (freed_to f s n) → (unpack t).files ≡ (unpack t₀).files
unfolding freed_to
freed_files f s n a = ap (λ (x : Tables). x.files) a.view

-- LAWS of the loop
module _ {t₀ : List ℕ} (f s : ℕ) where
  pub freed_start : PackedTables t₀ → Turns t₀ t₀ (freed_to f s 0)
  freed_start h = turns_start t₀ (freed_to f s 0) h (freed_none f s (unpack t₀))

  -- the entry that is read is that of the start
  same_entry : {t : List ℕ} (p q : ℕ) (e : Entry ℕ) → Turns t₀ t (freed_to f s p) → q ≡ p → e ≡ ((unpack t).files f s).map q → e ≡ ((unpack t₀).files f s).map p
  same_entry {t} p q e a k r = r ∙ ap ((unpack t).files f s).map k ∙ ap (λ (x : ℕ → Files ℕ). (x f s).map p) (freed_files f s p a)

  pub freed_block : {t : List ℕ} (p q : ℕ) (e : Entry ℕ) → BlocksIn f s (unpack t₀) → Turns t₀ t (freed_to f s p) → q ≡ p → e ≡ ((unpack t).files f s).map q → block_in e
  freed_block p q e low a k r = block_in_law e (λ b h. low p b (sym (same_entry p q e a k r) ∙ h))

  pub freed_turn : {t t' : List ℕ} (p q : ℕ) (e : Entry ℕ) → Turns t₀ t (freed_to f s p) → q ≡ p → e ≡ ((unpack t).files f s).map q → Turns t t' (freed_entry_in e) → Turns t₀ t' (freed_to f s (p + 1))
  freed_turn p q e a k r b =
      turns_more (freed_to f s p) (freed_entry_in e) (freed_to f s (p + 1)) a b
      (ap (λ (x : Entry ℕ). freed_entry_in x (freed_to f s p (unpack t₀))) (same_entry p q e a k r) ∙ freed_more f s p (unpack t₀) ∙ ap (λ n. freed_to f s n (unpack t₀)) (sym (add-one p)))

  pub freed_end : {t : List ℕ} (p : ℕ) → p ≡ 64 → Turns t₀ t (freed_to f s p) → Turns t₀ t (freed_in f s)
  freed_end p q a = turns_as (freed_to f s p) (freed_in f s) a (ap (λ n. freed_to f s n (unpack t₀)) q ∙ freed_all f s (unpack t₀))

-- LAWS: the block of an entry freed, by cases
pub free_below : (e : Entry ℕ) (b : ℕ) → e ≡ stored b → block_in e → b < largest_blocks
free_below e b q h = subst block_in q h

pub free_unmapped : (t : List ℕ) (e : Entry ℕ) → e ≡ unmapped → PackedTables t → Turns t t (freed_entry_in e)
unfolding freed_entry_in
free_unmapped t e q h = turns_start t (freed_entry_in e) h (rw q)

pub free_hole : (t : List ℕ) (e : Entry ℕ) → e ≡ hole → PackedTables t → Turns t t (freed_entry_in e)
unfolding freed_entry_in
free_hole t e q h = turns_start t (freed_entry_in e) h (rw q)

pub free_stored : (t t' : List ℕ) (e : Entry ℕ) (b : ℕ) → e ≡ stored b → Turns t t' (put_bit_in b false) → Turns t t' (freed_entry_in e)
unfolding freed_entry_in
free_stored t t' e b q a = turns_as (put_bit_in b false) (freed_entry_in e) a (rw q)

-- ---- a file whose pages are all unmapped

each_same : (n a : ℕ) (bits : ℕ → Bool) → each (λ p. free_bit unmapped) (from a n) bits ≡ bits
unfolding each from
each_same zero a bits = refl
each_same (suc n) a bits = each_same n (suc a) bits

none_freed : (map : ℕ → Entry ℕ) (bits : ℕ → Bool) → ((p : ℕ) → map p ≡ unmapped) → freed_bits map bits ≡ bits
unfolding freed_bits
none_freed map bits u = ap (λ (m : ℕ → Entry ℕ). each (λ p. free_bit (m p)) (from 0 page_count) bits) (fun_ext u) ∙ each_same page_count 0 bits

-- LAW: nothing is freed; r is the test of the code
pub freed_blank : (t : List ℕ) (f s : ℕ) (r : Bool) → PackedTables t → f < 16 → s < 8 → r ≡ zero_bytes t (map_at f s) map_bytes → r ≡ true → Turns t t (freed_in f s)
unfolding freed_in
freed_blank t f s r h hf hs e k =
    let tb = unpack t in
    let u = map_zero t f s (zero_at t (map_at f s) map_bytes (sym e ∙ k)) hf hs in
    let b : (free_map real (tb.files f s).map (memory_of tb no_pages)).bits ≡ tb.bits =
    ap (λ (m : Memory). m.bits) (free_map_bits (tb.files f s).map (memory_of tb no_pages) tb.bits) ∙ none_freed (tb.files f s).map tb.bits u in
    record { view = λ i. record { blocks = tb.blocks; next = tb.next; bits = sym b i; sets = tb.sets; files = tb.files }; packed = h }
