-- What the code does to the tables is what the rules do to the store. Assumes nothing.
use mathlib.Core.Bool.{Bool}
use mathlib.Core.List.{List}
use mathlib.Core.Path.{◌≡◌, ap, refl, sym, ◌∙◌}
use Prim.Native.Nat.{ℕ}
use Rattle.base.specs.Update.{upd}
use Rattle.rules.specs.Calls.{Store, created, made, removed}
use Rattle.rules.specs.Rules.{each, free_map, from}
use Rattle.rules.specs.Sets.{unlink_set}
use Rattle.rules.specs.State.{Tables, absent_file, file_count}
use Rattle.rules.specs.Storage.{Memory, PageData, real}
use Rattle.setchanges.proofs.Clearing.{clear_bits}
use Rattle.setchanges.proofs.Freeing.{memory_with}
use Rattle.setchanges.specs.Changes.{created_in, made_in, no_pages, removed_in}
use Rattle.tables.specs.Calls.{pages_of, store_of}
use Rattle.tables.specs.Packed.{unpack}
use Rattle.tables.specs.Views.{memory_of, put_files}

-- the store of tables and pages
abbrev pub store_with : Tables → (ℕ → PageData) → Store real
store_with tb pages = record { memory = memory_of tb pages; sets = tb.sets; files = tb.files }

module _ (t p : List ℕ) where
  -- CREATE, on the store: the pages stay
  pub created_store : (f s : ℕ) → store_with (created_in f s (unpack t)) (pages_of p) ≡ created real s f (store_of t p)
  unfolding created_in put_files created
  created_store f s = refl

  -- MAKE
  pub made_store : (s c : ℕ) (w : Bool) → store_with (made_in s c w (unpack t)) (pages_of p) ≡ made real s c w (store_of t p)
  unfolding made_in made
  made_store s c w = refl

  -- REMOVE
  pub removed_store : (c : ℕ) → store_with (removed_in c (unpack t)) (pages_of p) ≡ removed real c (store_of t p)
  unfolding removed_in removed
  removed_store c =
      let a = clear_bits c (unpack t) no_pages (from 0 file_count) in
      let b = clear_bits c (unpack t) (pages_of p) (from 0 file_count) in
      let m : memory_of (removed_in c (unpack t)) (pages_of p) ≡ each (λ f. free_map real ((unpack t).files f c).map) (from 0 file_count) (memory_of (unpack t) (pages_of p)) =
      ap (memory_with (memory_of (unpack t) (pages_of p))) (ap (λ (x : Memory). x.bits) a) ∙ sym b in
      λ i. record { memory = m i; sets = unlink_set c (unpack t).sets; files = λ f. upd ((unpack t).files f) c absent_file }
