-- WHAT A DELETE OR A TRUNCATE LEAVES OF OTHER FILES, on any well-formed bytes. Document 02, Ask 2:
-- "Every file of another set that is left unmarked reads as before the call, and marking still needs a copy with no block free."
use Rattle.std.specs.Prelude.{false, true, ◌≡◌, ◌*◌, ◌<◌, ℕ, length}
use Rattle.std.proofs.Math.Option.{some}
use Rattle.history.specs.Demand3.{MarksRightly}
use Rattle.history.specs.Image.{Image, after, store_in}
use Rattle.packing.specs.Words.{Bytes}
use Rattle.rules.specs.Calls.{Store, byte_by_reading, tree_in}
use Rattle.rules.specs.Numbers.{Call, delete, truncate}
use Rattle.rules.specs.Reading.{size_by_reading}
use Rattle.rules.specs.State.{is_absent, is_marked, page_bytes, page_count}
use Rattle.rules.specs.Storage.{real}
use Rattle.tables.specs.Packed.{well_formed}

-- a delete or a truncate of file f of set s
pub data Drops (s f : ℕ) : Call → Type 0 where
  by_delete : Drops s f (delete s f)
  by_truncate : (n : ℕ) → Drops s f (truncate s f n)

-- file f of set s reads in st' as in st: it is absent in both or in neither; it was not marked; it has the same size by reading; and, if it is present,
-- the same bytes in its 64 pages: all that a read gives, and those past the size too, which it shows when it grows
pub record ReadsAs (st st' : Store real) (f s : ℕ) : Type 0 where
  pub present : is_absent (st'.files f s).state ≡ is_absent (st.files f s).state
  pub unmarked : is_marked (st.files f s).state ≡ false
  pub size : size_by_reading (tree_in real st') (st'.files f) s ≡ size_by_reading (tree_in real st) (st.files f) s
  pub bytes : is_absent (st.files f s).state ≡ false → (i : ℕ) → i < page_count * page_bytes → byte_by_reading st' s f i ≡ byte_by_reading st s f i

-- what call c on m, which drops pages of file f of set s, leaves of the other files
pub record OthersKept (s f : ℕ) (c : Call) (m : Image) : Type 0 where
  -- every other file x of a set y that is left unmarked reads as before
  pub reads : (x y : ℕ) → (x ≡ f → y ≡ s → ⊥) → is_marked ((store_in (after c m)).files x y).state ≡ false → ReadsAs (store_in m) (store_in (after c m)) x y
  -- and a file becomes marked exactly as in demand 3: by a needed copy that finds, at its turn, no block free (this is `formed` of Claims for one call)
  pub marks : MarksRightly m (some c) (after c m)

-- all well-formed bytes, whoever made them; a call that is refused changes nothing
abbrev pub OthersClaim : Type 0
OthersClaim =
    (m : Image) → Bytes m.tables → well_formed m.tables (length m.pages) ≡ true → (s f : ℕ) (c : Call) → Drops s f c → OthersKept s f c m
