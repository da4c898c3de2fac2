-- WHAT WELL-FORMED TABLES GIVE: all that the calls rest on, as one record of facts. Assumes nothing.
use mathlib.Core.Bool.{◌&&◌, false, true}
use mathlib.Core.List.{List}
use mathlib.Core.Path.{ap, ◌≡◌}
use Prim.Native.Nat.{◌*◌, ℕ, ◌≤◌}
use native.Mathlib.Omega.{arith}
use lib.Dec.{eqb, leb, ltb}
use lib.ListN.{length}
use borrow.Author.Tests.{eqb-true, le-ltb, leb-true, ltb-true}
use Rattle.base.specs.Logic.{and_false, and_left, and_right, test?}
use Rattle.rules.proofs.Formed.BitsFormed.{AbsentBeyond, EmptyBeyond, blocks_formed_law}
use Rattle.rules.proofs.Formed.FilesFormed.{Ranged, formed_state}
use Rattle.rules.proofs.Formed.Tests.{and_4}
use Rattle.rules.proofs.Blocks.RealStore.{BlocksOk}
use Rattle.rules.proofs.Tree.SetsOk.{SetsOk}
use Rattle.rules.proofs.Formed.Shape.{FilesFormed}
use Rattle.rules.specs.State.{File, SetRecord, Tables, absent_file, page_bytes, tree_of}
use Rattle.rules.specs.WellFormed.{bits_formed, blocks_formed, files_formed, header_formed, marks_formed, older_sets_formed, pages_fit, sets_formed, terms_formed, tree_formed, zeros_formed}
use Rattle.tables.proofs.OneReading.{formed_packed}
use Rattle.tables.proofs.ReadParts.{bit_default, map_default, set_default, size_default, state_default}
use Rattle.tables.specs.Calls.{store_of}
use Rattle.tables.specs.Layout.{table_bytes}
use Rattle.tables.specs.Packed.{block_rules, fields_formed, is_file, kinds_formed, set_rules, unpack, well_formed}
use Rattle.tables.specs.Views.{HeaderIn, PackedTables}

-- a header that passes: B is 1 to 4,096, next start is below B
pub header_in : (tb : Tables) → header_formed tb ≡ true → HeaderIn tb
unfolding header_formed
header_in tb h =
    let b = and_left (leb 1 tb.blocks && leb tb.blocks 4096) (ltb tb.next tb.blocks) h in
    record {
      at_least = leb-true 1 tb.blocks (and_left (leb 1 tb.blocks) (leb tb.blocks 4096) b);
      most = leb-true tb.blocks 4096 (and_right (leb 1 tb.blocks) (leb tb.blocks 4096) b);
      next_in = ltb-true tb.next tb.blocks (and_right (leb 1 tb.blocks && leb tb.blocks 4096) (ltb tb.next tb.blocks) h);
    }

pub record FormedStore (t p : List ℕ) : Type 0 where
  -- words are well formed; block count, next start and pages fit
  pub packed : PackedTables t
  pub header : HeaderIn (unpack t)
  pub pages : length p ≡ (unpack t).blocks * page_bytes
  -- the tree of sets, and the files of every number
  pub sets_ok : SetsOk (unpack t).sets
  pub files_ok : (f : ℕ) → FilesFormed (tree_of (unpack t).sets) ((unpack t).files f)
  -- the bitmap is exact and no block is named twice
  pub blocks_ok : BlocksOk (store_of t p)
  -- no bit is set from B on
  pub bits_past : (b : ℕ) → (unpack t).blocks ≤ b → (unpack t).bits b ≡ false

module _ (t : List ℕ) where
  -- out of range the unpacked tables are the default
  pub absent_default : (f s : ℕ) → is_file f s ≡ false → (unpack t).files f s ≡ absent_file
  absent_default f s h = λ i. record {
    state = state_default t f s h i;
    size = size_default t f s h i;
    map = λ p. map_default t f s p (rw h) i;
  }

  pub ranged : Ranged (unpack t)
  ranged = record {
    no_sets = λ s h. set_default t s h;
    no_numbers = λ f s h. absent_default f s (rw (le-ltb f 16 h));
    no_files = λ f s h. absent_default f s (rw (le-ltb s 8 h) (and_false (ltb f 16)));
    no_pages = λ f s p h. map_default t f s p (rw (le-ltb p 64 h) (and_false (is_file f s)));
  }

  pub empty_beyond : EmptyBeyond (unpack t)
  empty_beyond = record {
    file_map = λ f s p h. ap (λ (x : File ℕ). x.map p) (ranged.no_numbers f s h);
    set_map = λ f s p h. ap (λ (x : File ℕ). x.map p) (ranged.no_files f s h);
    page_map = ranged.no_pages;
    bit = λ b h. bit_default t b h;
  }

  pub absent_beyond : AbsentBeyond (unpack t)
  absent_beyond = record {
    file_state = λ f s h. ap (λ (x : File ℕ). x.state) (ranged.no_numbers f s h);
    set_state = λ f s h. ap (λ (x : File ℕ). x.state) (ranged.no_files f s h);
    set_used = λ s h. ap (λ (x : SetRecord). x.used) (ranged.no_sets s h);
  }

-- LAW
pub formed_store : (t p : List ℕ) → well_formed t (length p) ≡ true → FormedStore t p
unfolding well_formed block_rules set_rules
formed_store t p h =
    let n = length p in
    let first = and_left (block_rules t && pages_fit (unpack t) n) (set_rules t) h in
    let blocks = and_right (eqb (length t) table_bytes && kinds_formed t) (blocks_formed (unpack t)) (and_left (block_rules t) (pages_fit (unpack t) n) first) in
    let sets = and_right (fields_formed t) (sets_formed (unpack t)) (and_right (block_rules t && pages_fit (unpack t) n) (set_rules t) h) in
    let hd = and_left (header_formed (unpack t)) (bits_formed (unpack t)) blocks in
    let bits = and_right (header_formed (unpack t)) (bits_formed (unpack t)) blocks in
    let z = (and_4 (zeros_formed (unpack t)) (tree_formed (unpack t)) (terms_formed (unpack t)) (files_formed (unpack t)) (and_left (older_sets_formed (unpack t)) (marks_formed (unpack t)) sets)).0 in
    let st = formed_state (unpack t) (ranged t) sets in
    let ok : BlocksOk (store_of t p) = blocks_formed_law (store_of t p) (empty_beyond t) (absent_beyond t) hd bits z in
    record {
      packed = formed_packed t n h;
      header = header_in (unpack t) hd;
      pages = eqb-true n ((unpack t).blocks * page_bytes) (and_right (block_rules t) (pages_fit (unpack t) n) first);
      sets_ok = st.sets_ok;
      files_ok = st.files_ok;
      blocks_ok = ok;
      bits_past = λ b l. test? ((unpack t).bits b)
          (λ e. let m = ok.only b e in let u = ok.used m.file m.set m.page b m.names in absurd (omega (arith, u.below)))
          (λ e. e);
    }
