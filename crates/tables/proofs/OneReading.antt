-- ONE READING: well formed tables are the tables of one state alone, the state that they hold. Assumes nothing.
use mathlib.Core.Bool.{◌&&◌, true}
use mathlib.Core.List.{List}
use mathlib.Core.Path.{ap, sym, ◌∙◌, ◌≡◌}
use Prim.Native.Nat.{ℕ}
use lib.Dec.{eqb}
use lib.ListN.{length}
use borrow.Author.Tests.{eqb-true}
use Rattle.base.specs.Logic.{and_both, and_left, and_right}
use Rattle.rules.specs.WellFormed.{blocks_formed, marks_formed, older_sets_formed, pages_fit, sets_formed}
use Rattle.tables.proofs.PackUnpack.{pack_unpack, unpack_fits, unpack_pack}
use Rattle.tables.proofs.PackedTables.{packed_of}
use Rattle.tables.specs.Layout.{table_bytes}
use Rattle.tables.specs.OneReading.{OneReadingClaim}
use Rattle.tables.specs.Packed.{block_rules, fields_formed, kinds_formed, older_set_rules, set_rules, termed_well_formed, unpack, well_formed}
use Rattle.tables.specs.Views.{PackedTables}

-- ---- the rules before Ask 10, and with it

-- what is well formed is so by the rules before
pub formed_termed : (t : List ℕ) (n : ℕ) → well_formed t n ≡ true → termed_well_formed t n ≡ true
unfolding well_formed termed_well_formed set_rules older_set_rules
formed_termed t n h =
    let first = block_rules t && pages_fit (unpack t) n in
    let k = and_right first (set_rules t) h in
    and_both first (older_set_rules t) (and_left first (set_rules t) h)
    (and_both (fields_formed t) (older_sets_formed (unpack t)) (and_left (fields_formed t) (sets_formed (unpack t)) k)
    (and_left (older_sets_formed (unpack t)) (marks_formed (unpack t)) (and_right (fields_formed t) (sets_formed (unpack t)) k)))

-- and the other way, where every marked file is bare
pub termed_formed : (t : List ℕ) (n : ℕ) → termed_well_formed t n ≡ true → marks_formed (unpack t) ≡ true → well_formed t n ≡ true
unfolding well_formed termed_well_formed set_rules older_set_rules
termed_formed t n h m =
    let first = block_rules t && pages_fit (unpack t) n in
    let k = and_right first (older_set_rules t) h in
    and_both first (set_rules t) (and_left first (older_set_rules t) h)
    (and_both (fields_formed t) (sets_formed (unpack t)) (and_left (fields_formed t) (older_sets_formed (unpack t)) k)
    (and_both (older_sets_formed (unpack t)) (marks_formed (unpack t)) (and_right (fields_formed t) (older_sets_formed (unpack t)) k) m))

pub formed_marks : (t : List ℕ) (n : ℕ) → well_formed t n ≡ true → marks_formed (unpack t) ≡ true
unfolding well_formed set_rules
formed_marks t n h =
    and_right (older_sets_formed (unpack t)) (marks_formed (unpack t))
    (and_right (fields_formed t) (sets_formed (unpack t)) (and_right (block_rules t && pages_fit (unpack t) n) (set_rules t) h))

-- what is well formed, by either, has well formed words
pub termed_packed : (t : List ℕ) (n : ℕ) → termed_well_formed t n ≡ true → PackedTables t
unfolding termed_well_formed block_rules older_set_rules
termed_packed t n h =
    let blocks = and_left (block_rules t) (pages_fit (unpack t) n) (and_left (block_rules t && pages_fit (unpack t) n) (older_set_rules t) h) in
    let lk = and_left (eqb (length t) table_bytes && kinds_formed t) (blocks_formed (unpack t)) blocks in
    packed_of t
    (eqb-true (length t) table_bytes (and_left (eqb (length t) table_bytes) (kinds_formed t) lk))
    (and_right (eqb (length t) table_bytes) (kinds_formed t) lk)
    (and_left (fields_formed t) (older_sets_formed (unpack t)) (and_right (block_rules t && pages_fit (unpack t) n) (older_set_rules t) h))

pub formed_packed : (t : List ℕ) (n : ℕ) → well_formed t n ≡ true → PackedTables t
formed_packed t n h = termed_packed t n (formed_termed t n h)

-- THEOREM
pub one_reading : OneReadingClaim
one_reading t n bs h = record {
  same = pack_unpack t (formed_packed t n h) bs;
  fits = unpack_fits t bs;
  only = λ tb k e. sym (unpack_pack tb k) ∙ ap unpack e;
}
