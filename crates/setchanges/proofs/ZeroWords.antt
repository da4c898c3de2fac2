-- A file's record set to zero is an absent file. Assumes nothing.
use mathlib.Core.List.{List}
use mathlib.Core.Path.{subst, sym, ◌≡◌}
use Prim.Native.Nat.{◌*◌, ◌+◌, ◌<◌, ℕ, ◌≤◌}
use native.Mathlib.Omega.{arith}
use lib.ListN.{get_or, length}
use Rattle.packing.specs.Words.{Same}
use Rattle.pages.specs.Run.{length_zeroed, zeroed, zeroed_in, zeroed_out}
use Rattle.rules.specs.State.{absent_file, file_count, set_count}
use Rattle.setchanges.specs.Changes.{erased_in}
use Rattle.tables.proofs.Kept.{file_put, packed_kept}
use Rattle.tables.proofs.ZeroFiles.{file_zero, word_zero, zero_entry, zero_head}
use Rattle.tables.specs.Layout.{entry_at, file_at, file_bytes}
use Rattle.tables.specs.Views.{PackedTables, Turns}

-- LAW: the record of a file set to zero
module _ (t : List ℕ) (h : PackedTables t) (f s : ℕ) (hf : f < file_count) (hs : s < set_count) where
  erased_turns : Turns t (zeroed t (file_at f s) file_bytes) (erased_in f s)
  unfolding erased_in
  erased_turns =
      let lo = file_at f s in
      let t' = zeroed t lo file_bytes in
      let fits : lo + file_bytes ≤ length t = omega (arith, h.len) in
      let same : Same lo (lo + file_bytes) t t' = zeroed_out t lo file_bytes in
      let zeros : (j : ℕ) → j < file_bytes → get_or t' (lo + j) 0 ≡ 0 = λ j k. zeroed_in t lo file_bytes (lo + j) (omega arith) (omega arith) fits in
      record {
        view = file_put lo (lo + file_bytes) t t' same f s absent_file hf hs (omega arith) (omega arith) (file_zero t' f s hf hs zeros);
        packed = packed_kept lo (lo + file_bytes) t t' same h (length_zeroed t lo file_bytes)
            (omega arith) (omega arith)
            (λ x y hx hy k l. let q : y * file_count + x ≡ s * file_count + f = omega arith in
            rw (word_zero 3 t' (file_at x y) (λ j m. zeroed_in t lo file_bytes (file_at x y + j) (omega arith) (omega arith) fits)) zero_head.0)
            (λ x y z hx hy hz k l. let q : y * file_count + x ≡ s * file_count + f = omega arith in
            rw (word_zero 1 t' (entry_at x y z) (λ j m. zeroed_in t lo file_bytes (entry_at x y z + j) (omega arith) (omega arith) fits)) (zero_entry t).0);
      }

-- LAW: the record of a file set to zero by the code
pub record_erased : (t t' : List ℕ) (f s : ℕ) → PackedTables t × (f < file_count) × (s < set_count) → t' ≡ zeroed t (file_at f s) file_bytes → Turns t t' (erased_in f s)
record_erased t t' f s h e = subst (λ (x : List ℕ). Turns t x (erased_in f s)) (sym e) (erased_turns t h.0 f s h.1 h.2)
