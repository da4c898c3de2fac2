-- Sets from which on the file records are zero: they pass every rule that concerns one file. Assumes nothing.
use mathlib.Core.Bool.{Bool, false, true}
use mathlib.Core.List.{List, ◌++◌}
use mathlib.Core.Path.{ap, refl, subst, sym, ◌∙◌, ◌≡◌}
use Prim.Native.Nat.{◌%◌, ◌*◌, ◌+◌, ◌/◌, ◌<◌, ℕ, ◌≤◌}
use native.Mathlib.Omega.{arith}
use lib.Dec.{eqb}
use lib.ListN.{get_or, length}
use Rattle.base.specs.Count.{all_of}
use Rattle.base.specs.Logic.{same?}
use Rattle.entrycheck.specs.Records.{BlankFrom}
use Rattle.masks.proofs.PageMasks.{mask_all}
use Rattle.masks.specs.Pages.{page_mask}
use Rattle.formed.proofs.AloneRules.{alone_zero}
use Rattle.formed.specs.Files.{end_of, file_alone}
use Rattle.packing.specs.Zeros.{zero_at, zero_bytes}
use Rattle.rules.specs.State.{File, absent_file, file_count, is_unmapped, live}
use Rattle.tables.proofs.Parts.{byte_files}
use Rattle.tables.proofs.ZeroFiles.{file_zero, head_zero}
use Rattle.tables.specs.Layout.{file_at, file_bytes, files_at, head_word, set_files_bytes}
use Rattle.tables.specs.Packed.{unpack}

-- ---- file f of a set s from which on the file records are blank
module _ (front files : List ℕ) (len : length front ≡ files_at) (n : ℕ) (b : BlankFrom files n) (f s : ℕ) (lf : f < 16) (ln : n ≤ s) (ls : s < 8) where
  abbrev t : List ℕ
  t = front ++ files

  zeros : (j : ℕ) → j < file_bytes → get_or t (file_at f s + j) 0 ≡ 0
  zeros j l =
      let e : file_at f s + j ≡ files_at + ((s * 16 + f) * file_bytes + j) = omega arith in
      ap (λ k. get_or t k 0) e ∙ byte_files front files len ((s * 16 + f) * file_bytes + j) ∙ b.zero (s * 16 + f) j (omega arith) (omega arith) l

  absent_here : (unpack t).files f s ≡ absent_file
  absent_here = file_zero t f s lf ls zeros

  every_page : eqb (page_mask is_unmapped ((unpack t).files f s).map) 18446744073709551615 ≡ true
  every_page =
      mask_all is_unmapped ((unpack t).files f s).map
      ∙ all_of 64 (λ p. is_unmapped (((unpack t).files f s).map p)) (λ p l. ap (λ (x : File ℕ). is_unmapped (x.map p)) absent_here)

  pub blank_alone : (older : Bool) → file_alone t older f s ≡ true
  blank_alone older =
      sym (alone_zero t f s (head_word t f s) (page_mask is_unmapped ((unpack t).files f s).map) lf ls refl refl older (head_zero t f s lf ls zeros)) ∙ every_page

  pub blank_end : end_of ((unpack t).files f s).state ((unpack t).files f s).size ≡ 64
  unfolding end_of
  blank_end = ap (λ (x : File ℕ). end_of x.state x.size) absent_here

  pub blank_dead : live ((unpack t).files f s).state ≡ false
  blank_dead = ap (λ (x : File ℕ). live x.state) absent_here

-- ---- what the code tests, one set after the other

-- the file records of the sets from set n on, before set m, are zero
abbrev pub ZeroTo : List ℕ → ℕ → ℕ → Type 0
ZeroTo files n m = (s : ℕ) → n ≤ s → s < m → zero_bytes files (s * set_files_bytes) set_files_bytes ≡ true

pub zero_start : (files : List ℕ) (n : ℕ) → ZeroTo files n n
zero_start files n s a b = absurd (omega arith)

pub zero_next : (files : List ℕ) (n m : ℕ) → ZeroTo files n m → true ≡ zero_bytes files (m * set_files_bytes) set_files_bytes → ZeroTo files n (m + 1)
zero_next files n m h e s a b = same? m s (λ q. subst (λ x. zero_bytes files (x * set_files_bytes) set_files_bytes ≡ true) q (sym e)) (λ q. h s a (omega arith))

-- LAW: every byte from the first file record of set n on is zero
pub blank_from : (files : List ℕ) (n : ℕ) → n ≤ 8 → ZeroTo files n 8 → BlankFrom files n
blank_from files n most e = record {
  most = most;
  zero = λ i j l h k.
      let q : i / file_count * set_files_bytes + (i % file_count * file_bytes + j) ≡ i * file_bytes + j = omega arith in
      ap (λ a. get_or files a 0) (sym q)
      ∙ zero_at files (i / file_count * set_files_bytes) set_files_bytes (e (i / file_count) (omega arith) (omega arith)) (i % file_count * file_bytes + j) (omega arith);
}
