-- Removing a set, the files: file after file its blocks are freed and its record is erased. Assumes nothing.
use mathlib.Core.Bool.{Bool, cond}
use mathlib.Core.List.{List}
use mathlib.Core.Path.{◌≡◌, ap, fun_ext, sym, ◌∙◌}
use Prim.Native.Nat.{◌+◌, suc, ℕ, ◌≤◌}
use native.Mathlib.Nat.{zero-add}
use native.Mathlib.Numerals.{add-one}
use native.Mathlib.Omega.{arith}
use lib.Dec.{ltb}
use borrow.Author.Tests.{le-ltb, lt-ltb, ltb-false, ltb-true}
use Rattle.base.specs.Logic.{test?}
use Rattle.base.specs.Update.{upd, upd_is, upd_self}
use Rattle.rules.proofs.Tally.TallyLoops.{from_last, from_none}
use Rattle.rules.specs.Rules.{each, free_map, from}
use Rattle.rules.specs.State.{Files, Tables, absent_file, file_count}
use Rattle.rules.specs.Storage.{Memory, PageData, real}
use Rattle.setchanges.proofs.ChildFiles.{past_last}
use Rattle.setchanges.proofs.Freeing.{each_through, free_map_bits, freed_by_bits, freed_bits, memory_with}
use Rattle.setchanges.specs.Changes.{BlocksIn, cleared_in, erased_in, freed_in, no_pages}
use Rattle.tables.proofs.Operations.{turns_as, turns_more, turns_start, turns_then}
use Rattle.tables.specs.Packed.{unpack}
use Rattle.tables.specs.Views.{PackedTables, Turns, memory_of, put_files}

-- the first n files of set c are absent, their blocks are free
unfoldable pub cleared_to : ℕ → ℕ → Tables → Tables
cleared_to c n tb = record {
  blocks = tb.blocks;
  next = tb.next;
  bits = each (λ f. freed_bits (tb.files f c).map) (from 0 n) tb.bits;
  sets = tb.sets;
  files = λ f. cond (ltb f n) (upd (tb.files f) c absent_file) (tb.files f);
}

-- tables by their bits and their files
bits_files : (tb : Tables) (b b' : ℕ → Bool) (x x' : ℕ → Files ℕ) → b ≡ b' → x ≡ x' →
    ◌≡◌ {A = Tables} (record { blocks = tb.blocks; next = tb.next; bits = b; sets = tb.sets; files = x })
    (record { blocks = tb.blocks; next = tb.next; bits = b'; sets = tb.sets; files = x' })
bits_files tb b b' x x' p q = λ i. record { blocks = tb.blocks; next = tb.next; bits = p i; sets = tb.sets; files = q i }

module _ (c : ℕ) (tb : Tables) where
  abbrev gone : ℕ → Files ℕ
  gone f = upd (tb.files f) c absent_file

  abbrev partly : ℕ → ℕ → Files ℕ
  partly n f = cond (ltb f n) (gone f) (tb.files f)

  abbrev bits_to : ℕ → ℕ → Bool
  bits_to n = each (λ f. freed_bits (tb.files f c).map) (from 0 n) tb.bits

  cleared_none : cleared_to c 0 tb ≡ tb
  unfolding cleared_to
  cleared_none =
      bits_files tb (bits_to 0) tb.bits (partly 0) tb.files
      (from_none (λ f. freed_bits (tb.files f c).map) 0 tb.bits) (fun_ext (λ f. rw (le-ltb f 0 (omega arith))))

  -- a file that is still to be done
  cleared_later : (n f : ℕ) → n ≤ f → (cleared_to c n tb).files f ≡ tb.files f
  unfolding cleared_to
  cleared_later n f h = rw (le-ltb f n h)

  bits_more : (n : ℕ) → freed_bits (partly n n c).map (bits_to n) ≡ bits_to (suc n)
  bits_more n =
      let one : ℕ → (ℕ → Bool) → ℕ → Bool = λ f. freed_bits (tb.files f c).map in
      let here : partly n n ≡ tb.files n = rw (le-ltb n n (omega arith)) in
      ap (λ (x : Files ℕ). freed_bits (x c).map (bits_to n)) here ∙ ap (λ x. one x (bits_to n)) (sym (zero-add n)) ∙ sym (from_last one n 0 tb.bits)

  files_more : (n : ℕ) → upd (partly n) n (upd (partly n n) c absent_file) ≡ partly (suc n)
  files_more n =
      let here : partly n n ≡ tb.files n = rw (le-ltb n n (omega arith)) in
      sym (upd_is (partly n) (partly (suc n)) n (upd (partly n n) c absent_file)
      (rw (lt-ltb n (suc n) (omega arith)) (ap (λ (x : Files ℕ). upd x c absent_file) (sym here)))
      (λ f m. test? (ltb f n)
      (λ e. let l = ltb-true f n e in rw (e, lt-ltb f (suc n) (omega arith)))
      (λ e. let l = ltb-false f n e in rw (e, le-ltb f (suc n) (omega arith)))))

  cleared_more : (n : ℕ) → erased_in n c (freed_in n c (cleared_to c n tb)) ≡ cleared_to c (suc n) tb
  unfolding cleared_to erased_in put_files
  cleared_more n =
      ap (erased_in n c) (freed_by_bits n c (cleared_to c n tb))
      ∙ bits_files tb (freed_bits (partly n n c).map (bits_to n)) (bits_to (suc n)) (upd (partly n) n (upd (partly n n) c absent_file)) (partly (suc n)) (bits_more n) (files_more n)

-- the blocks of the files of a set freed one file after another, by the bits
pub clear_bits : (c : ℕ) (tb : Tables) (pages : ℕ → PageData) (xs : List ℕ)
    → each (λ f. free_map real (tb.files f c).map) xs (memory_of tb pages) ≡ memory_with (memory_of tb pages) (each (λ f. freed_bits (tb.files f c).map) xs tb.bits)
clear_bits c tb pages xs =
    each_through (memory_with (memory_of tb pages)) (λ f. freed_bits (tb.files f c).map) (λ f. free_map real (tb.files f c).map)
    (λ f b. free_map_bits (tb.files f c).map (memory_of tb pages) b) xs tb.bits

cleared_all : (c : ℕ) (tb : Tables) → ((f : ℕ) → file_count ≤ f → (x : ℕ) → tb.files f x ≡ absent_file) → cleared_to c file_count tb ≡ cleared_in c tb
unfolding cleared_to cleared_in
cleared_all c tb out =
    bits_files tb (bits_to c tb file_count) _ (partly c tb file_count) (gone c tb)
    (sym (ap (λ (m : Memory). m.bits) (clear_bits c tb no_pages (from 0 file_count))))
    (fun_ext (λ f. test? (ltb f file_count)
    (λ e. rw e)
    (λ e. let l = ltb-false f file_count e in rw e (sym (ap (upd (tb.files f) c) (sym (out f l c)) ∙ upd_self (tb.files f) c)))))

-- LAWS of the loop
module _ {t₀ : List ℕ} (c : ℕ) where
  pub cleared_start : PackedTables t₀ → Turns t₀ t₀ (cleared_to c 0)
  cleared_start h = turns_start t₀ (cleared_to c 0) h (cleared_none c (unpack t₀))

  pub cleared_blocks : {t : List ℕ} (f : ℕ) → BlocksIn f c (unpack t₀) → Turns t₀ t (cleared_to c f) → BlocksIn f c (unpack t)
  cleared_blocks f h a p b e =
      h p b (sym (ap (λ (x : Tables). (x.files f c).map p) a.view ∙ ap (λ (x : Files ℕ). (x c).map p) (cleared_later c (unpack t₀) f f (omega arith))) ∙ e)

  pub cleared_turn : {t t₁ t₂ : List ℕ} (f : ℕ) → Turns t₀ t (cleared_to c f) → Turns t t₁ (freed_in f c) → Turns t₁ t₂ (erased_in f c) → Turns t₀ t₂ (cleared_to c (f + 1))
  cleared_turn f a b d =
      turns_more (λ x. freed_in f c (cleared_to c f x)) (erased_in f c) (cleared_to c (f + 1)) (turns_then a b) d
      (cleared_more c (unpack t₀) f ∙ ap (λ n. cleared_to c n (unpack t₀)) (sym (add-one f)))

  pub cleared_end : {t : List ℕ} (f : ℕ) → f ≡ 16 → Turns t₀ t (cleared_to c f) → Turns t₀ t (cleared_in c)
  cleared_end f q a =
      turns_as (cleared_to c f) (cleared_in c) a
      (ap (λ n. cleared_to c n (unpack t₀)) q ∙ cleared_all c (unpack t₀) (past_last t₀))
