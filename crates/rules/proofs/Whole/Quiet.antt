-- TWO STORES IN ORDER with the same tree, the same files with the bytes of their pages, and the same number of free blocks give the same to every call. Assumes nothing.
use mathlib.Core.List.{◌++◌, List}
use mathlib.Core.Option.{none}
use mathlib.Core.Path.{ap, refl, sym, ◌∙◌, ◌≡◌}
use Prim.Native.Nat.{◌%◌, ◌+◌, ◌/◌, suc, zero, ℕ, ◌≤◌}
use lib.ListN.{drop, length}
use Rattle.base.specs.Tabulate.{tab}
use Rattle.rules.proofs.Steps.WriterSteps.{bytes}
use Rattle.rules.proofs.Storages.CountCalls.{count_of, forget, model_of}
use Rattle.rules.proofs.Storages.MapBlocks.{map_files}
use Rattle.rules.proofs.Tally.TallyNumbers.{tally_of}
use Rattle.rules.proofs.Whole.HoldsMeans.{byte_model, size_model}
use Rattle.rules.proofs.Whole.Order.{InOrder, answer_tally}
use Rattle.rules.specs.Agreement.{buffer_of, front, store_give}
use Rattle.rules.specs.Calls.{Store, blank_memory, byte_by_reading, read_count, read_into, step, tree_in}
use Rattle.rules.specs.Numbers.{Call, Look, bytes_asked, look_of, none_asked, size_asked}
use Rattle.rules.specs.Plain.{Plain}
use Rattle.rules.specs.Reading.{resolve, size_by_reading}
use Rattle.rules.specs.State.{tree_of}
use Rattle.rules.specs.Storage.{free_blocks, real}
use Rattle.rules.specs.Tally.{Tally}

module _ (B : ℕ) (least : 1 ≤ B) (r r' : Store real) (tree : tree_in real r' ≡ tree_in real r) (files : (f : ℕ) → (model_of r').files f ≡ (model_of r).files f)
    (free : free_blocks r'.memory ≡ free_blocks r.memory) where
  -- the tally of the one, and any plain store with its tree
  abbrev ta : Tally
  ta = tally_of (count_of (model_of r))

  abbrev pl : Plain
  pl = record { tree = tree_of r.sets; files = λ f s. none }

  answers_same : InOrder B r → InOrder B r' → (c : Call) → (step real (blank_memory B) c r').answer ≡ (step real (blank_memory B) c r).answer
  answers_same o o' c =
      answer_tally B least r' o' c pl ta (record { tree = sym tree; files = λ f. ap (map_files forget) (sym (files f)); free = sym free }) refl
      ∙ sym (answer_tally B least r o c pl ta (record { tree = refl; files = λ f. refl; free = refl }) refl)

  bytes_same : (s f i : ℕ) → byte_by_reading r' s f i ≡ byte_by_reading r s f i
  bytes_same s f i = byte_model r' s f i ∙ (λ j. bytes (resolve (tree j) (files f j) s (i / 512)) (i % 512)) ∙ sym (byte_model r s f i)

  sizes_same : (s f : ℕ) → size_by_reading (tree_in real r') (r'.files f) s ≡ size_by_reading (tree_in real r) (r.files f) s
  sizes_same s f = size_model r' s f ∙ (λ j. size_by_reading (tree j) (files f j) s) ∙ sym (size_model r s f)

  reads_same : (s f off : ℕ) (buffer : List ℕ) → read_into r' s f off buffer ≡ read_into r s f off buffer
  unfolding read_into
  reads_same s f off buffer = λ j. let n : ℕ = read_count (length buffer) off (sizes_same s f j) in tab n (λ i. bytes_same s f (off + i) j) ++ drop n buffer

  buffers_same : (k : Look) (n : ℕ) → buffer_of k n r' ≡ buffer_of k n r
  unfolding buffer_of
  buffers_same (bytes_asked s f off buffer) zero = reads_same s f off buffer
  buffers_same (bytes_asked s f off buffer) (suc n) = refl
  buffers_same (size_asked s f) n = refl
  buffers_same none_asked n = refl

  -- LAW
  pub gives_quiet : InOrder B r → InOrder B r' → (c : Call) → store_give B c r' ≡ store_give B c r
  gives_quiet o o' c =
      let e = answers_same o o' c in
      λ i. record { answer = e i; bytes = front c (e i) (buffers_same (look_of c) (e i).number i) }
