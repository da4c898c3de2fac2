-- Compaction on bytes, by its three cases. Assumes nothing.
use mathlib.Core.Bool.{false, true}
use mathlib.Core.List.{List}
use mathlib.Core.Path.{ap, refl, sym, ◌∙◌, ◌≡◌}
use Prim.Native.Nat.{◌*◌, ℕ}
use lib.ListN.{length}
use Rattle.std.specs.Prelude.{Err, Result}
use Rattle.std.specs.Result.{IsErrAnd}
use Rattle.calls.proofs.CallCases.{passed}
use Rattle.calls.specs.Answered.{answered}
use Rattle.calls.specs.Outcomes.{answer_meant, outcome}
use Rattle.calls.specs.declared.answer.Counts.{Counts}
use Rattle.numbers.specs.declared.refusal.Refusal.{Refusal}
use Rattle.numbers.specs.declared.refusal.Refusal.TheVariants.{NotWellFormed}
use Rattle.compacting.specs.Exchange.{Lent, StoredHeld, may_hold}
use Rattle.compacting.specs.Gathering.{Compacted}
use Rattle.compaction.proofs.Cases.{compact_accepted, compact_spare, compact_unformed}
use Rattle.compaction.specs.Call.{Free, compact_on, free_in, left_by}
use Rattle.compaction.specs.Compact.{compacted}
use Rattle.packing.specs.Words.{Bytes}
use Rattle.pages.proofs.Whole.{pages_packed}
use Rattle.rules.proofs.Blocks.RealStore.{none_stored}
use Rattle.rules.specs.Calls.{Store}
use Rattle.rules.specs.Numbers.{Answer, refusal}
use Rattle.rules.specs.State.{File, State, absent, is_absent, marked, own, unmapped, virgin}
use Rattle.rules.specs.Storage.{real}
use Rattle.tables.proofs.FormedStore.{formed_store}
use Rattle.tables.proofs.PackUnpack.{pack_unpack}
use Rattle.tables.specs.Calls.{looked_at, pages_of, store_of}
use Rattle.tables.specs.Packed.{unpack, well_formed}
use Rattle.calls.specs.declared.answer.Answer as declared

-- REFUSED: "any refusal leaves the spare page too"
pub compact_unformed_as : (q : Result Counts Refusal) (x : Refusal) → IsErrAnd q (λ v. v ≡ x) → (t p spare : List ℕ) (free : Free) → (well_formed t (length p) ≡ false) × (x ≡ NotWellFormed)
    → outcome (answered q) t p spare ≡ compact_on spare free t p
compact_unformed_as q x h t p spare free w =
    ap (λ (r : declared.Answer). outcome r t p spare) (passed q x h ∙ ap (λ (v : Refusal). answered (Err v)) w.1) ∙ sym (compact_unformed spare free t p w.0)

pub compact_spare_as : (r : declared.Answer) (t p spare : List ℕ) (free : Free) → answer_meant r ≡ refusal 16 → well_formed t (length p) ≡ true → (length spare ≡ 512 → ⊥)
    → outcome r t p spare ≡ compact_on spare free t p
compact_spare_as r t p spare free a h n = ap (λ (x : Answer). looked_at x t p spare) a ∙ sym (compact_spare spare free t p h n)

-- what the code asks for: absent and virgin files have no stored entry
stored_held : (t p : List ℕ) → well_formed t (length p) ≡ true → StoredHeld t
stored_held t p h f s q b e = go ((unpack t).files f s).state refl
  where
    bare : ((unpack t).files f s).map q ≡ unmapped → ⊥
    bare d = none_stored b (sym d ∙ e)

    go : (l : State) → ((unpack t).files f s).state ≡ l → may_hold l ≡ true
    go absent d = absurd (bare (ap (λ (x : File ℕ). x.map q) ((((formed_store t p h).files_ok f).shape s).empty (ap is_absent d))))
    go own d = refl
    go virgin d = absurd (bare (((formed_store t p h).files_ok f).ok.bare s q ((formed_store t p h).blocks_ok.placed.page_low f s q b e) d))
    go marked d = refl

pub compact_lent : (t p : List ℕ) → well_formed t (length p) ≡ true → Lent t p
compact_lent t p h =
    let fs = formed_store t p h in
    record { packed = fs.packed; most = fs.header.most; pages = fs.pages; ok = fs.blocks_ok; held = stored_held t p h }

-- ACCEPTED
module _ (r : declared.Answer) (t p spare t' p' spare' : List ℕ) (formed : well_formed t (length p) ≡ true) (h : Compacted t p t' p') where
  blocks_same : (unpack t').blocks ≡ (unpack t).blocks
  unfolding compacted
  blocks_same = ap (λ (x : Store real). x.memory.blocks) h.is

  left_is : Bytes t' → length p' ≡ length p → left_by (compacted (pages_of p') (store_of t p)) spare' ≡ looked_at (refusal 0) t' p' spare'
  left_is bs l =
      let w = pack_unpack t' h.packed bs in
      let g = pages_packed (unpack t').blocks p' (l ∙ (formed_store t p formed).pages ∙ ap (λ n. n * 512) (sym blocks_same)) in
      ap (λ (x : Store real). left_by x spare') (sym h.is) ∙ (λ i. looked_at (refusal 0) (w i) (g i) spare')

  pub compact_done_as : answer_meant r ≡ refusal 0 → length spare ≡ 512 → Bytes t' → length p' ≡ length p → outcome r t' p' spare' ≡ compact_on spare (free_in p' spare') t p
  compact_done_as a e bs l =
      ap (λ (x : Answer). looked_at x t' p' spare') a ∙ sym (compact_accepted spare (free_in p' spare') t p formed e ∙ left_is bs l)
