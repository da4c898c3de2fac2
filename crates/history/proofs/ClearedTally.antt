-- The tally of a store whose marked files are cleared: their blocks come free, as many as they held. Assumes nothing.
use mathlib.Core.Bool.{Bool, cond, false}
use mathlib.Core.Path.{ap, ap₂, refl, sym, ◌∙◌, ◌≡◌}
use Prim.Native.Nat.{◌*◌, ◌+◌, ℕ}
use native.Mathlib.Omega.{arith}
use Rattle.base.specs.Count.{count, count_none, count_same, sum}
use Rattle.base.specs.Logic.{test?}
use Rattle.compaction.proofs.Counted.{used_free}
use Rattle.compaction.proofs.Places.{entry_at}
use Rattle.compaction.specs.Compact.{entry_in, place_count, stored_before, used_blocks}
use Rattle.history.specs.Conversion.{cleared_tally}
use Rattle.rules.proofs.Blocks.RealStore.{BlocksOk}
use Rattle.rules.proofs.Blocks.Sums.{count_sum, sum_plus, sum_rows, sum_same}
use Rattle.rules.proofs.Formed.Cleared.{Clears, clear_blocks}
use Rattle.rules.proofs.Whole.Clearing.{tree_stays}
use Rattle.rules.specs.Agreement.{AgreesTally, kind_of}
use Rattle.rules.specs.Calls.{Store}
use Rattle.rules.specs.Rules.{marked_file}
use Rattle.rules.specs.State.{Entry, File, Files, hole, is_marked, is_stored, marked, stored, unmapped}
use Rattle.rules.specs.Storage.{free_blocks, real}
use Rattle.rules.specs.Tally.{Tally, TallyFile, stored_pages}

-- ---- the stored entries, file by file

-- the stored entries of a file
abbrev held : File ℕ → ℕ
held x = count 64 (λ p. is_stored (x.map p))

-- LAW: the stored entries of all maps
entries_sum : (files : ℕ → Files ℕ) → used_blocks files ≡ sum 8 (λ s. sum 16 (λ f. held (files f s)))
unfolding stored_before
entries_sum files =
    let g : ℕ → ℕ = λ n. cond (is_stored (entry_in files n)) 1 0 in
    let h : ℕ → ℕ = λ n. sum 64 (λ p. g (n * 64 + p)) in
    count_sum place_count (λ n. is_stored (entry_in files n))
    ∙ sum_rows 64 128 g ∙ sum_rows 16 8 h
    ∙ sum_same 8 _ _ (λ s ls. sum_same 16 _ _ (λ f lf.
    sum_same 64 _ _ (λ p lp. ap (λ (e : Entry ℕ). cond (is_stored e) 1 0) (entry_at files s f p lf lp)) ∙ sym (count_sum 64 (λ p. is_stored ((files f s).map p)))))

module _ (st st' : Store real) (c : Clears st st') (ok : BlocksOk st) where
  -- what clearing frees of one file
  abbrev freed : ℕ → ℕ → ℕ
  freed s f = cond (is_marked (st.files f s).state) (held (st.files f s)) 0

  held_less : (s f : ℕ) → held (st.files f s) ≡ held (st'.files f s) + freed s f
  held_less s f =
      test? (is_marked (st.files f s).state)
      (λ e. let z : st'.files f s ≡ marked_file = c.files f s ∙ ap (λ b. cond b marked_file (st.files f s)) e in
      let n : held (st'.files f s) ≡ 0 = ap held z ∙ count_none 64 (λ p. false) (λ p l. refl) in
      rw e (omega arith))
      (λ e. let z : st'.files f s ≡ st.files f s = c.files f s ∙ ap (λ b. cond b marked_file (st.files f s)) e in
      let n : held (st'.files f s) ≡ held (st.files f s) = ap held z in
      rw e (omega arith))

  used_less : used_blocks st.files ≡ used_blocks st'.files + sum 8 (λ s. sum 16 (freed s))
  used_less =
      let a = entries_sum st.files in
      let b = entries_sum st'.files in
      let d : sum 8 (λ s. sum 16 (λ f. held (st.files f s))) ≡ sum 8 (λ s. sum 16 (λ f. held (st'.files f s)) + sum 16 (freed s)) =
      sum_same 8 _ _ (λ s l. sum_same 16 _ _ (λ f k. held_less s f) ∙ sum_plus 16 (λ f. held (st'.files f s)) (freed s)) in
      let e = sum_plus 8 (λ s. sum 16 (λ f. held (st'.files f s))) (λ s. sum 16 (freed s)) in
      omega arith

  -- LAW
  pub free_more : free_blocks st'.memory ≡ free_blocks st.memory + sum 8 (λ s. sum 16 (freed s))
  free_more =
      let a = used_free st ok in
      let b = used_free st' (clear_blocks st st' c ok) in
      let d = used_less in
      let e = c.blocks in
      omega arith

-- ---- the tally

module _ (st st' : Store real) (c : Clears st st') (ok : BlocksOk st) (ta : Tally) (a : AgreesTally st ta) where
  stored_kind : (e : Entry ℕ) → is_stored (kind_of e) ≡ is_stored e
  stored_kind unmapped = refl
  stored_kind hole = refl
  stored_kind (stored b) = refl

  -- the blocks of a file, by tally and by store
  held_tally : (f s : ℕ) → stored_pages (ta.files f s) ≡ held (st.files f s)
  unfolding stored_pages
  held_tally f s = count_same 64 _ _ (λ p l. ap is_stored (a.kind f s p) ∙ stored_kind ((st.files f s).map p))

  freed_tally : (f s : ℕ) → cond (is_marked (ta.files f s).state) (stored_pages (ta.files f s)) 0 ≡ freed st st' c ok s f
  freed_tally f s = ap₂ (λ (x : Bool) (n : ℕ). cond x n 0) (ap is_marked (a.state f s)) (held_tally f s)

  -- a file as the tally has it
  abbrev shown : File ℕ → TallyFile
  shown x = record { state = x.state; size = x.size; map = λ p. kind_of (x.map p) }

  file_shown : (f s : ℕ) → ta.files f s ≡ shown (st.files f s)
  file_shown f s = λ i. record { state = a.state f s i; size = a.size f s i; map = λ p. a.kind f s p i }

  clear_shown : (f s : ℕ) → (cleared_tally ta).files f s ≡ shown (st'.files f s)
  unfolding cleared_tally
  clear_shown f s =
      let bare : TallyFile = record { state = marked; size = 0; map = λ p. unmapped } in
      let put : File ℕ → Bool → TallyFile = λ x b. shown (cond b marked_file x) in
      ap (λ (x : TallyFile). cond (is_marked x.state) bare x) (file_shown f s)
      ∙ test? {P = cond (is_marked (st.files f s).state) bare (shown (st.files f s)) ≡ put (st.files f s) (is_marked (st.files f s).state)} (is_marked (st.files f s).state) (λ e. rw e) (λ e. rw e)
      ∙ ap shown (sym (c.files f s))

  -- LAW
  pub clear_tally : AgreesTally st' (cleared_tally ta)
  unfolding cleared_tally
  clear_tally = record {
    sets = a.sets ∙ sym (tree_stays st st' c);
    state = λ f s. ap (λ (x : TallyFile). x.state) (clear_shown f s);
    size = λ f s. ap (λ (x : TallyFile). x.size) (clear_shown f s);
    kind = λ f s p. ap (λ (x : TallyFile). x.map p) (clear_shown f s);
    free = ap₂ ◌+◌ a.free (sum_same 8 _ _ (λ s l. sum_same 16 _ _ (λ f k. freed_tally f s))) ∙ sym (free_more st st' c ok);
  }
