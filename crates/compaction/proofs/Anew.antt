-- Entries renumbered and pages laid down anew: which block has which page. Assumes nothing.
use mathlib.Core.Bool.{true, true≢false}
use mathlib.Core.Path.{ap, fun_ext, refl, subst, sym, ◌∙◌, ◌≡◌}
use Prim.Native.Nat.{◌<◌, suc, zero, ℕ}
use native.Mathlib.Omega.{arith}
use Rattle.base.specs.Count.{count_same}
use Rattle.base.specs.Logic.{same?}
use Rattle.base.specs.Update.{upd, upd_other, upd_same}
use Rattle.compaction.proofs.Places.{name_of}
use Rattle.compaction.proofs.Ranks.{rank_less}
use Rattle.compaction.specs.Compact.{contents, entry_in, lay_page, pages_more, pages_none, pages_anew, entry_anew, stored_before, with_page}
use Rattle.rules.proofs.Storages.MapBlocks.{map_entry, map_files}
use Rattle.rules.specs.Calls.{Store}
use Rattle.rules.specs.State.{Entry, Files, hole, is_stored, stored, unmapped}
use Rattle.rules.specs.Storage.{PageData, real}

-- ENTRIES
pub page_kind : (pages : ℕ → PageData) (e : Entry ℕ) → is_stored (with_page pages e) ≡ is_stored e
page_kind pages unmapped = refl
page_kind pages hole = refl
page_kind pages (stored b) = refl

pub page_map : (pages : ℕ → PageData) (e : Entry ℕ) → with_page pages e ≡ map_entry pages e
page_map pages unmapped = refl
page_map pages hole = refl
page_map pages (stored b) = refl

pub number_kind : (k : ℕ) (e : Entry PageData) → is_stored (entry_anew k e) ≡ is_stored e
number_kind k unmapped = refl
number_kind k hole = refl
number_kind k (stored v) = refl

pub number_is : (k : ℕ) (e : Entry PageData) (b : ℕ) → entry_anew k e ≡ stored b → (b ≡ k) × (is_stored e ≡ true)
number_is k unmapped b h = absurd (true≢false (sym (ap is_stored h)))
number_is k hole b h = absurd (true≢false (sym (ap is_stored h)))
number_is k (stored v) b h = (ap (λ (x : Entry ℕ). name_of x) (sym h), refl)

pub number_of : (k : ℕ) (e : Entry PageData) → is_stored e ≡ true → entry_anew k e ≡ stored k
number_of k unmapped h = absurd (true≢false (sym h))
number_of k hole h = absurd (true≢false (sym h))
number_of k (stored v) h = refl

-- the contents are the files of the model
pub contents_map : (st : Store real) (f : ℕ) → contents st f ≡ map_files st.memory.pages (st.files f)
unfolding contents
contents_map st f = λ i s. record { state = (st.files f s).state; size = (st.files f s).size; map = λ p. page_map st.memory.pages ((st.files f s).map p) i }

pub contents_kind : (st : Store real) (n : ℕ) → is_stored (entry_in (contents st) n) ≡ is_stored (entry_in st.files n)
unfolding contents
contents_kind st n = page_kind st.memory.pages (entry_in st.files n)

pub contents_page : (st : Store real) (n b : ℕ) → entry_in st.files n ≡ stored b → entry_in (contents st) n ≡ stored (st.memory.pages b)
unfolding contents
contents_page st n b e = ap (with_page st.memory.pages) e

-- as many stored entries in the files as in their contents
pub before_contents : (st : Store real) (n : ℕ) → stored_before (contents st) n ≡ stored_before st.files n
unfolding stored_before
before_contents st n = count_same n (λ i. is_stored (entry_in st.files i)) (λ i. is_stored (entry_in (contents st) i)) (λ i l. contents_kind st i)

-- PAGES
lay_away : (k : ℕ) (e : Entry PageData) (pages : ℕ → PageData) (x : ℕ) → (is_stored e ≡ true → k ≡ x → ⊥) → lay_page k e pages x ≡ pages x
lay_away k unmapped pages x h = refl
lay_away k hole pages x h = refl
lay_away k (stored v) pages x h = upd_other pages k v x (h refl)

module _ (files : ℕ → Files PageData) (pages : ℕ → PageData) where
  before_less : (i j : ℕ) → i < j → is_stored (entry_in files i) ≡ true → stored_before files i < stored_before files j
  unfolding stored_before
  before_less i j l h = rank_less (λ i. is_stored (entry_in files i)) i j l h

  -- LAW: the page of a stored entry is in the block of its rank
  pub page_at_law : (n i : ℕ) (v : PageData) → i < n → entry_in files i ≡ stored v → pages_anew files pages n (stored_before files i) ≡ v
  page_at_law zero i v l e = absurd (omega arith)
  page_at_law (suc n) i v l e =
      ap (λ (g : ℕ → PageData). g (stored_before files i)) (pages_more files pages n)
      ∙ same? i n
      (λ q. subst (λ x. lay_page (stored_before files x) (entry_in files x) (pages_anew files pages n) (stored_before files i) ≡ v) q
      (rw e (upd_same (pages_anew files pages n) (stored_before files i) v)))
      (λ q. lay_away (stored_before files n) (entry_in files n) (pages_anew files pages n) (stored_before files i)
      (λ s d. let z = before_less i n (omega arith) (ap is_stored e) in omega arith)
      ∙ page_at_law n i v (omega arith) e)

  -- what all pages of entries and all other pages have, where they stand, every page has
  pub page_all : (P : ℕ → PageData → Type 0) (n : ℕ) → ((b : ℕ) → P b (pages b)) → ((i : ℕ) (v : PageData) → i < n → entry_in files i ≡ stored v → P (stored_before files i) v)
      → (b : ℕ) → P b (pages_anew files pages n b)
  page_all P zero h k b = subst (λ (g : ℕ → PageData). P b (g b)) (sym (pages_none files pages)) (h b)
  page_all P (suc n) h k b =
      subst (λ (g : ℕ → PageData). P b (g b)) (sym (pages_more files pages n)) (go (page_all P n h (λ i v l. k i v (omega arith)) b) (entry_in files n) refl)
    where
      go : P b (pages_anew files pages n b) → (e : Entry PageData) → entry_in files n ≡ e → P b (lay_page (stored_before files n) e (pages_anew files pages n) b)
      go rest unmapped q = rest
      go rest hole q = rest
      go rest (stored v) q = same? (stored_before files n) b
          (λ d. subst (λ x. P x (upd (pages_anew files pages n) (stored_before files n) v x)) d
          (subst (P (stored_before files n)) (sym (upd_same (pages_anew files pages n) (stored_before files n) v)) (k n v (omega arith) q)))
          (λ d. subst (P b) (sym (upd_other (pages_anew files pages n) (stored_before files n) v b d)) rest)

  -- pages that are where they belong stay
  pub pages_stay : (n : ℕ) → ((i : ℕ) (v : PageData) → i < n → entry_in files i ≡ stored v → v ≡ pages (stored_before files i)) → pages_anew files pages n ≡ pages
  pages_stay n h = fun_ext (page_all (λ b v. v ≡ pages b) n (λ b. refl) h)
