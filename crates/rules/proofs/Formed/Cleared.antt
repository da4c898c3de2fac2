-- MARKED FILES CLEARED, in a store of the time before Ask 10: own and virgin files read as they did, what was well formed by the rules before is so by the present ones, and
-- the blocks are in order. Assumes nothing.
use mathlib.Core.Bool.{cond, false, true, true≢false}
use mathlib.Core.Path.{ap, ap₂, refl, subst, sym, ◌∙◌, ◌≡◌}
use Prim.Native.Nat.{◌*◌, ◌<◌, ℕ, ◌≤◌}
use native.Mathlib.Omega.{arith}
use lib.Dec.{ltb}
use borrow.Author.Tests.{ltb-false, ltb-true}
use Rattle.base.specs.Logic.{test?}
use Rattle.rules.proofs.Blocks.RealStore.{BlocksOk, Placed, none_stored}
use Rattle.rules.proofs.Formed.FilesFormed.{FilesBefore}
use Rattle.rules.proofs.Formed.Shape.{FileFits, FilesFormed}
use Rattle.rules.proofs.Steps.OneStep.{Alive, shown_none, shown_size_none}
use Rattle.rules.proofs.Steps.States.{live_unmarked, marked_is}
use Rattle.rules.proofs.Steps.Walk.{walk_frame}
use Rattle.rules.specs.Calls.{Store, tree_in}
use Rattle.rules.specs.Reading.{resolve, shown_entry, shown_size, size_by_reading}
use Rattle.rules.specs.Rules.{marked_file}
use Rattle.rules.specs.State.{Entry, File, Files, Tree, hole, is_absent, is_marked, is_stored, live, marked, stored, unmapped}
use Rattle.rules.specs.Storage.{real}

-- ---- the files of one number

module _ {K : Type 0} (t : Tree) (files files' : Files K) (clears : (s : ℕ) → files' s ≡ cond (is_marked (files s).state) marked_file (files s)) where
  marked_clear : (s : ℕ) → is_marked (files s).state ≡ true → files' s ≡ marked_file
  marked_clear s e = clears s ∙ rw e

  pub other_same : (s : ℕ) → is_marked (files s).state ≡ false → files' s ≡ files s
  other_same s e = clears s ∙ rw e

  -- LAW: the states stay
  pub clear_state : (s : ℕ) → (files' s).state ≡ (files s).state
  clear_state s =
      test? (is_marked (files s).state)
      (λ e. ap (λ (x : File K). x.state) (marked_clear s e) ∙ sym (marked_is (files s).state e))
      (λ e. ap (λ (x : File K). x.state) (other_same s e))

  alive_before : (s : ℕ) → Alive files' s → Alive files s
  alive_before s a = sym (ap live (clear_state s)) ∙ a

  alive_after : (s : ℕ) → Alive files s → Alive files' s
  alive_after s a = ap live (clear_state s) ∙ a

  pub alive_same : (s : ℕ) → Alive files s → files' s ≡ files s
  alive_same s a = other_same s (live_unmarked (files s).state a)

  module _ (h : FilesBefore t files) where
    beyond_clear : (s p : ℕ) → 64 ≤ p → (files' s).map p ≡ unmapped
    beyond_clear s p l =
        test? (is_marked (files s).state) (λ e. ap (λ (x : File K). x.map p) (marked_clear s e))
        (λ e. ap (λ (x : File K). x.map p) (other_same s e) ∙ (h.shape s).beyond p l)

    -- LAW: an own or virgin file reads through no marked one
    pub clear_resolve : (s p : ℕ) → Alive files s → resolve t files' s p ≡ resolve t files s p
    unfolding resolve
    clear_resolve s p a =
        test? (ltb p 64)
        (λ e. walk_frame t.parent (λ (x : File K). shown_entry (x.map p)) hole files files' (λ s. Alive files s)
        (λ s b. ap (λ (x : File K). shown_entry (x.map p)) (alive_same s b)) (λ s b n. h.ok.closed s p (ltb-true p 64 e) b (shown_none ((files s).map p) n)) (t.level s) s a)
        (λ e. let l = ltb-false p 64 e in
        walk_frame t.parent (λ (x : File K). shown_entry (x.map p)) hole files files' (λ s. Unit {0})
        (λ s b. ap shown_entry (beyond_clear s p l ∙ sym ((h.shape s).beyond p l))) (λ s b n. tt) (t.level s) s tt)

    pub clear_size : (s : ℕ) → Alive files s → size_by_reading t files' s ≡ size_by_reading t files s
    unfolding size_by_reading
    clear_size s a =
        walk_frame t.parent (λ (x : File K). shown_size x.state x.size) 0 files files' (λ s. Alive files s)
        (λ s b. ap (λ (x : File K). shown_size x.state x.size) (alive_same s b))
        (λ s b n. h.ok.closed s 0 (omega arith) b (h.ok.bare s 0 (omega arith) (shown_size_none (files s).state (files s).size n))) (t.level s) s a

    -- what the rules say of one file
    marked_fits : (s : ℕ) → (files s).state ≡ marked → FileFits t s (marked_file {K = K})
    marked_fits s m =
        let p : is_absent (files s).state ≡ false = ap is_absent m in
        record {
          empty = λ e. absurd (true≢false (sym e));
          unused = λ u. absurd (true≢false (sym ((h.shape s).unused u) ∙ p));
          out = λ l. absurd (true≢false (sym ((h.shape s).out l) ∙ p));
          beyond = λ p l. refl;
          most = omega arith;
          bare_size = λ v. refl;
          root_own = λ z e. absurd (true≢false (sym (ap is_marked m) ∙ ap is_marked ((h.shape s).root_own z p)));
          root_full = λ z e. absurd (true≢false (sym (ap is_marked m) ∙ ap is_marked ((h.shape s).root_own z p)));
        }

    clear_fits : (s : ℕ) → FileFits t s (files' s)
    clear_fits s =
        test? (is_marked (files s).state)
        (λ e. subst (FileFits t s) (sym (marked_clear s e)) (marked_fits s (marked_is (files s).state e)))
        (λ e. subst (FileFits t s) (sym (other_same s e)) (h.shape s))

    entry_before : (s p : ℕ) (e : Entry K) → Alive files s → (files' s).map p ≡ e → (files s).map p ≡ e
    entry_before s p e a q = sym (ap (λ (x : File K). x.map p) (alive_same s a)) ∙ q

    -- LAW: with the marked files cleared the present rules hold
    pub clear_files : FilesFormed t files'
    clear_files = record {
      shape = clear_fits;
      ok = record {
        closed = λ s p l a u. let b = alive_before s a in alive_after (t.parent s) (h.ok.closed s p l b (entry_before s p unmapped b u));
        listed = λ s p l a u. let b = alive_before s a in h.ok.listed s p l b (entry_before s p unmapped b u);
        bare = λ s p l v. let w = sym (clear_state s) ∙ v in ap (λ (x : File K). x.map p) (alive_same s (ap live w)) ∙ h.ok.bare s p l w;
      };
      past = λ s p l a z.
          let b = alive_before s a in
          ap is_stored (clear_resolve s p b) ∙ h.past s p l b (subst (λ n. n ≤ p * 512) (clear_size s b) z);
      bare_marked = λ s m. marked_clear s (ap is_marked (sym (clear_state s) ∙ m));
    }

-- ---- the whole store

-- st' is st with its marked files cleared, and their blocks free; all else stands as it stood
pub record Clears (st st' : Store real) : Type 0 where
  pub blocks : st'.memory.blocks ≡ st.memory.blocks
  pub next : st'.memory.next ≡ st.memory.next
  pub pages : st'.memory.pages ≡ st.memory.pages
  pub sets : st'.sets ≡ st.sets
  pub files : (f s : ℕ) → st'.files f s ≡ cond (is_marked (st.files f s).state) marked_file (st.files f s)
  -- the bits: that of a block which a marked file names, and every other
  pub freed : (f s p b : ℕ) → is_marked (st.files f s).state ≡ true → (st.files f s).map p ≡ stored b → st'.memory.bits b ≡ false
  pub kept : (b : ℕ) → ((f s p : ℕ) → is_marked (st.files f s).state ≡ true → (st.files f s).map p ≡ stored b → ⊥) → st'.memory.bits b ≡ st.memory.bits b
  pub fewer : (b : ℕ) → st'.memory.bits b ≡ true → st.memory.bits b ≡ true

module _ (st st' : Store real) (c : Clears st st') (ok : BlocksOk st) where
  marked_bare : (f s : ℕ) → is_marked (st.files f s).state ≡ true → st'.files f s ≡ marked_file
  marked_bare f s = marked_clear (tree_in real st) (st.files f) (st'.files f) (c.files f) s

  other_stays : (f s : ℕ) → is_marked (st.files f s).state ≡ false → st'.files f s ≡ st.files f s
  other_stays f s = other_same (tree_in real st) (st.files f) (st'.files f) (c.files f) s

  -- an entry of the cleared store stood there, in a file that is not marked
  named_before : (f s p b : ℕ) → (st'.files f s).map p ≡ stored b → (is_marked (st.files f s).state ≡ false) × ((st.files f s).map p ≡ stored b)
  named_before f s p b e =
      test? (is_marked (st.files f s).state)
      (λ m. absurd (none_stored b (sym (ap (λ (x : File ℕ). x.map p) (marked_bare f s m)) ∙ e)))
      (λ m. (m, sym (ap (λ (x : File ℕ). x.map p) (other_stays f s m)) ∙ e))

  state_same : (f s : ℕ) → (st'.files f s).state ≡ (st.files f s).state
  state_same f s = clear_state (tree_in real st) (st.files f) (st'.files f) (c.files f) s

  -- no marked file names the block of another file
  not_held : (f s p b : ℕ) → is_marked (st.files f s).state ≡ false → (st.files f s).map p ≡ stored b
      → (f' s' p' : ℕ) → is_marked (st.files f' s').state ≡ true → (st.files f' s').map p' ≡ stored b → ⊥
  not_held f s p b m e f' s' p' m' e' =
      let z = ok.apart f f' s s' p p' b e e' in
      true≢false (sym m' ∙ ap₂ (λ f s. is_marked (st.files f s).state) (sym z.0) (sym z.1) ∙ m)

  clear_placed : Placed st'
  clear_placed =
      let q = ok.placed in
      record {
        file_low = λ f s p b e. q.file_low f s p b (named_before f s p b e).1;
        page_low = λ f s p b e. q.page_low f s p b (named_before f s p b e).1;
        present = λ f s p b e. ap is_absent (state_same f s) ∙ q.present f s p b (named_before f s p b e).1;
        lives = λ f s e. ap (λ r. (r s).used) c.sets ∙ q.lives f s (sym (ap is_absent (state_same f s)) ∙ e);
        set_low = λ s u. q.set_low s (sym (ap (λ r. (r s).used) c.sets) ∙ u);
      }

  -- LAW: the blocks are in order
  pub clear_blocks : BlocksOk st'
  clear_blocks = record {
    next = subst (λ n. n < st'.memory.blocks) (sym c.next) (subst (λ n. st.memory.next < n) (sym c.blocks) ok.next);
    used = λ f s p b e.
        let n = named_before f s p b e in
        let u = ok.used f s p b n.1 in
        record { bit = c.kept b (not_held f s p b n.0 n.1) ∙ u.bit; below = subst (λ n. b < n) (sym c.blocks) u.below };
    apart = λ f f' s s' p p' b e e'. ok.apart f f' s s' p p' b (named_before f s p b e).1 (named_before f' s' p' b e').1;
    only = λ b h.
        let n = ok.only b (c.fewer b h) in
        record {
          file = n.file;
          set = n.set;
          page = n.page;
          names = test? (is_marked (st.files n.file n.set).state)
              (λ m. absurd (true≢false (sym h ∙ c.freed n.file n.set n.page b m n.names)))
              (λ m. ap (λ (x : File ℕ). x.map n.page) (other_stays n.file n.set m) ∙ n.names);
        };
    placed = clear_placed;
  }
