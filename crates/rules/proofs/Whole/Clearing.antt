-- A STORE OF THE TIME BEFORE ASK 10 WHOSE MARKED FILES ARE CLEARED agrees with the plain store that it agreed with: marked files are not compared, and no own or virgin file reads
-- through one. And past the sizes there are zeros, as there were. Assumes nothing.
use mathlib.Core.Bool.{false}
use mathlib.Core.List.{List}
use mathlib.Core.Option.{some}
use mathlib.Core.Path.{ap, refl, subst, sym, ◌∙◌, ◌≡◌}
use Prim.Native.Nat.{◌%◌, ◌/◌, ℕ, ◌≤◌}
use Rattle.rules.proofs.Formed.Cleared.{Clears, clear_resolve, clear_size, clear_state}
use Rattle.rules.proofs.Formed.FilesFormed.{FilesBefore}
use Rattle.rules.proofs.Steps.OneStep.{Alive}
use Rattle.rules.proofs.Steps.States.{live_of}
use Rattle.rules.specs.Agreement.{AgreesPlain, ZeroPast}
use Rattle.rules.specs.Calls.{Store, byte_by_reading, tree_in}
use Rattle.rules.specs.Plain.{Plain, is_none}
use Rattle.rules.specs.Reading.{resolve, size_by_reading}
use Rattle.rules.specs.Rules.{page_of}
use Rattle.rules.specs.State.{Entry, Tree, hole, is_absent, is_marked, live, page_bytes, stored, tree_of, unmapped}
use Rattle.rules.specs.Storage.{PageData, real}

module _ (st st' : Store real) (c : Clears st st') where
  -- LAW: sets and states stay
  pub tree_stays : tree_in real st' ≡ tree_in real st
  tree_stays = ap tree_of c.sets

  pub state_stays : (f s : ℕ) → (st'.files f s).state ≡ (st.files f s).state
  state_stays f s = clear_state (tree_in real st) (st.files f) (st'.files f) (c.files f) s

  page_stays : (e : Entry ℕ) → page_of real st'.memory e ≡ page_of real st.memory e
  unfolding page_of
  page_stays unmapped = refl
  page_stays hole = refl
  page_stays (stored b) = ap (λ (pages : ℕ → PageData). pages b) c.pages

  module _ (before : (f : ℕ) → FilesBefore (tree_in real st) (st.files f)) where
    -- LAW: the sizes and bytes by reading of own and virgin files stay
    pub size_stays : (f s : ℕ) → Alive (st.files f) s → size_by_reading (tree_in real st') (st'.files f) s ≡ size_by_reading (tree_in real st) (st.files f) s
    size_stays f s a =
        ap (λ (t : Tree). size_by_reading t (st'.files f) s) tree_stays ∙ clear_size (tree_in real st) (st.files f) (st'.files f) (c.files f) (before f) s a

    pub byte_stays : (f s i : ℕ) → Alive (st.files f) s → byte_by_reading st' s f i ≡ byte_by_reading st s f i
    unfolding byte_by_reading
    byte_stays f s i a =
        ap (λ (v : PageData). v (i % page_bytes))
        (page_stays (resolve (tree_in real st') (st'.files f) s (i / page_bytes))
        ∙ ap (page_of real st.memory)
        (ap (λ (t : Tree). resolve t (st'.files f) s (i / page_bytes)) tree_stays
        ∙ clear_resolve (tree_in real st) (st.files f) (st'.files f) (c.files f) (before f) s (i / page_bytes) a))

    -- LAW
    pub clear_plain : (pl : Plain) → AgreesPlain st pl → AgreesPlain st' pl
    clear_plain pl a =
        let alive : (f s : ℕ) (l : List ℕ) → pl.files f s ≡ some l → is_marked (st'.files f s).state ≡ false → Alive (st.files f) s =
        λ f s l e m. live_of (st.files f s).state (sym (a.present f s) ∙ ap is_none e) (sym (ap is_marked (state_stays f s)) ∙ m) in
        record {
          sets = a.sets ∙ sym tree_stays;
          present = λ f s. a.present f s ∙ sym (ap is_absent (state_stays f s));
          size = λ f s l e m. size_stays f s (alive f s l e m) ∙ a.size f s l e (sym (ap is_marked (state_stays f s)) ∙ m);
          bytes = λ f s l e m i h. byte_stays f s i (alive f s l e m) ∙ a.bytes f s l e (sym (ap is_marked (state_stays f s)) ∙ m) i h;
        }

    -- LAW
    pub clear_past : ZeroPast st → ZeroPast st'
    clear_past z f s h i k l =
        let a = sym (ap live (state_stays f s)) ∙ h in
        byte_stays f s i a ∙ z f s a i (subst (λ n. n ≤ i) (size_stays f s a) k) l
