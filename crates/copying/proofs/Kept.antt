-- What the changes of the state that steps make leave of the rest and of the work, and that they keep what the next step needs; with that, a store into tables and pages is a step. Assumes nothing.
use mathlib.Core.Bool.{Bool, false, not, true}
use mathlib.Core.List.{List}
use mathlib.Core.Option.{Option}
use mathlib.Core.Path.{◌≡◌, ap, fun_ext, refl, subst, sym, ◌∙◌}
use Prim.Native.Nat.{◌%◌, ◌*◌, ◌+◌, ◌-◌, ◌<◌, suc, ℕ, ◌≤◌}
use native.Mathlib.Nat.{mod-lt}
use native.Mathlib.Numerals.{add-one}
use native.Mathlib.Omega.{arith}
use lib.ListN.{length}
use Rattle.base.specs.Count.{count, count_less}
use Rattle.base.specs.Logic.{pick}
use Rattle.base.specs.Search.{first_free}
use Rattle.base.specs.Update.{upd, upd_all, upd_other, upd_same, upd_upd}
use Rattle.copying.specs.Work.{Does, Ready, Rest, Sound, Step, on_files, one_taken, rest, work, work_of}
use Rattle.rules.proofs.Steps.OneStep.{put_entry_state}
use Rattle.rules.specs.Rules.{Work, copy, enter_as, put_entry, take_own}
use Rattle.rules.specs.State.{Entry, File, Files, Tables, Tree, absent_file, live, stored, tree_of}
use Rattle.rules.specs.Storage.{PageData, real, take_block}
use Rattle.setchanges.specs.Changes.{with_bits}
use Rattle.tables.specs.Calls.{pages_of}
use Rattle.tables.specs.Packed.{unpack}
use Rattle.tables.specs.Views.{PackedTables, Took, Turns, memory_of, put_bit_in, put_entry_in, put_files, put_next_in, took}
use Rattle.copying.specs.declared.giving.Counts.{Counts}

-- ---- the files of number f are put

module _ (tb : Tables) (f : ℕ) (x : Files ℕ) where
  pub rest_files : rest (put_files f x tb) f ≡ rest tb f
  unfolding put_files
  rest_files = ap (λ (o : ℕ → Files ℕ). record { blocks = tb.blocks; sets = tb.sets; others = o }) (upd_upd tb.files f x (λ s. absent_file))

  pub work_files : (pg : ℕ → PageData) (h : ℕ → Entry ℕ) (k : Counts) → work (put_files f x tb) pg f h k ≡ work_of (memory_of tb pg) x h k
  unfolding put_files
  work_files pg h k = ap (λ y. work_of (memory_of tb pg) y h k) (upd_same tb.files f x)

  -- LAW: other bits, and files whose maps name blocks of the store, and of which not too many are live
  pub sound_bits : {k k' : Counts} (bits : ℕ → Bool) → Sound tb f k → ((s p b : ℕ) → (x s).map p ≡ stored b → b < tb.blocks) → ((b : ℕ) → tb.blocks ≤ b → bits b ≡ false)
      → k'.left ≡ count tb.blocks (λ b. not (bits b)) → k'.taken + k'.copies + k'.left ≤ 4096 * (k'.marks + 1) → k'.marks + count 8 (λ s. live (x s).state) ≤ 8
      → Sound (put_files f x (with_bits bits tb)) f k'
  unfolding put_files
  sound_bits {k'} bits so nm ps lf rm al = record {
    header = record { at_least = so.header.at_least; most = so.header.most; next_in = so.header.next_in };
    named = subst (λ (y : Files ℕ). (s p b : ℕ) → (y s).map p ≡ stored b → b < tb.blocks) (sym (upd_same tb.files f x)) nm;
    bits_past = ps;
    left_is = lf;
    room = rm;
    alive = subst (λ (y : Files ℕ). k'.marks + count 8 (λ s. live (y s).state) ≤ 8) (sym (upd_same tb.files f x)) al;
    tree = so.tree;
  }

  -- LAW: the bits and the counts stay
  pub sound_files : {k : Counts} → Sound tb f k → ((s p b : ℕ) → (x s).map p ≡ stored b → b < tb.blocks) → k.marks + count 8 (λ s. live (x s).state) ≤ 8 → Sound (put_files f x tb) f k
  sound_files so nm al = sound_bits tb.bits so nm so.bits_past so.left_is so.room al

-- what the new entry and every old one have, every entry has
pub put_entry_all : (P : Entry ℕ → Type 0) (files : Files ℕ) (c p : ℕ) (e : Entry ℕ) → P e → ((s q : ℕ) → P ((files s).map q)) → (s q : ℕ) → P ((put_entry files c p e s).map q)
unfolding put_entry
put_entry_all P files c p e a h s q =
    upd_all (λ (y : File ℕ). P (y.map q)) files c (record { state = (files c).state; size = (files c).size; map = upd (files c).map p e })
    (upd_all P (files c).map p e a (h c) q) (λ j. h j q) s

module _ (tb : Tables) (f : ℕ) {k : Counts} (so : Sound tb f k) where
  -- LAW: an entry that names no block, or one of the store
  pub sound_entry : (c q : ℕ) (e : Entry ℕ) → ((b : ℕ) → e ≡ stored b → b < tb.blocks) → Sound (put_files f (put_entry (tb.files f) c q e) tb) f k
  sound_entry c q e h =
      sound_files tb f (put_entry (tb.files f) c q e) so
      (put_entry_all (λ y. (b : ℕ) → y ≡ stored b → b < tb.blocks) (tb.files f) c q e h (λ s p. so.named s p))
      (subst (λ (g : ℕ → Bool). k.marks + count 8 g ≤ 8) (fun_ext (λ s. ap live (sym (put_entry_state (tb.files f) c q e s)))) so.alive)

  -- LAW: a block taken
  pub sound_took : {k' : Counts} (b : ℕ) → b < tb.blocks → tb.bits b ≡ false → suc k'.left ≡ k.left → k'.taken + k'.copies ≡ suc (k.taken + k.copies) → k'.marks ≡ k.marks
      → Sound (took b tb) f k'
  unfolding took put_bit_in put_next_in
  sound_took {k'} b lt un lf tc mk = record {
    header = record { at_least = so.header.at_least; most = so.header.most; next_in = mod-lt (b + 1) so.header.at_least };
    named = so.named;
    bits_past = λ i l. upd_other tb.bits b true i (λ e. omega (arith, lt, l, e)) ∙ so.bits_past i l;
    left_is = (let x = count_less tb.blocks (λ i. not (tb.bits i)) (λ i. not (upd tb.bits b true i)) b lt (ap not un)
        (ap not (upd_same tb.bits b true)) (λ i n. ap not (upd_other tb.bits b true i n)) in omega (arith, so.left_is));
    room = omega (arith, so.room, mk);
    alive = subst (λ m. m + count 8 (λ s. live (tb.files f s).state) ≤ 8) (sym mk) so.alive;
    tree = so.tree;
  }

pub rest_took : (tb : Tables) (f b : ℕ) → rest (took b tb) f ≡ rest tb f
unfolding took put_bit_in put_next_in
rest_took tb f b = refl

pub took_blocks : (tb : Tables) (b : ℕ) → (took b tb).blocks ≡ tb.blocks
unfolding took put_bit_in put_next_in
took_blocks tb b = refl

pub stored_is : (d e : ℕ) → ◌≡◌ {A = Entry ℕ} (stored d) (stored e) → d ≡ e
stored_is d e h = cc

-- ---- a store into tables and pages is a step

-- LAW: the files are x, the rest is as it was: the op that makes that of the work
pub changed_does : {tb₀ tb₁ : Tables} {pg pg₁ : ℕ → PageData} {f : ℕ} {k k₁ : Counts} (tb : Tables) (x : Files ℕ) → rest tb f ≡ rest tb₀ f → tb₁ ≡ put_files f x tb → (op : Work real → Work real)
    → ((h : ℕ → Entry ℕ) → work_of (memory_of tb pg₁) x h k₁ ≡ op (work tb₀ pg f h k)) → Does tb₀ pg tb₁ pg₁ f k k₁ op
changed_does {pg₁} {f} {k₁} tb x same view op e = record {
  same = ap (λ (y : Tables). rest y f) view ∙ rest_files tb f x ∙ same;
  does = λ h. ap (λ (y : Tables). work y pg₁ f h k₁) view ∙ work_files tb f x pg₁ h k₁ ∙ e h;
}

pub changed : {t p t₁ p₁ : List ℕ} {f : ℕ} {k k₁ : Counts} (tb : Tables) (x : Files ℕ) → rest tb f ≡ rest (unpack t) f → unpack t₁ ≡ put_files f x tb
    → Ready t p f k → PackedTables t₁ → length p₁ ≡ length p → Sound (put_files f x tb) f k₁ → (op : Work real → Work real)
    → ((h : ℕ → Entry ℕ) → work_of (memory_of tb (pages_of p₁)) x h k₁ ≡ op (work (unpack t) (pages_of p) f h k)) → Step t p t₁ p₁ f k k₁ op
changed {f} {k₁} tb x same view re pk lp so op e =
    let d = changed_does tb x same view op e in
    record {
      step = d;
      ready = record {
        packed = pk;
        sound = subst (λ (y : Tables). Sound y f k₁) (sym view) so;
        size = lp ∙ re.size ∙ ap (λ (r : Rest). r.blocks * 512) (sym d.same);
        file = re.file;
      };
    }

-- an entry put
module _ {t t₁ : List ℕ} (f c q : ℕ) (e : Entry ℕ) (u : Turns t t₁ (put_entry_in f c q e)) where
  pub entry_view : unpack t₁ ≡ put_files f (put_entry ((unpack t).files f) c q e) (unpack t)
  unfolding put_entry_in
  entry_view = u.view

  pub entered_does : (pg : ℕ → PageData) (k : Counts) → Does (unpack t) pg (unpack t₁) pg f k k (on_files (λ x. put_entry x c q e))
  entered_does pg k = changed_does (unpack t) (put_entry ((unpack t).files f) c q e) refl entry_view (on_files (λ x. put_entry x c q e)) (λ h. refl)

  -- LAW
  pub entered : {p : List ℕ} {k : Counts} → Ready t p f k → ((b : ℕ) → e ≡ stored b → b < (unpack t).blocks) → Step t p t₁ p f k k (on_files (λ x. put_entry x c q e))
  entered re h =
      changed (unpack t) (put_entry ((unpack t).files f) c q e) refl entry_view re u.packed refl (sound_entry (unpack t) f re.sound c q e h)
      (on_files (λ x. put_entry x c q e)) (λ h. refl)

-- LAW: the page in a block changed to v, and the block entered
pub entered_block : {t t₁ p p₁ : List ℕ} {f : ℕ} {k : Counts} (s q b : ℕ) (v : PageData) → Turns t t₁ (put_entry_in f s q (stored b)) → pages_of p₁ ≡ upd (pages_of p) b v → length p₁ ≡ length p
    → Ready t p f k → b < (unpack t).blocks → (tree : Tree) → Step t p t₁ p₁ f k k (enter_as real tree (stored b) s q v)
unfolding enter_as
entered_block {t} {f} {k} s q b v u pv lp re lb tree =
    changed (unpack t) (put_entry ((unpack t).files f) s q (stored b)) refl (entry_view f s q (stored b) u) re u.packed lp
    (sound_entry (unpack t) f re.sound s q (stored b) (λ x e. let z : b ≡ x = stored_is b x e in omega arith)) (enter_as real tree (stored b) s q v)
    (λ h. ap (λ (g : ℕ → PageData). work_of (memory_of (unpack t) g) (put_entry ((unpack t).files f) s q (stored b)) h k) pv)

-- ---- one copy

-- the counts after it
abbrev pub one_copy : Counts → Counts
one_copy k = record { taken = k.taken; copies = k.copies + 1; marks = k.marks; left = k.left - 1 }

module _ {t t₁ t₂ : List ℕ} (p p₁ : List ℕ) (f c q b d : ℕ) (k : Counts) (re : Ready t p f k) (free : 0 < k.left) (tk : Took t t₁ d) (pv : pages_of p₁ ≡ upd (pages_of p) d (pages_of p b))
    (lp : length p₁ ≡ length p) (u : Turns t₁ t₂ (put_entry_in f c q (stored d))) where
  copy_view : unpack t₂ ≡ put_files f (put_entry ((took d (unpack t)).files f) c q (stored d)) (took d (unpack t))
  copy_view = entry_view f c q (stored d) u ∙ ap (λ (y : Tables). put_files f (put_entry (y.files f) c q (stored d)) y) tk.turns.view

  copy_sound : Sound (put_files f (put_entry ((took d (unpack t)).files f) c q (stored d)) (took d (unpack t))) f (one_copy k)
  copy_sound =
      let below : d < (took d (unpack t)).blocks = subst (λ n. d < n) (sym (took_blocks (unpack t) d)) tk.below in
      sound_entry (took d (unpack t)) f
      (sound_took (unpack t) f re.sound d tk.below tk.unused (omega arith) (omega arith) refl)
      c q (stored d) (λ x e. let z : d ≡ x = stored_is d x e in omega arith)

  copy_does : (h : ℕ → Entry ℕ) → work_of (memory_of (took d (unpack t)) (pages_of p₁)) (put_entry ((took d (unpack t)).files f) c q (stored d)) h (one_copy k)
      ≡ copy real (tree_of (unpack t).sets) b c q (work (unpack t) (pages_of p) f h k)
  unfolding copy take_block took put_bit_in put_next_in
  copy_does h =
      let tb = unpack t in
      let pg = pages_of p in
      let first : d ≡ pick (first_free tb.blocks tb.bits tb.next) 0 = sym (ap (λ (o : Option ℕ). pick o 0) tk.first) in
      ap (λ (g : ℕ → PageData). work_of (memory_of (took d tb) g) (put_entry (tb.files f) c q (stored d)) h (one_copy k)) pv
      ∙ (λ i. record {
        memory = record { blocks = tb.blocks; next = (first i + 1) % tb.blocks; bits = upd tb.bits (first i) true; pages = upd pg (first i) (pg b) };
        files = put_entry (tb.files f) c q (stored (first i));
        pending = h;
        taken = k.taken;
        copies = add-one k.copies i;
        marks = k.marks;
      })

  -- LAW: a block is taken, the page is copied to it, and it is entered
  pub copied : Step t p t₂ p₁ f k (one_copy k) (copy real (tree_of (unpack t).sets) b c q)
  copied =
      changed (took d (unpack t)) (put_entry ((took d (unpack t)).files f) c q (stored d)) (rest_took (unpack t) f d) copy_view re u.packed lp copy_sound
      (copy real (tree_of (unpack t).sets) b c q) copy_does

-- ---- a block taken for a page of the writer

module _ {t t₁ : List ℕ} (f d : ℕ) (k : Counts) (tk : Took t t₁ d) where
  -- LAW: the rest is as it was
  pub took_same : rest (unpack t₁) f ≡ rest (unpack t) f
  took_same = ap (λ (y : Tables). rest y f) tk.turns.view ∙ rest_took (unpack t) f d

  -- LAW: the block is pending for page q, as the rule says
  pub took_own : (tree : Tree) (pg : ℕ → PageData) (q : ℕ) (h : ℕ → Entry ℕ) → work (unpack t₁) pg f (upd h q (stored d)) (one_taken k) ≡ take_own real tree q (work (unpack t) pg f h k)
  unfolding take_own take_block took put_bit_in put_next_in
  took_own tree pg q h =
      let tb = unpack t in
      let first : d ≡ pick (first_free tb.blocks tb.bits tb.next) 0 = sym (ap (λ (o : Option ℕ). pick o 0) tk.first) in
      ap (λ (y : Tables). work y pg f (upd h q (stored d)) (one_taken k)) tk.turns.view
      ∙ (λ i. record {
        memory = record { blocks = tb.blocks; next = (first i + 1) % tb.blocks; bits = upd tb.bits (first i) true; pages = pg };
        files = tb.files f;
        pending = upd h q (stored (first i));
        taken = add-one k.taken i;
        copies = k.copies;
        marks = k.marks;
      })

-- ---- a block is free again: what the next steps need of the count of free blocks is not kept

pub released_does : {t t₁ : List ℕ} (f b : ℕ) → Turns t t₁ (put_bit_in b false) → (pg : ℕ → PageData) (k : Counts)
    → Does (unpack t) pg (unpack t₁) pg f k k (λ w. record { memory = real.release w.memory b; files = w.files; pending = w.pending; taken = w.taken; copies = w.copies; marks = w.marks })
unfolding put_bit_in
released_does f b u pg k = record { same = ap (λ (y : Tables). rest y f) u.view; does = λ h. ap (λ (y : Tables). work y pg f h k) u.view }
