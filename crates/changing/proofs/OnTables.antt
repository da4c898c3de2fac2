-- The size changed and pages dropped, on the tables alone, as the rules say. Assumes nothing.
use mathlib.Core.List.{List}
use mathlib.Core.Path.{◌≡◌, ap, refl, subst, sym, ◌∙◌}
use Prim.Native.Nat.{◌+◌, ◌<◌, ℕ}
use Rattle.changing.specs.Tables.{AnyBlockIn, OnTables}
use Rattle.copying.proofs.Chains.{pages_more, pages_out, up_pages}
use Rattle.copying.proofs.Kept.{changed_does, entered_does, put_entry_all, released_does}
use Rattle.copying.proofs.Steps.{does_as, does_then}
use Rattle.copying.specs.Work.{Does, Rest, counts_new, on_files, rest, work}
use Rattle.copying.specs.declared.giving.Counts.{Counts}
use Rattle.rules.proofs.Blocks.GoodWork.{not_stored}
use Rattle.rules.specs.Rules.{Work, drop_page, free_entry, put_entry, resize}
use Rattle.rules.specs.State.{Entry, Files, SetRecord, Tables, Tree, hole, own, stored, tree_of, unmapped}
use Rattle.rules.specs.Storage.{PageData, real}
use Rattle.setchanges.specs.Changes.{block_in, freed_entry_in}
use Rattle.tables.specs.Packed.{unpack}
use Rattle.tables.specs.Views.{PackedTables, Turns, put_entry_in, put_files, put_head, put_head_in}

-- ---- the size

module _ {t t₁ : List ℕ} (f s n : ℕ) (u : Turns t t₁ (put_head_in f s own n)) where
  head_view : unpack t₁ ≡ put_files f (put_head ((unpack t).files f) s own n) (unpack t)
  unfolding put_head_in
  head_view = u.view

  resized_does : (tree : Tree) (pg : ℕ → PageData) (k : Counts) → Does (unpack t) pg (unpack t₁) pg f k k (resize real tree s n)
  unfolding resize put_head
  resized_does tree pg k = changed_does (unpack t) (put_head ((unpack t).files f) s own n) refl head_view (resize real tree s n) (λ h. refl)

  -- LAW: whatever the pages and the counts
  pub resized : (tree : Tree) → OnTables t t₁ f (resize real tree s n)
  resized tree = record { does = resized_does tree; packed = u.packed }

-- ---- a page dropped

abbrev freed : Entry ℕ → Work real → Work real
freed e w = record { memory = free_entry real e w.memory; files = w.files; pending = w.pending; taken = w.taken; copies = w.copies; marks = w.marks }

-- the tables as they were
same_does : {tb tb₁ : Tables} (f : ℕ) → tb₁ ≡ tb → (pg : ℕ → PageData) (k : Counts) → Does tb pg tb₁ pg f k k (λ w. w)
same_does f e pg k = record { same = ap (λ (y : Tables). rest y f) e; does = λ h. ap (λ (y : Tables). work y pg f h k) e }

freed_does : {t t₁ : List ℕ} (f : ℕ) (e : Entry ℕ) → Turns t t₁ (freed_entry_in e) → (pg : ℕ → PageData) (k : Counts) → Does (unpack t) pg (unpack t₁) pg f k k (freed e)
unfolding freed_entry_in free_entry
freed_does f unmapped u pg k = same_does f u.view pg k
freed_does f hole u pg k = same_does f u.view pg k
freed_does f (stored b) u pg k = released_does f b (record { view = u.view; packed = u.packed }) pg k

module _ {t t₁ t₂ : List ℕ} (f s q : ℕ) (e : Entry ℕ) (ee : e ≡ ((unpack t).files f s).map q) (u : Turns t t₁ (freed_entry_in e)) (v : Turns t₁ t₂ (put_entry_in f s q hole)) where
  dropped_does : (tree : Tree) (pg : ℕ → PageData) (k : Counts) → Does (unpack t) pg (unpack t₂) pg f k k (drop_page real tree s q)
  unfolding drop_page
  dropped_does tree pg k =
      does_as (drop_page real tree s q)
      (λ h. ap (λ (x : Entry ℕ). on_files (λ (y : Files ℕ). put_entry y s q hole) (freed x (work (unpack t) pg f h k))) ee)
      (does_then (freed_does f e u pg k) (entered_does f s q hole v pg k))

  -- LAW: whatever the pages and the counts
  pub dropped : (tree : Tree) → OnTables t t₂ f (drop_page real tree s q)
  dropped tree = record { does = dropped_does tree; packed = v.packed }

  dropped_files : (unpack t₂).files f ≡ put_entry ((unpack t).files f) s q hole
  unfolding drop_page
  dropped_files = ap (λ (w : Work real). w.files) ((dropped_does (tree_of (unpack t).sets) (λ b i. 0) (counts_new 0)).does (λ p. unmapped))

  -- LAW: the maps name blocks of the bitmap
  pub dropped_in : AnyBlockIn f (unpack t) → AnyBlockIn f (unpack t₂)
  dropped_in h =
      subst (λ (x : Files ℕ). (s p b : ℕ) → (x s).map p ≡ stored b → b < 4096) (sym dropped_files)
      (put_entry_all (λ y. (b : ℕ) → y ≡ stored b → b < 4096) ((unpack t).files f) s q hole (λ b x. absurd (not_stored hole b refl x)) h)

-- the block of an entry of the maps
pub entry_in : (f s q : ℕ) (tb : Tables) (e : Entry ℕ) → AnyBlockIn f tb → e ≡ (tb.files f s).map q → block_in e
entry_in f s q tb unmapped h ee = tt
entry_in f s q tb hole h ee = tt
entry_in f s q tb (stored b) h ee = h s q b (sym ee)

-- ---- page after page

abbrev pub dropping : ℕ → (ℕ → SetRecord) → ℕ → Work real → Work real
dropping s sets = drop_page real (tree_of sets) s

-- in the loop: op of the whole is what is done, which made t of t₀, and then todo
pub record Dropping (t₀ t : List ℕ) (f : ℕ) (op todo : Work real → Work real) : Type 0 where
  pub same : rest (unpack t) f ≡ rest (unpack t₀) f
  pub whole : (pg : ℕ → PageData) (k : Counts) (h : ℕ → Entry ℕ) → op (work (unpack t₀) pg f h k) ≡ todo (work (unpack t) pg f h k)
  pub packed : PackedTables t
  pub blocks_in : AnyBlockIn f (unpack t)

pub dropping_start : {t : List ℕ} {f : ℕ} (op : Work real → Work real) → PackedTables t → AnyBlockIn f (unpack t) → Dropping t t f op op
dropping_start op pk bl = record { same = refl; whole = λ pg k h. refl; packed = pk; blocks_in = bl }

pub dropping_turn : {t₀ t t' : List ℕ} {f : ℕ} {op : Work real → Work real} (s q n m x : ℕ) → Dropping t₀ t f op (up_pages (dropping s) (unpack t₀).sets q n) → n ≡ m + 1 → x ≡ q
    → OnTables t t' f (drop_page real (tree_of (unpack t).sets) s x) → AnyBlockIn f (unpack t') → Dropping t₀ t' f op (up_pages (dropping s) (unpack t₀).sets (q + 1) m)
dropping_turn {t₀} {t} {t'} {f} s q n m x a h e o bl =
    let sets₀ = (unpack t₀).sets in
    let ss : (unpack t).sets ≡ sets₀ = ap (λ (r : Rest). r.sets) a.same in
    record {
      same = (o.does (λ b i. 0) (counts_new 0)).same ∙ a.same;
      whole = λ pg k g.
          let w = work (unpack t) pg f g k in
          a.whole pg k g ∙ pages_more (dropping s) sets₀ n m q h w
          ∙ ap (up_pages (dropping s) sets₀ (q + 1) m)
          (ap (λ (y : ℕ → SetRecord). drop_page real (tree_of y) s q w) (sym ss) ∙ ap (λ y. drop_page real (tree_of (unpack t).sets) s y w) (sym e) ∙ sym ((o.does pg k).does g));
      packed = o.packed;
      blocks_in = bl;
    }

pub dropping_done : {t₀ t : List ℕ} {f : ℕ} {op : Work real → Work real} (s q n : ℕ) → Dropping t₀ t f op (up_pages (dropping s) (unpack t₀).sets q n) → n ≡ 0 → OnTables t₀ t f op
dropping_done {t₀} {t} {f} s q n a e = record {
  does = λ pg k. record { same = a.same; does = λ h. sym (a.whole pg k h ∙ pages_out (dropping s) (unpack t₀).sets n q e (work (unpack t) pg f h k)) };
  packed = a.packed;
}
