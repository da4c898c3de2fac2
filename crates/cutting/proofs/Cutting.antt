-- The steps of a truncate one after another are its rule. Assumes nothing.
use mathlib.Core.Bool.{Bool, cond, false, not, true}
use mathlib.Core.List.{List, []}
use mathlib.Core.Path.{ap, refl, subst, sym, ◌∙◌, ◌≡◌}
use Prim.Native.Nat.{◌%◌, ◌+◌, ◌-◌, ◌/◌, ◌<◌, suc, ℕ, ◌≤◌}
use native.Mathlib.Numerals.{add-one}
use native.Mathlib.Omega.{arith}
use lib.Dec.{eqb, ltb}
use lib.ListN.{length}
use borrow.Author.Tests.{eq-eqb, le-ltb, lt-ltb, ne_eqb}
use Rattle.base.specs.Count.{count}
use Rattle.changing.proofs.Whole.{Did, both_did, did_step, did_tables, did_then, settle_both}
use Rattle.changing.specs.Tables.{OnTables}
use Rattle.changing.specs.Whole.{Changed, ChangedAlone, start_counts, totals_of}
use Rattle.copying.proofs.Begin.{ready_begin}
use Rattle.copying.specs.Changes.{settled}
use Rattle.copying.specs.Work.{Alone, Ready, Step, counts_new, give_both, settle_children, work}
use Rattle.entering.specs.Pending.{Reserves, StepAt}
use Rattle.rules.proofs.Formed.Shape.{size_most}
use Rattle.rules.specs.Reading.{resolve, size_by_reading}
use Rattle.rules.specs.Rules.{Work, change, copied, cut_pages, drop_page, dropped_pages, each, enter, from, give_all, handed, kept_pages, own_need, part_pages, reserve, resize, settle, truncate_as, truncate_file, truncate_need}
use Rattle.rules.specs.State.{Entry, Files, Tree, is_stored, tree_of, unmapped}
use Rattle.rules.specs.Storage.{PageData, real, zero_from}
use Rattle.tables.proofs.FormedStore.{formed_store}
use Rattle.tables.proofs.Pending.{none_pending_law}
use Rattle.tables.specs.Calls.{pages_of}
use Rattle.tables.specs.Packed.{unpack, well_formed}
use Rattle.tables.specs.Views.{PackedTables, Turns, none_pending, pending_of}
use Rattle.changing.specs.declared.Totals.{Totals}
use Rattle.copying.specs.declared.giving.Counts.{Counts}
use Rattle.tables.specs.declared.entries.Pending.{Pending}

-- ---- above the size

module _ {t t₁ t₂ t₃ : List ℕ} {f : ℕ} (s n : ℕ) (a : Turns t t₁ (settled f s)) (b : Alone t₁ t₂ f (settle_children (unpack t₁).sets s))
    (g : OnTables t₂ t₃ f (resize real (tree_of (unpack t₂).sets) s n)) where
  -- LAW
  pub grown : ChangedAlone t t₃ f (change real (tree_of (unpack t).sets) s [] [] [] [] (λ q v. v) (λ m. n))
  unfolding change each give_all
  grown p k re =
      let h : ℕ → Entry ℕ = λ q. unmapped in
      let x = did_then (λ S. resize real (tree_of S) s n) (both_did s re a b h) (did_tables p h k g) in
      record { pending = h; same = x.same; does = x.does; packed = g.packed }

-- ---- below it, where no page stays stored

module _ {t p t₁ t₂ t₃ p₃ t₄ t₅ : List ℕ} {f : ℕ} {k k₁ : Counts} (s q m d n : ℕ) (re : Ready t p f k) (a : Turns t t₁ (settled f s)) (b : Alone t₁ t₂ f (settle_children (unpack t₁).sets s))
    (c : Step t₂ p t₃ p₃ f k k₁ (give_both (unpack t₂).sets s (from q m) (from (q + m) d))) (e : OnTables t₃ t₄ f (each (drop_page real (tree_of (unpack t₃).sets) s) (from (q + m) d)))
    (g : OnTables t₄ t₅ f (resize real (tree_of (unpack t₄).sets) s n)) where
  away : Did t p (λ q. unmapped) t₅ p₃ (λ q. unmapped) f k k₁
      (λ w. resize real (tree_of (unpack t).sets) s n (each (drop_page real (tree_of (unpack t).sets) s) (from (q + m) d) (give_both (unpack t).sets s (from q m) (from (q + m) d) (settle_both s (unpack t).sets w))))
  away =
      let h : ℕ → Entry ℕ = λ q. unmapped in
      did_then (λ S. resize real (tree_of S) s n)
      (did_then (λ S. each (drop_page real (tree_of S) s) (from (q + m) d))
      (did_then (λ S. give_both S s (from q m) (from (q + m) d)) (both_did s re a b h) (did_step h c)) (did_tables p₃ h k₁ e)) (did_tables p₃ h k₁ g)

  is_away : (tree : Tree) (w : Work real)
      → resize real tree s n (each (drop_page real tree s) (from (q + m) d) (give_all real tree handed s (from (q + m) d) (give_all real tree copied s (from q m) (each (settle real tree) (tree.children s) (settle real tree s w))))) ≡ change real tree s (from q m) [] (from (q + m) d) [] (λ i. zero_from (n % 512)) (λ i. n) w
  unfolding change each give_all
  is_away tree w = refl

  -- LAW
  pub cut_away : Changed t p t₅ p₃ f k (totals_of k₁) (change real (tree_of (unpack t).sets) s (from q m) [] (from (q + m) d) [] (λ i. zero_from (n % 512)) (λ i. n))
  cut_away = record {
    pending = λ q. unmapped;
    same = away.same;
    does = away.does ∙ is_away (tree_of (unpack t).sets) (work (unpack t) (pages_of p) f (λ q. unmapped) k);
    packed = g.packed;
  }

-- ---- where the page of the new size stays stored

module _ {t p t₁ t₂ t₃ t₄ p₄ t₅ p₅ t₆ t₇ : List ℕ} {l₀ l : List Pending} {f : ℕ} {k k₁ k₂ : Counts} (s q d n x : ℕ) (lay : ℕ → PageData → PageData) (el : l₀ ≡ none_pending) (ex : x ≡ q) (re : Ready t p f k)
    (a : Turns t t₁ (settled f s)) (b : Alone t₁ t₂ f (settle_children (unpack t₁).sets s)) (c : Reserves t₂ t₃ l₀ l f k k₁ (each (reserve real (tree_of (unpack t₂).sets) s) (from q 1)))
    (g : Step t₃ p t₄ p₄ f k₁ k₂ (give_both (unpack t₃).sets s (from q 1) (from (q + 1) d))) (e : StepAt (pending_of l) t₄ p₄ t₅ p₅ f k₂ (enter real (tree_of (unpack t₄).sets) s lay x))
    (o : OnTables t₅ t₆ f (each (drop_page real (tree_of (unpack t₅).sets) s) (from (q + 1) d))) (z : OnTables t₆ t₇ f (resize real (tree_of (unpack t₆).sets) s n)) where
  kept : Did t p (pending_of l₀) t₇ p₅ (pending_of l) f k k₂
      (λ w. resize real (tree_of (unpack t).sets) s n (each (drop_page real (tree_of (unpack t).sets) s) (from (q + 1) d) (enter real (tree_of (unpack t).sets) s lay x
      (give_both (unpack t).sets s (from q 1) (from (q + 1) d) (each (reserve real (tree_of (unpack t).sets) s) (from q 1) (settle_both s (unpack t).sets w))))))
  kept =
      did_then (λ S. resize real (tree_of S) s n)
      (did_then (λ S. each (drop_page real (tree_of S) s) (from (q + 1) d))
      (did_then (λ S. enter real (tree_of S) s lay x)
      (did_then (λ S. give_both S s (from q 1) (from (q + 1) d))
      (did_then (λ S. each (reserve real (tree_of S) s) (from q 1)) (both_did s re a b (pending_of l₀)) (record { same = c.same; does = c.does (pages_of p) })) (did_step (pending_of l) g))
      (record { same = e.same; does = e.does })) (did_tables p₅ (pending_of l) k₂ o)) (did_tables p₅ (pending_of l) k₂ z)

  is_kept : (tree : Tree) (w : Work real)
      → resize real tree s n (each (drop_page real tree s) (from (q + 1) d) (enter real tree s lay q (give_all real tree handed s (from (q + 1) d) (give_all real tree copied s (from q 1) (each (reserve real tree s) (from q 1) (each (settle real tree) (tree.children s) (settle real tree s w)))))))
      ≡ change real tree s (from q 1) (from q 1) (from (q + 1) d) [] lay (λ i. n) w
  unfolding change each from give_all
  is_kept tree w = refl

  -- LAW
  pub cut_kept : Changed t p t₇ p₅ f k (totals_of k₂) (change real (tree_of (unpack t).sets) s (from q 1) (from q 1) (from (q + 1) d) [] lay (λ i. n))
  cut_kept =
      let tree = tree_of (unpack t).sets in
      record {
        pending = pending_of l;
        same = kept.same;
        does =
            kept.does
            ∙ ap (λ y. resize real tree s n (each (drop_page real tree s) (from (q + 1) d) (enter real tree s lay y
            (give_both (unpack t).sets s (from q 1) (from (q + 1) d) (each (reserve real tree s) (from q 1) (settle_both s (unpack t).sets (work (unpack t) (pages_of p) f (pending_of l₀) k))))))) ex
            ∙ is_kept tree (work (unpack t) (pages_of p) f (pending_of l₀) k)
            ∙ ap (λ (h : ℕ → Entry ℕ). change real tree s (from q 1) (from q 1) (from (q + 1) d) [] lay (λ i. n) (work (unpack t) (pages_of p) f h k)) (ap pending_of el ∙ none_pending_law);
        packed = z.packed;
      }

-- ---- which pages

module _ (n z : ℕ) where
  part_even : n % 512 ≡ 0 → part_pages n ≡ from (n / 512) 0
  unfolding part_pages from
  part_even h = rw (eq-eqb (n % 512) 0 h)

  part_odd : (n % 512 ≡ 0 → ⊥) → part_pages n ≡ from (n / 512) 1
  unfolding part_pages from
  part_odd h = rw (ne_eqb (n % 512) 0 h)

  kept_even : (e : Entry ℕ) → n % 512 ≡ 0 → kept_pages n e ≡ []
  unfolding kept_pages
  kept_even e h = rw (eq-eqb (n % 512) 0 h)

  dropped_even : n % 512 ≡ 0 → dropped_pages n z ≡ from (n / 512 + 0) ((z - 1) / 512 - n / 512 + 1)
  unfolding dropped_pages cut_pages
  dropped_even h =
      let x : n / 512 + 0 ≡ n / 512 = omega arith in
      rw (eq-eqb (n % 512) 0 h) (ap (from (n / 512)) (sym (add-one ((z - 1) / 512 - n / 512))) ∙ ap (λ i. from i ((z - 1) / 512 - n / 512 + 1)) (sym x))

  dropped_odd : (n % 512 ≡ 0 → ⊥) → dropped_pages n z ≡ from (n / 512 + 1) ((z - 1) / 512 - n / 512 + 1 - 1)
  unfolding dropped_pages
  dropped_odd h =
      let x : (z - 1) / 512 - n / 512 + 1 - 1 ≡ (z - 1) / 512 - n / 512 = omega arith in
      rw (ne_eqb (n % 512) 0 h) (ap (from (suc (n / 512))) (sym x) ∙ ap (λ i. from i ((z - 1) / 512 - n / 512 + 1 - 1)) (sym (add-one (n / 512))))

  kept_hole : (e : Entry ℕ) → (n % 512 ≡ 0 → ⊥) → is_stored e ≡ false → kept_pages n e ≡ []
  unfolding kept_pages
  kept_hole e h u = rw (ne_eqb (n % 512) 0 h, u)

  pub kept_stored : (e : Entry ℕ) → (n % 512 ≡ 0 → ⊥) → is_stored e ≡ true → kept_pages n e ≡ from (n / 512) 1
  unfolding kept_pages from
  kept_stored e h u = rw (ne_eqb (n % 512) 0 h, u)

-- other lists of pages, the same
pub changed_pages : {t p t' p' : List ℕ} {f : ℕ} {k : Counts} {r : Totals} (s n : ℕ) (lay : ℕ → PageData → PageData) (ps ps' rs rs' ds ds' : List ℕ) → ps' ≡ ps → rs' ≡ rs → ds' ≡ ds
    → Changed t p t' p' f k r (change real (tree_of (unpack t).sets) s ps rs ds [] lay (λ i. n)) → Changed t p t' p' f k r (change real (tree_of (unpack t).sets) s ps' rs' ds' [] lay (λ i. n))
changed_pages {t} {p} {t'} {p'} {f} {k} s n lay ps ps' rs rs' ds ds' e₁ e₂ e₃ c =
    let tree = tree_of (unpack t).sets in
    let w = work (unpack t) (pages_of p) f (λ q. unmapped) k in
    record {
      pending = c.pending;
      same = c.same;
      does =
          c.does ∙ ap (λ (y : List ℕ). change real tree s y rs ds [] lay (λ i. n) w) (sym e₁) ∙ ap (λ (y : List ℕ). change real tree s ps' y ds [] lay (λ i. n) w) (sym e₂)
          ∙ ap (λ (y : List ℕ). change real tree s ps' rs' y [] lay (λ i. n) w) (sym e₃);
      packed = c.packed;
    }

abbrev cut_lay : ℕ → ℕ → PageData → PageData
cut_lay n q = zero_from (n % 512)

abbrev all_pages : ℕ → ℕ → List ℕ
all_pages n z = from (n / 512 + 0) ((z - 1) / 512 - n / 512 + 1)

abbrev later_pages : ℕ → ℕ → List ℕ
later_pages n z = from (n / 512 + 1) ((z - 1) / 512 - n / 512 + 1 - 1)

module _ {t p t' p' : List ℕ} {f : ℕ} {k : Counts} {r : Totals} (s n z : ℕ) (e : Entry ℕ) where
  -- LAWS: the three ways
  pub cut_even : n % 512 ≡ 0 → Changed t p t' p' f k r (change real (tree_of (unpack t).sets) s (from (n / 512) 0) [] (all_pages n z) [] (cut_lay n) (λ i. n))
      → Changed t p t' p' f k r (change real (tree_of (unpack t).sets) s (part_pages n) (kept_pages n e) (dropped_pages n z) [] (cut_lay n) (λ i. n))
  cut_even h c = changed_pages s n (cut_lay n) _ _ _ _ _ _ (part_even n z h) (kept_even n z e h) (dropped_even n z h) c

  pub cut_hole : (n % 512 ≡ 0 → ⊥) → is_stored e ≡ false → Changed t p t' p' f k r (change real (tree_of (unpack t).sets) s (from (n / 512) 1) [] (later_pages n z) [] (cut_lay n) (λ i. n))
      → Changed t p t' p' f k r (change real (tree_of (unpack t).sets) s (part_pages n) (kept_pages n e) (dropped_pages n z) [] (cut_lay n) (λ i. n))
  cut_hole h u c = changed_pages s n (cut_lay n) _ _ _ _ _ _ (part_odd n z h) (kept_hole n z e h u) (dropped_odd n z h) c

  pub cut_stored : (n % 512 ≡ 0 → ⊥) → is_stored e ≡ true → Changed t p t' p' f k r (change real (tree_of (unpack t).sets) s (from (n / 512) 1) (from (n / 512) 1) (later_pages n z) [] (cut_lay n) (λ i. n))
      → Changed t p t' p' f k r (change real (tree_of (unpack t).sets) s (part_pages n) (kept_pages n e) (dropped_pages n z) [] (cut_lay n) (λ i. n))
  cut_stored h u c = changed_pages s n (cut_lay n) _ _ _ _ _ _ (part_odd n z h) (kept_stored n z e h u) (dropped_odd n z h) c

-- ---- the rule of truncate

-- a change of the tables alone, from well-formed tables on, whatever the count of free blocks
pub alone_begun : {t' : List ℕ} {f : ℕ} {op : Work real → Work real} (t p : List ℕ) → well_formed t (length p) ≡ true → f < 16 → ChangedAlone t t' f op → Changed t p t' p f start_counts (totals_of start_counts) op
alone_begun {t'} {f} t p formed h g =
    let n = count (unpack t).blocks (λ b. not ((unpack t).bits b)) in
    let c = g p (counts_new n) (ready_begin t p formed f n (counts_new n) h refl refl) in
    record { pending = c.pending; same = c.same; does = c.does; packed = c.packed }

module _ (t p : List ℕ) (f s n z : ℕ) (ez : z ≡ size_by_reading (tree_of (unpack t).sets) ((unpack t).files f) s) where
  as_size : truncate_as real (tree_of (unpack t).sets) (eqb n z) (ltb z n) s n z (work (unpack t) (pages_of p) f (λ q. unmapped) start_counts) ≡ truncate_file real (tree_of (unpack t).sets) s n (work (unpack t) (pages_of p) f (λ q. unmapped) start_counts)
  unfolding truncate_file
  as_size = ap (λ y. truncate_as real (tree_of (unpack t).sets) (eqb n y) (ltb y n) s n y (work (unpack t) (pages_of p) f (λ q. unmapped) start_counts)) ez

  -- LAW: at the size
  pub truncate_same : PackedTables t → n ≡ z → Changed t p t p f start_counts (totals_of start_counts) (truncate_file real (tree_of (unpack t).sets) s n)
  unfolding truncate_as
  truncate_same pk h = record { pending = λ q. unmapped; same = refl; does = (rw (eq-eqb n z h)) ∙ as_size; packed = pk }

  -- LAW: above it
  pub truncate_above : {t' : List ℕ} → (n ≡ z → ⊥) → z < n → Changed t p t' p f start_counts (totals_of start_counts) (change real (tree_of (unpack t).sets) s [] [] [] [] (λ q v. v) (λ m. n)) → Changed t p t' p f start_counts (totals_of start_counts) (truncate_file real (tree_of (unpack t).sets) s n)
  unfolding truncate_as
  truncate_above h l c = record { pending = c.pending; same = c.same; does = c.does ∙ (rw (ne_eqb n z h, lt-ltb z n l)) ∙ as_size; packed = c.packed }

  -- LAW: below it
  pub truncate_below : {t' p' : List ℕ} {r : Totals} → (n ≡ z → ⊥) → n ≤ z
      → Changed t p t' p' f start_counts r (change real (tree_of (unpack t).sets) s (part_pages n) (kept_pages n (resolve (tree_of (unpack t).sets) ((unpack t).files f) s (n / 512))) (dropped_pages n z) [] (λ q. zero_from (n % 512)) (λ i. n))
      → Changed t p t' p' f start_counts r (truncate_file real (tree_of (unpack t).sets) s n)
  unfolding truncate_as
  truncate_below h l c = record { pending = c.pending; same = c.same; does = c.does ∙ (rw (ne_eqb n z h, le-ltb z n l)) ∙ as_size; packed = c.packed }

-- the own need below the size
pub need_below : (t : List ℕ) (f s n z left : ℕ) (k : Counts) → k ≡ counts_new left → z ≡ size_by_reading (tree_of (unpack t).sets) ((unpack t).files f) s → n < z → left ≡ count (unpack t).blocks (λ b. not ((unpack t).bits b))
    → truncate_need real (tree_of (unpack t).sets) s n ((unpack t).files f) ≤ count (unpack t).blocks (λ b. not ((unpack t).bits b))
    → own_need real s (kept_pages n (resolve (tree_of (unpack t).sets) ((unpack t).files f) s (n / 512))) ((unpack t).files f) ≤ k.left
unfolding truncate_need
need_below t f s n z left k ek ez l el h =
    let x : ltb n (size_by_reading (tree_of (unpack t).sets) ((unpack t).files f) s) ≡ true = ap (ltb n) (sym ez) ∙ lt-ltb n z l in
    subst (λ i. own_need real s (kept_pages n (resolve (tree_of (unpack t).sets) ((unpack t).files f) s (n / 512))) ((unpack t).files f) ≤ i) (sym (ap (λ (y : Counts). y.left) ek ∙ el))
    (subst (λ (b : Bool). cond b (own_need real s (kept_pages n (resolve (tree_of (unpack t).sets) ((unpack t).files f) s (n / 512))) ((unpack t).files f)) 0 ≤ count (unpack t).blocks (λ b. not ((unpack t).bits b))) x h)

pub size_in_law : (t p : List ℕ) → well_formed t (length p) ≡ true → (f s z : ℕ) → z ≡ size_by_reading (tree_of (unpack t).sets) ((unpack t).files f) s → z ≤ 32768
size_in_law t p h f s z e = let x = size_most (tree_of (unpack t).sets) ((unpack t).files f) ((formed_store t p h).files_ok f).shape s in omega arith

-- the own need of the page that stays
pub need_kept : (t : List ℕ) (f s n left : ℕ) (e : Entry ℕ) → kept_pages n e ≡ from (n / 512) 1 → own_need real s (kept_pages n e) ((unpack t).files f) ≤ left → own_need real s (from (n / 512) 1) ((unpack t).files f) ≤ left
need_kept t f s n left e x h = subst (λ (ps : List ℕ). own_need real s ps ((unpack t).files f) ≤ left) x h

-- what the code has seen of the page of the new size
pub at_page_law : (tree : Tree) (files : Files ℕ) (s q x : ℕ) (e : Entry ℕ) (r v : Bool) → x ≡ q → e ≡ resolve tree files s x → r ≡ is_stored e → r ≡ v → is_stored (resolve tree files s q) ≡ v
at_page_law tree files s q x e r v ex ee er ev = ap (λ y. is_stored (resolve tree files s y)) (sym ex) ∙ ap is_stored (sym ee) ∙ sym er ∙ ev
