-- The truncate over the model agrees with the plain store. Assumes nothing.
use mathlib.Core.Bool.{◌&&◌, Bool, cond, false, not, true, true≢false}
use mathlib.Core.List.{List, Memᴰ, ◌∷◌, []}
use mathlib.Core.Logic.{⊎_elim}
use mathlib.Core.Option.{Option, some}
use mathlib.Core.Path.{ap, refl, subst, sym, ◌∙◌, ◌≡◌}
use Prim.Native.Nat.{◌%◌, ◌*◌, ◌-◌, ◌/◌, ◌<◌, suc, ℕ, ◌≤◌}
use native.Mathlib.Omega.{arith}
use lib.Dec.{eqb, ltb}
use lib.ListN.{get_or-append, get_or-eq_default, get_or, get_or-replicate, length, length-append, length-replicate, length-take, take}
use lib.Seq.{get_or-take}
use borrow.Author.Tests.{eqb-false, eqb-true, le-ltb, lt-ltb, ltb-false, ltb-true, ne_eqb}
use Rattle.base.specs.Logic.{same?, test?}
use Rattle.base.specs.Update.{upd}
use Rattle.rules.proofs.Agreement.Agree.{Agree, agree_one, at_add, from_high, from_low, from_mem}
use Rattle.rules.proofs.Agreement.Change.{Changed, changed}
use Rattle.rules.proofs.Steps.Handing.{ProperTree}
use Rattle.rules.proofs.Steps.OneStep.{Alive, FilesOk}
use Rattle.rules.proofs.Steps.States.{live_present}
use Rattle.rules.proofs.Steps.WriterSteps.{NoDup, bytes, mem?}
use Rattle.rules.proofs.Storages.Model.{model}
use Rattle.rules.specs.Plain.{cut_or_fill}
use Rattle.rules.specs.Reading.{resolve}
use Rattle.rules.specs.Rules.{Work, change, cut_pages, dropped_pages, from, kept_pages, part_pages}
use Rattle.rules.specs.State.{Entry, Files, Tree, hole, is_stored, stored, unmapped}
use Rattle.rules.specs.Storage.{PageData, zero_from}

length_sized : (l : List ℕ) (n : ℕ) → length (cut_or_fill l n) ≡ n
unfolding cut_or_fill
length_sized l n = simp (length-append, length-take, length-replicate) (omega arith)

sized_below : (l : List ℕ) (n i : ℕ) → i < n → get_or (cut_or_fill l n) i 0 ≡ get_or l i 0
unfolding cut_or_fill
sized_below l n i h =
    test? (ltb i (length l))
    (λ e. let k = ltb-true i (length l) e in get_or-append (take n l) _ 0 i (simp length-take (omega arith)) ∙ get_or-take n l i 0 h)
    (λ e. let k = ltb-false i (length l) e in
    at_add (take n l) _ (i - length l) i (simp length-take (omega arith)) ∙ get_or-replicate (n - length l) (i - length l) 0 0 (omega arith) ∙ sym (get_or-eq_default l 0 k))

sized_at : (l : List ℕ) (n i : ℕ) → get_or (cut_or_fill l n) i 0 ≡ cond (ltb i n) (get_or l i 0) 0
sized_at l n i =
    test? (ltb i n)
    (λ e. rw e (sized_below l n i (ltb-true i n e)))
    (λ e. let h = ltb-false i n e in rw e (get_or-eq_default (cut_or_fill l n) 0 (omega (arith, length_sized l n))))

-- which pages
kept_is : {K : Type 0} (n p : ℕ) (e : Entry K) → Memᴰ p (kept_pages n e) → (p ≡ n / 512) × (n % 512 ≡ 0 → ⊥)
unfolding kept_pages
kept_is n p e m =
    test? (eqb (n % 512) 0)
    (λ z. let q : Memᴰ p [] = rw z at m in elim q [ ])
    (λ z. (go (is_stored e) (rw z at m), eqb-false (n % 512) 0 z))
  where
    go : (b : Bool) → Memᴰ p (cond b (n / 512 ∷ []) []) → p ≡ n / 512
    go true m = ⊎_elim (λ q. q) (λ m. elim m [ ]) (mathlib.Core.List.Memᴰ.cases_cons m)
    go false m = elim m [ ]

kept_not : {K : Type 0} (n : ℕ) (e : Entry K) → (Memᴰ (n / 512) (kept_pages n e) → ⊥) → (n % 512 ≡ 0 → ⊥) → is_stored e ≡ false
unfolding kept_pages
kept_not n e h z = test? (is_stored e) (λ s. absurd (h (rw (ne_eqb (n % 512) 0 z, s) (mathlib.Core.List.Memᴰ.head refl)))) (λ s. s)

dropped_low : (n z p : ℕ) → Memᴰ p (dropped_pages n z) → n ≤ p * 512
unfolding dropped_pages cut_pages
dropped_low n z p m =
    test? (eqb (n % 512) 0)
    (λ e. let h = eqb-true (n % 512) 0 e in let l = from_low (n / 512) _ p (rw e at m) in omega arith)
    (λ e. let l = from_low (suc (n / 512)) _ p (rw e at m) in omega arith)

pub dropped_in : (n z p : ℕ) → Memᴰ p (dropped_pages n z) → Memᴰ p (cut_pages n z)
unfolding dropped_pages cut_pages
dropped_in n z p m =
    test? (eqb (n % 512) 0) (λ e. rw e at m)
    (λ e. let m' : Memᴰ p (from (suc (n / 512)) ((z - 1) / 512 - n / 512)) = rw e at m in
    let l = from_low (suc (n / 512)) _ p m' in let h = from_high (suc (n / 512)) _ p m' in from_mem (n / 512) _ p (omega arith) (omega arith))

dropped_not : (n z p : ℕ) → (Memᴰ p (dropped_pages n z) → ⊥) → n / 512 ≤ p → p ≤ (z - 1) / 512 → (p ≡ n / 512) × (n % 512 ≡ 0 → ⊥)
unfolding dropped_pages cut_pages
dropped_not n z p o l h =
    test? (eqb (n % 512) 0)
    (λ e. absurd (o (rw e (from_mem (n / 512) _ p l (omega arith)))))
    (λ e. (same? p (n / 512) (λ q. q) (λ q. absurd (o (rw e (from_mem (suc (n / 512)) _ p (omega arith) (omega arith))))), eqb-false (n % 512) 0 e))

pub kept_in : {K : Type 0} (n z : ℕ) (e : Entry K) (p : ℕ) → Memᴰ p (kept_pages n e) → Memᴰ p (cut_pages n z)
unfolding cut_pages
kept_in n z e p m = let q = (kept_is n p e m).0 in from_mem (n / 512) _ p (omega arith) (omega arith)

pub kept_part : {K : Type 0} (n : ℕ) (e : Entry K) (p : ℕ) → Memᴰ p (kept_pages n e) → Memᴰ p (part_pages n)
unfolding part_pages
kept_part n e p m = let q = kept_is n p e m in rw (ne_eqb (n % 512) 0 q.1) (mathlib.Core.List.Memᴰ.head q.0)

pub part_in : (n z p : ℕ) → Memᴰ p (part_pages n) → Memᴰ p (cut_pages n z)
unfolding part_pages cut_pages
part_in n z p m = test? (eqb (n % 512) 0) (λ e. let q : Memᴰ p [] = rw e at m in elim q [ ])
    (λ e. let q : Memᴰ p (n / 512 ∷ []) = rw e at m in ⊎_elim (λ i. from_mem (n / 512) _ p (omega arith) (omega arith)) (λ i. elim i [ ]) (mathlib.Core.List.Memᴰ.cases_cons q))

pub dropped_under : (n z p : ℕ) → z ≤ 32768 → n < z → Memᴰ p (dropped_pages n z) → p < 64
unfolding cut_pages
dropped_under n z p h l m = let k = from_high (n / 512) _ p (dropped_in n z p m) in omega arith

pub apart : {K : Type 0} (n z : ℕ) (e : Entry K) (p : ℕ) → Memᴰ p (dropped_pages n z) → Memᴰ p (kept_pages n e) → ⊥
apart n z e p d m = let l = dropped_low n z p d in let q = kept_is n p e m in kept_odd n p q.0 q.1 l
  where
    kept_odd : (n p : ℕ) → p ≡ n / 512 → (n % 512 ≡ 0 → ⊥) → n ≤ p * 512 → ⊥
    kept_odd n p a b c = b (omega arith)

pub kept_once : {K : Type 0} (n : ℕ) (e : Entry K) → NoDup (kept_pages n e)
unfolding kept_pages
kept_once n e = go (not (eqb (n % 512) 0) && is_stored e)
  where
    go : (b : Bool) → NoDup (cond b (n / 512 ∷ []) [])
    go true = ((λ m. elim m [ ]), tt)
    go false = tt

unstored : (e : Entry PageData) (i : ℕ) → is_stored e ≡ false → bytes e i ≡ 0
unstored unmapped i h = refl
unstored hole i h = refl
unstored (stored v) i h = absurd (true≢false h)

-- WHAT A TRUNCATE CHANGES, over the model
module _ (t : Tree) (proper : ProperTree t) (s n : ℕ) (w : Work model) (k : FilesOk t w.files) (al : Alive w.files s) where
  -- above the size
  pub filled_up : Changed t s [] [] (λ p x. x) (λ m. n) w.files (change model t s [] [] [] [] (λ p x. x) (λ m. n) w).files
  filled_up = changed t proper s [] [] [] [] (λ p m. m) (λ p m k. elim m [ ]) (λ p m. elim m [ ]) tt (λ p x. x) (λ m. n) w k al

  -- below the size z
  pub cut_off : (z : ℕ) → z ≤ 32768 → n < z → let e : Entry PageData = resolve t w.files s (n / 512) in
      Changed t s (kept_pages n e) (dropped_pages n z) (λ p. zero_from (n % 512)) (λ m. n)
      w.files (change model t s (part_pages n) (kept_pages n e) (dropped_pages n z) [] (λ p. zero_from (n % 512)) (λ m. n) w).files
  cut_off z most less =
      let e : Entry PageData = resolve t w.files s (n / 512) in
      changed t proper s (part_pages n) (kept_pages n e) (dropped_pages n z) [] (kept_part n e) (apart n z e) (λ p m. dropped_under n z p most less m) (kept_once n e)
      (λ p. zero_from (n % 512)) (λ m. n) w k al

-- a cut
module _ (t : Tree) (s n : ℕ) (l : List ℕ) (a b : Files PageData) (pf : ℕ → Option (List ℕ)) (has : pf s ≡ some l) (al : Alive a s) (g : Agree t a pf) (less : n < length l)
    (r : Changed t s (kept_pages n (resolve t a s (n / 512))) (dropped_pages n (length l)) (λ p. zero_from (n % 512)) (λ m. n) a b) where
  cut_byte : (i : ℕ) → i < 32768 → bytes (resolve t b s (i / 512)) (i % 512) ≡ get_or (cut_or_fill l n) i 0
  unfolding zero_from
  cut_byte i h =
      let old : bytes (resolve t a s (i / 512)) (i % 512) ≡ get_or l i 0 = g.byte s l has al i h in
      let k : i / 512 < 64 = omega arith in
      ⊎_elim
      (λ d. let q = dropped_low n (length l) (i / 512) d in
      ap (λ e. bytes e (i % 512)) (r.cut_page' (i / 512) k d) ∙ sym (rw (le-ltb i n (omega arith)) refl))
      (λ o. ⊎_elim
      (λ m. let q = (kept_is n (i / 512) _ m).0 in
      ap (λ e. bytes e (i % 512)) (r.new_page (i / 512) k m o) ∙
      test? (ltb i n) (λ e. let c = ltb-true i n e in rw (e, lt-ltb (i % 512) (n % 512) (omega arith)) old) (λ e. let c = ltb-false i n e in rw (e, le-ltb (i % 512) (n % 512) (omega arith)) refl))
      (λ x. ap (λ e. bytes e (i % 512)) (r.old_page (i / 512) k x o) ∙
      test? (ltb i n) (λ e. rw e old)
      (λ e. let c = ltb-false i n e in rw e
      (test? (ltb i (length l))
      (λ e. let d = ltb-true i (length l) e in
      let q = dropped_not n (length l) (i / 512) o (omega arith) (omega arith) in
      let y : is_stored (resolve t a s (n / 512)) ≡ false = kept_not n (resolve t a s (n / 512)) (λ m. x (subst (λ p. Memᴰ p (kept_pages n (resolve t a s (n / 512)))) (sym q.0) m)) q.1 in
      unstored (resolve t a s (i / 512)) (i % 512) (ap (λ p. is_stored (resolve t a s p)) q.0 ∙ y))
      (λ e. old ∙ get_or-eq_default l 0 (ltb-false i (length l) e)))))
      (mem? (i / 512) (kept_pages n (resolve t a s (n / 512)))))
      (mem? (i / 512) (dropped_pages n (length l)))
      ∙ sym (sized_at l n i)

  pub agree_cut : Agree t b (upd pf s (some (cut_or_fill l n)))
  agree_cut =
      agree_one t t a b pf g s (some (cut_or_fill l n)) (λ x n. r.presence x) (λ x n. r.alive x) r.page r.size (sym (live_present (b s).state r.self))
      (λ l' q h. let e : cut_or_fill l n ≡ l' = cc in r.new_size ∙ sym (length_sized l n) ∙ ap length e)
      (λ l' q h i j. let e : cut_or_fill l n ≡ l' = cc in cut_byte i j ∙ ap (λ z. get_or z i 0) e)

-- filled up
module _ (t : Tree) (s n : ℕ) (l : List ℕ) (a b : Files PageData) (pf : ℕ → Option (List ℕ)) (has : pf s ≡ some l) (al : Alive a s) (g : Agree t a pf) (more : length l ≤ n)
    (r : Changed t s [] [] (λ p x. x) (λ m. n) a b) where
  more_byte : (i : ℕ) → i < 32768 → bytes (resolve t b s (i / 512)) (i % 512) ≡ get_or (cut_or_fill l n) i 0
  more_byte i h =
      ap (λ e. bytes e (i % 512)) (r.old_page (i / 512) (omega arith) (λ m. elim m [ ]) (λ m. elim m [ ])) ∙ g.byte s l has al i h ∙
      test? (ltb i n) (λ e. rw e refl) (λ e. let c = ltb-false i n e in rw e (get_or-eq_default l 0 (omega arith))) ∙ sym (sized_at l n i)

  pub agree_more : Agree t b (upd pf s (some (cut_or_fill l n)))
  agree_more =
      agree_one t t a b pf g s (some (cut_or_fill l n)) (λ x n. r.presence x) (λ x n. r.alive x) r.page r.size (sym (live_present (b s).state r.self))
      (λ l' q h. let e : cut_or_fill l n ≡ l' = cc in r.new_size ∙ sym (length_sized l n) ∙ ap length e)
      (λ l' q h i j. let e : cut_or_fill l n ≡ l' = cc in more_byte i j ∙ ap (λ z. get_or z i 0) e)

-- the same size
pub agree_same : (t : Tree) (s n : ℕ) (l : List ℕ) (a : Files PageData) (pf : ℕ → Option (List ℕ)) → pf s ≡ some l → Alive a s → Agree t a pf → n ≡ length l → Agree t a (upd pf s (some (cut_or_fill l n)))
agree_same t s n l a pf has al g e =
    agree_one t t a a pf g s (some (cut_or_fill l n)) (λ x n. refl) (λ x n h. h) (λ x p l n h. refl) (λ x n h. refl) (sym (live_present (a s).state al))
    (λ l' q h. let d : cut_or_fill l n ≡ l' = cc in g.size s l has al ∙ sym e ∙ sym (length_sized l n) ∙ ap length d)
    (λ l' q h i j. let d : cut_or_fill l n ≡ l' = cc in g.byte s l has al i j ∙
    test? (ltb i n) (λ e. rw e refl) (λ f. let c = ltb-false i n f in rw f (get_or-eq_default l 0 (omega arith))) ∙ sym (sized_at l n i) ∙ ap (λ z. get_or z i 0) d)
