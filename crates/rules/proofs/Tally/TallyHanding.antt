-- A page that is handed over, on the tally: taking it over and the copies of the other children do not get in each other's way. So the turns leave the same
-- whether the first child that needs the page takes it over before the others have their copies, as the tally says it, or after, as the store does it. Assumes nothing.
use mathlib.Core.Bool.{◌&&◌, cond, false, true, true≢false, ◌||◌}
use mathlib.Core.List.{List, Memᴰ, ◌∷◌, []}
use mathlib.Core.Path.{◌≡◌, ap, ap₂, refl, sym, ◌∙◌}
use Prim.Native.Nat.{◌+◌, ◌-◌, ◌<◌, suc, zero, ℕ, ◌≤◌}
use native.Mathlib.Omega.{arith}
use lib.Dec.{eqb}
use Rattle.base.specs.Count.{count}
use Rattle.rules.proofs.Blocks.Sums.{sum_same}
use Rattle.base.specs.Logic.{test?}
use Rattle.base.specs.Update.{upd, upd_is, upd_other, upd_same, upd_swap}
use Rattle.rules.proofs.Steps.Handing.{ProperTree, not_itself}
use Rattle.rules.proofs.Steps.OneStep.{TreeOk}
use Rattle.rules.proofs.Steps.States.{stored_is}
use Rattle.rules.proofs.Steps.WriterSteps.{NoDup, resolve_here}
use Rattle.rules.proofs.Tally.TallyReach.{any_same, kind_resolve, reached_below}
use Rattle.rules.specs.State.{Tree, hole, is_stored, set_count, stored, unmapped}
use Rattle.rules.specs.Tally.{Kind, TallyFile, TallyFiles, Turn, child_page, child_turn, copy_turn, depends_above, each_child, hand_turns, kind_at, mark_frees, marked_with, needed_copy, reached_down, stored_pages, taken_over, tally_kind, tally_mark, tally_needs}

module _ (t : Tree) (ok : TreeOk t) where
  -- who is marked with the file of set d is found from the files below d
  reached_frame : (fs gs : TallyFiles) (n d x : ℕ) → ((e : ℕ) → t.level d < t.level e → gs e ≡ fs e) → reached_down t gs n d x ≡ reached_down t fs n d x
  unfolding reached_down
  reached_frame fs gs zero d x h = refl
  reached_frame fs gs (suc n) d x h =
      ap (λ b. eqb d x || b)
      (any_same (t.children d) _ _ (λ e m. let l = ok.kid_lvl d e m in
      ap₂ (λ a b. a && b) (ap (depends_above t) (h e (omega arith))) (reached_frame fs gs n e x (λ y k. h y (omega arith)))))

  -- a file that does not stand below d is not marked with d's
  not_marked : (fs : TallyFiles) (d x : ℕ) → (d ≡ x → ⊥) → t.level x ≤ t.level d → marked_with t fs d x ≡ false
  not_marked fs d x apart l = test? (marked_with t fs d x) (λ e. let m = reached_below t ok fs set_count d x apart e in absurd (omega arith)) (λ e. e)

  -- page p of the file in set c becomes of kind k, and nothing else changes
  abbrev put : ℕ → ℕ → Kind → Turn → Turn
  put c p k x = record { files = tally_kind t c p k x.files; free = x.free; copies = x.copies; marks = x.marks }

  put_other : (c p : ℕ) (k : Kind) (fs : TallyFiles) (x : ℕ) → (c ≡ x → ⊥) → tally_kind t c p k fs x ≡ fs x
  unfolding tally_kind
  put_other c p k fs x n = upd_other fs c _ x n

  -- ANOTHER FILE THAN d's, and not below it: the copy for d neither looks at its entries nor changes it
  module _ (c d p : ℕ) (k : Kind) (apart : d ≡ c → ⊥) (not-under : t.level c ≤ t.level d) where
    put_own : (fs : TallyFiles) → tally_kind t c p k fs d ≡ fs d
    put_own fs = put_other c p k fs d (λ e. apart (sym e))

    -- the same files are marked with d's
    put_marked : (fs : TallyFiles) (x : ℕ) → marked_with t (tally_kind t c p k fs) d x ≡ marked_with t fs d x
    put_marked fs x = reached_frame fs _ set_count d x (λ e l. put_other c p k fs e (λ q. let q' : t.level c ≡ t.level e = ap t.level q in omega arith))

    -- and its own stays as it is
    put_mark : (fs : TallyFiles) → tally_mark t (tally_kind t c p k fs) d ≡ tally_kind t c p k (tally_mark t fs d)
    unfolding tally_mark tally_kind
    put_mark fs =
        upd_is (tally_mark t fs d) (tally_mark t (tally_kind t c p k fs) d) c _ (rw (put_marked fs c, not_marked fs d c apart not-under) (upd_same fs c _))
        (λ x n. rw (put_marked fs x, put_other c p k fs x n))

    -- and as many blocks come free
    put_frees : (fs : TallyFiles) → mark_frees t (tally_kind t c p k fs) d ≡ mark_frees t fs d
    unfolding mark_frees
    put_frees fs =
        sum_same set_count _ _
        (λ x l. rw (put_marked fs x) (test? (marked_with t fs d x)
        (λ e. rw e (ap stored_pages (put_other c p k fs x (λ q. true≢false (sym e ∙ ap (marked_with t fs d) (sym q) ∙ not_marked fs d c apart not-under)))))
        (λ e. rw e)))

    -- an entry of d's file may be put before or after
    put_both : (fs : TallyFiles) (j : Kind) → tally_kind t d p j (tally_kind t c p k fs) ≡ tally_kind t c p k (tally_kind t d p j fs)
    unfolding tally_kind
    put_both fs j =
        let with_kind : TallyFile → Kind → TallyFile = λ f k. record { state = f.state; size = f.size; map = upd f.map p k } in
        ap (λ f. upd (upd fs c (with_kind (fs c) k)) d (with_kind f j)) (put_own fs)
        ∙ upd_swap fs c d (with_kind (fs c) k) (with_kind (fs d) j) (λ e. apart (sym e))
        ∙ ap (λ f. upd (upd fs d (with_kind (fs d) j)) c (with_kind f k)) (sym (put_other d p j fs c apart))

    -- so the page may be put before the copy or after it
    put_copy : (x : Turn) → copy_turn t p d (put c p k x) ≡ put c p k (copy_turn t p d x)
    unfolding copy_turn needed_copy
    put_copy x =
        rw (put_own x.files)
        (test? (tally_needs x.files d p)
        (λ n. rw n (test? (eqb x.free 0)
        (λ z. rw z (λ i. record { files = put_mark x.files i; free = put_frees x.files i; copies = x.copies; marks = x.marks + count set_count (λ y. put_marked x.files y i) }))
        (λ z. rw z (λ i. record { files = put_both x.files (stored tt) i; free = x.free - 1; copies = x.copies + 1; marks = x.marks }))))
        (λ n. rw n))

  module _ (s : ℕ) where
    -- a child is another set
    kid_apart : (c : ℕ) → Memᴰ c (t.children s) → c ≡ s → ⊥
    kid_apart c m q = not_itself t ok s c m (sym q)

    -- a child's turn leaves the file of the set above it
    pub turn_self : (p c : ℕ) (x : Turn) → Memᴰ c (t.children s) → (child_turn t s p c x).files s ≡ x.files s
    unfolding child_turn child_page needed_copy tally_mark
    turn_self p c x m = test? (tally_needs x.files c p) (λ e. rw e (go (kind_at t x.files s p))) (λ e. rw e)
      where
        go : (k : Kind) → (child_page t k p c x).files s ≡ x.files s
        go unmapped = refl
        go hole = put_other c p hole x.files s (kid_apart c m)
        go (stored b) =
            test? (eqb x.free 0)
            (λ e. rw (e, not_marked x.files c s (kid_apart c m) (omega (arith, ok.kid_lvl s c m))))
            (λ e. rw e (put_other c p (stored tt) x.files s (kid_apart c m)))

    -- the turn of a child at a page stored in the map of set s is a copy, if it is needed
    turn_copy : (p d : ℕ) (x : Turn) → (x.files s).map p ≡ stored tt → child_turn t s p d x ≡ copy_turn t p d x
    unfolding child_turn copy_turn child_page
    turn_copy p d x has = rw (kind_resolve t x.files s p ∙ resolve_here t x.files s p (stored tt) has refl)

    module _ (p c : ℕ) (kid : Memᴰ c (t.children s)) where
      -- the copy for another child, and the page taken over
      copy_over : (d : ℕ) → Memᴰ d (t.children s) → (d ≡ c → ⊥) → (x : Turn) → copy_turn t p d (taken_over t s p c x) ≡ taken_over t s p c (copy_turn t p d x)
      unfolding taken_over
      copy_over d m apart x =
          let a = ok.kid_lvl s c kid in
          let b = ok.kid_lvl s d m in
          put_copy s d p hole (kid_apart d m) (omega arith) (put c p (stored tt) x) ∙ ap (put s p hole) (put_copy c d p (stored tt) apart (omega arith) x)

      -- child c takes the page over, and then others have their copies; or the others have their turns, and then c takes it over
      copies_over : (cs : List ℕ) → ((d : ℕ) → Memᴰ d cs → Memᴰ d (t.children s)) → (Memᴰ c cs → ⊥) → (x : Turn) → (x.files s).map p ≡ stored tt →
          each_child (copy_turn t p) cs (taken_over t s p c x) ≡ taken_over t s p c (each_child (child_turn t s p) cs x)
      unfolding each_child
      copies_over [] kids out x has = refl
      copies_over (d ∷ cs) kids out x has =
          let m = kids d (Memᴰ.head refl) in
          ap (each_child (copy_turn t p) cs) (copy_over d m (λ e. out (Memᴰ.head (sym e))) x ∙ ap (taken_over t s p c) (sym (turn_copy p d x has)))
          ∙ copies_over cs (λ e n. kids e (Memᴰ.tail n)) (λ n. out (Memᴰ.tail n)) (child_turn t s p d x) (ap (λ (f : TallyFile). f.map p) (turn_self p d x m) ∙ has)

-- the turns at page p of set s, which is handed over, in the order of the store: the first child that needs it takes it over when those behind it have had their turns
unfoldable pub hand_late : Tree → ℕ → ℕ → List ℕ → Turn → Turn
hand_late t s p [] x = x
hand_late t s p (c ∷ cs) x = cond (tally_needs x.files c p) (taken_over t s p c (each_child (child_turn t s p) cs x)) (hand_late t s p cs x)

module _ (t : Tree) (proper : ProperTree t) (s p : ℕ) (x : Turn) (has : is_stored ((x.files s).map p) ≡ true) where
  -- from one of the children on
  late_from : (cs : List ℕ) → NoDup cs → ((d : ℕ) → Memᴰ d cs → Memᴰ d (t.children s)) → hand_turns t s p cs x ≡ hand_late t s p cs x
  unfolding hand_turns hand_late
  late_from [] once kids = refl
  late_from (c ∷ cs) once kids =
      let inside : (d : ℕ) → Memᴰ d cs → Memᴰ d (t.children s) = λ d m. kids d (Memᴰ.tail m) in
      test? (tally_needs x.files c p)
      (λ n. rw n (copies_over t proper.ok s p c (kids c (Memᴰ.head refl)) cs inside once.0 x (stored_is ((x.files s).map p) has).1))
      (λ n. rw n (late_from cs once.1 inside))

  -- LAW: a page handed over in the order of the tally, and in that of the store
  pub hand_late_law : hand_turns t s p (t.children s) x ≡ hand_late t s p (t.children s) x
  hand_late_law = late_from (t.children s) (proper.once s) (λ d m. m)
