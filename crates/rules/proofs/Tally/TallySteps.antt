-- The steps of a changing call over `counting`, the storage without blocks and bytes, are those of the tally. Assumes nothing.
use mathlib.Core.Bool.{◌&&◌, Bool, cond, false, not, true}
use mathlib.Core.List.{◌++◌, List, Memᴰ, ◌∷◌, []}
use mathlib.Core.Path.{ap, fun_ext, refl, sym, ◌∙◌, ◌≡◌}
use Prim.Native.Nat.{◌+◌, ◌-◌, suc, ℕ, ◌≤◌}
use native.Mathlib.Nat.{add-zero, zero-add}
use native.Mathlib.Numerals.{add-one}
use native.Mathlib.Omega.{arith}
use lib.Dec.{eqb}
use borrow.Author.Tests.{eqb-true}
use Rattle.base.specs.Count.{sum}
use Rattle.base.specs.Logic.{same?, test?}
use Rattle.base.specs.Update.{upd, upd_keeps, upd_other, upd_same}
use Rattle.rules.proofs.Steps.Handing.{ProperTree, some_self}
use Rattle.rules.proofs.Steps.OneStep.{TreeOk}
use Rattle.rules.proofs.Steps.States.{stored_is}
use Rattle.rules.proofs.Steps.StepFour.{each_append, each_inv}
use Rattle.rules.proofs.Storages.Model.{counting}
use Rattle.rules.proofs.Tally.TallyFreed.{free_map_law}
use Rattle.rules.proofs.Tally.TallyGroups.{PagesOfTwo, each_two}
use Rattle.rules.proofs.Tally.TallyHanding.{hand_late_law, hand_late}
use Rattle.rules.proofs.Tally.TallyLoops.{PagesOf, each_child_law, each_page_law, each_part, sum_loop}
use Rattle.rules.proofs.Tally.TallyReach.{NoVirginRoot, kind_resolve, mark_count, mark_down_law, marked_reaches, size_reading}
use Rattle.rules.specs.Reading.{needs, reaches, resolve, size_by_reading}
use Rattle.rules.specs.Rules.{Giving, Work, copied, copy, count_in, each, extra, free_map, free_sets, give, give_all, give_page, hand, hand_over, handed, mark, own_need, put_entry, reserve, reserve_as, settle, settle_as, settle_file, supply, take_own, with_files}
use Rattle.rules.specs.State.{State, Tree, absent, hole, is_stored, is_virgin, marked, own, set_count, stored, unmapped, virgin}
use Rattle.rules.specs.Tally.{Kind, TallyFile, TallyFiles, child_page, child_turn, each_child, extra_turn, mark_frees, needed_copy, page_turns, stored_pages, taken_over, tally_extra, tally_give, tally_kind, tally_needs, tally_settle, Turn}

-- what the tally's turns see of a Work, and a Work with that put in its place
abbrev pub turn_of : Work counting → Turn
turn_of w = record { files = w.files; free = w.memory; copies = w.copies; marks = w.marks }

abbrev pub with_turn : Work counting → Turn → Work counting
with_turn w x = record { memory = x.free; files = x.files; pending = w.pending; taken = w.taken; copies = x.copies; marks = x.marks }

-- n blocks are taken and h is pending
abbrev pub with_reserved : Work counting → ℕ → (ℕ → Kind) → Work counting
with_reserved w n h = record { memory = w.memory - n; files = w.files; pending = h; taken = n + w.taken; copies = w.copies; marks = w.marks }

reserved_more : (w : Work counting) (a b : ℕ) (g h : ℕ → Kind) → with_reserved (with_reserved w a g) b h ≡ with_reserved w (a + b) h
reserved_more w a b g h =
    let m : w.memory - a - b ≡ w.memory - (a + b) = omega arith in
    let k : b + (a + w.taken) ≡ a + b + w.taken = omega arith in
    λ i. record { memory = m i; files = w.files; pending = h; taken = k i; copies = w.copies; marks = w.marks }

reserved_none : (w : Work counting) (h : ℕ → Kind) → with_reserved w 0 h ≡ record { memory = w.memory; files = w.files; pending = h; taken = w.taken; copies = w.copies; marks = w.marks }
reserved_none w h =
    let m : w.memory - 0 ≡ w.memory = omega arith in
    λ i. record { memory = m i; files = w.files; pending = h; taken = zero-add w.taken i; copies = w.copies; marks = w.marks }

-- the pages of a list pending
abbrev pub pending_after : List ℕ → (ℕ → Kind) → ℕ → Kind
pending_after rs h = each (λ p g. upd g p (stored tt)) rs h

module _ (t : Tree) (ok : TreeOk t) where
  -- STEP 2
  settle_file_law : (c : ℕ) (fs : TallyFiles) → NoVirginRoot t fs → tally_settle t c fs ≡ settle_file t c fs
  unfolding tally_settle settle_file settle_as
  settle_file_law c fs nv = rw (size_reading t fs ok nv c) (go (fs c).state)
    where
      go : (l : State) → cond (is_virgin l) (upd fs c (record { state = own; size = size_by_reading t fs c; map = (fs c).map })) fs ≡ settle_as l t fs c
      go absent = refl
      go own = refl
      go virgin = refl
      go marked = refl

  settle_virgin : (c : ℕ) (fs : TallyFiles) (s : ℕ) → (settle_file t c fs s).state ≡ virgin → (fs s).state ≡ virgin
  unfolding settle_file settle_as
  settle_virgin c fs s h = go (fs c).state h
    where
      go : (l : State) → (settle_as l t fs c s).state ≡ virgin → (fs s).state ≡ virgin
      go absent h = h
      go own h = h
      go virgin h = same? c s
          (λ e. let z : (upd fs c (record { state = own; size = size_by_reading t fs c; map = (fs c).map }) c).state ≡ own = ap (λ (x : TallyFile). x.state) (upd_same fs c _) in
          let q : (settle_as virgin t fs c c).state ≡ virgin = ap (λ y. (settle_as virgin t fs c y).state) e ∙ h in cc)
          (λ n. ap (λ (x : TallyFile). x.state) (sym (upd_other fs c _ s n)) ∙ h)
      go marked h = h

  one_map : (c : ℕ) (fs : TallyFiles) (s : ℕ) → (tally_settle t c fs s).map ≡ (fs s).map
  unfolding tally_settle
  one_map c fs s = test? (is_virgin (fs c).state) (λ e. rw e (upd_keeps (λ (x : TallyFile). x.map) fs c _ refl s)) (λ e. rw e)

  -- no entry changes
  pub settle_maps : (cs : List ℕ) (fs : TallyFiles) (s : ℕ) → (each_child (tally_settle t) cs fs s).map ≡ (fs s).map
  settle_maps cs fs s =
      ap (λ (g : TallyFiles). (g s).map) (each_child_law (tally_settle t) cs fs)
      ∙ each_inv (tally_settle t) (λ (g : TallyFiles). (g s).map ≡ (fs s).map) cs (λ c g m i. one_map c g s ∙ i) fs refl

  pub settle_all : (cs : List ℕ) (w : Work counting) → NoVirginRoot t w.files → each (settle counting t) cs w ≡ with_files counting t w (each_child (tally_settle t) cs w.files)
  unfolding each each_child settle
  settle_all [] w nv = refl
  settle_all (c ∷ cs) w nv =
      settle_all cs (settle counting t c w) (λ s v. nv s (settle_virgin c w.files s v))
      ∙ ap (λ fs. with_files counting t w (each_child (tally_settle t) cs fs)) (sym (settle_file_law c w.files nv))

  -- STEP 3: own blocks are taken, as many as the own need, and are pending
  reserve_one : (s p : ℕ) (w : Work counting) → reserve counting t s p w ≡ with_reserved w (cond (not (is_stored ((w.files s).map p))) 1 0) (upd w.pending p (stored tt))
  unfolding reserve reserve_as take_own
  reserve_one s p w = go ((w.files s).map p)
    where
      one : suc w.taken ≡ 1 + w.taken
      one = omega arith

      more : take_own counting t p w ≡ with_reserved w 1 (upd w.pending p (stored tt))
      more = λ i. record { memory = w.memory - 1; files = w.files; pending = upd w.pending p (stored tt); taken = one i; copies = w.copies; marks = w.marks }

      go : (e : Kind) → reserve_as counting t e p w ≡ with_reserved w (cond (not (is_stored e)) 1 0) (upd w.pending p (stored tt))
      go unmapped = more
      go hole = more
      go (stored b) = sym (reserved_none w (upd w.pending p (stored tt)))

  pub reserve_all : (s : ℕ) (rs : List ℕ) (w : Work counting) → each (reserve counting t s) rs w ≡ with_reserved w (own_need counting s rs w.files) (pending_after rs w.pending)
  unfolding each own_need count_in
  reserve_all s [] w = sym (reserved_none w w.pending)
  reserve_all s (p ∷ rs) w = rw (reserve_one s p w) (reserve_all s rs (with_reserved w _ _) ∙ reserved_more w _ _ (upd w.pending p (stored tt)) _)

-- STEP 4
module _ (t : Tree) (proper : ProperTree t) (shallow : (x : ℕ) → t.level x ≤ set_count) where
  -- the blocks that marking frees
  free_reached : (c : ℕ) (fs : TallyFiles) (m : ℕ) → free_sets counting t (reaches t fs c) fs m ≡ m + mark_frees t fs c
  unfolding free_sets mark_frees
  free_reached c fs m =
      sum_loop (λ x. cond (reaches t fs c x) (stored_pages (fs x)) 0) (λ x n. cond (reaches t fs c x) (free_map counting (fs x).map n) n)
      (λ x n. test? (reaches t fs c x) (λ e. rw e (free_map_law (fs x) n)) (λ e. rw e (sym (add-zero n)))) set_count m
      ∙ ap (λ g. m + sum set_count (λ x. cond (g x) (stored_pages (fs x)) 0)) (fun_ext (λ x. sym (marked_reaches t proper.ok fs c x (shallow x))))

  -- with no block free, a needed copy marks
  supply_marks : (b : counting.Block) (c p : ℕ) (w : Work counting) → eqb w.memory 0 ≡ true → supply counting t true (stored b) c p w ≡ mark counting t c w
  unfolding supply
  supply_marks b c p w e = rw e

  mark_page : (b : counting.Block) (c p : ℕ) (w : Work counting) → eqb w.memory 0 ≡ true → mark counting t c w ≡ with_turn w (child_page t (stored b) p c (turn_of w))
  unfolding child_page needed_copy mark tally_kind
  mark_page b c p w e =
      rw e (λ i. record {
        memory = (free_reached c w.files w.memory ∙ ap (λ n. n + mark_frees t w.files c) (eqb-true w.memory 0 e) ∙ zero-add _) i;
        files = sym (mark_down_law t proper.ok w.files shallow c) i;
        pending = w.pending;
        taken = w.taken;
        copies = w.copies;
        marks = w.marks + sym (mark_count t proper.ok w.files shallow c) i;
      })

  supply_page : (e : Kind) (c p : ℕ) (w : Work counting) → supply counting t true e c p w ≡ with_turn w (child_page t e p c (turn_of w))
  unfolding supply child_page needed_copy mark copy put_entry tally_kind
  supply_page unmapped c p w = refl
  supply_page hole c p w = refl
  supply_page (stored b) c p w =
      test? (eqb w.memory 0)
      (λ e. supply_marks b c p w e ∙ mark_page b c p w e)
      (λ e. rw e (λ i. record {
        memory = w.memory - 1;
        files = put_entry w.files c p (stored tt);
        pending = w.pending;
        taken = w.taken;
        copies = sym (add-one w.copies) i;
        marks = w.marks;
      }))

  give_one : (s p c : ℕ) (w : Work counting) → give counting t true s p c w ≡ with_turn w (child_turn t s p c (turn_of w))
  unfolding give child_turn needs
  give_one s p c w =
      rw (kind_resolve t w.files s p)
      (test? (tally_needs w.files c p) (λ e. rw e (supply_page (resolve t w.files s p) c p w)) (λ e. rw e))

  give_some : (s p : ℕ) (cs : List ℕ) (w : Work counting) → each (give counting t true s p) cs w ≡ with_turn w (each_child (child_turn t s p) cs (turn_of w))
  give_some s p cs w =
      each_part turn_of with_turn (λ w. refl) (λ w x y. refl) (λ w x. refl) (give counting t true s p) (child_turn t s p) (give_one s p) cs w
      ∙ ap (with_turn w) (sym (each_child_law (child_turn t s p) cs (turn_of w)))

  -- a page taken over
  over_one : (s p c : ℕ) (w : Work counting) → (w.files s).map p ≡ stored tt → hand_over counting t s p c w ≡ with_turn w (taken_over t s p c (turn_of w))
  unfolding hand_over taken_over put_entry tally_kind
  over_one s p c w h = rw h

  -- a page handed over, in the order of the store
  hand_all : (s p : ℕ) (cs : List ℕ) → ((d : ℕ) → Memᴰ d cs → Memᴰ d (t.children s)) → (w : Work counting) → (w.files s).map p ≡ stored tt →
      hand counting t s p cs w ≡ with_turn w (hand_late t s p cs (turn_of w))
  unfolding hand hand_late needs
  hand_all s p [] kids w h = refl
  hand_all s p (c ∷ cs) kids w h =
      let inside : (d : ℕ) → Memᴰ d cs → Memᴰ d (t.children s) = λ d m. kids d (Memᴰ.tail m) in
      test? (tally_needs w.files c p)
      (λ e. rw e (over_one s p c (each (give counting t true s p) cs w) (ap (λ (x : TallyFile). x.map p) (some_self counting t proper.ok true s p cs inside w) ∙ h)
      ∙ ap (λ (v : Work counting). with_turn v (taken_over t s p c (turn_of v))) (give_some s p cs w)))
      (λ e. rw e (hand_all s p cs inside w h))

  abbrev hands_or : Bool → Giving
  hands_or false = copied
  hands_or true = handed

  page_all : (hands : Bool) (s p : ℕ) (w : Work counting) → give_page counting t (hands_or hands) s p w ≡ with_turn w (page_turns t s hands p (turn_of w))
  unfolding give_page page_turns
  page_all false s p w = give_some s p (t.children s) w
  page_all true s p w =
      test? (is_stored ((w.files s).map p))
      (λ e. rw (e, hand_late_law t proper s p (turn_of w) e) (hand_all s p (t.children s) (λ d m. m) w (stored_is ((w.files s).map p) e).1))
      (λ e. rw e (give_some s p (t.children s) w))

  give_list : (hands : Bool) (s : ℕ) (ps : List ℕ) (handing : ℕ → Bool) → ((p : ℕ) → Memᴰ p ps → handing p ≡ hands) → (w : Work counting) →
      give_all counting t (hands_or hands) s ps w ≡ with_turn w (each (λ p. page_turns t s (handing p) p) ps (turn_of w))
  unfolding give_all each
  give_list hands s [] handing h w = refl
  give_list hands s (p ∷ ps) handing h w =
      ap (each (give_page counting t (hands_or hands) s) ps) (page_all hands s p w ∙ ap (λ b. with_turn w (page_turns t s b p (turn_of w))) (sym (h p (Memᴰ.head refl))))
      ∙ give_list hands s ps handing (λ q m. h q (Memᴰ.tail m)) (with_turn w _)

  pub give_all_law : (s : ℕ) (ps ds : List ℕ) (touches handing : ℕ → Bool) → PagesOf (ps ++ ds) touches → ((p : ℕ) → Memᴰ p ps → handing p ≡ false) → ((p : ℕ) → Memᴰ p ds → handing p ≡ true) →
      (w : Work counting) → give_all counting t handed s ds (give_all counting t copied s ps w) ≡ with_turn w (tally_give t s touches handing (turn_of w))
  unfolding tally_give
  give_all_law s ps ds touches handing r off on w =
      ap (give_all counting t handed s ds) (give_list false s ps handing off w) ∙ give_list true s ds handing on (with_turn w _)
      ∙ ap (with_turn w) (sym (each_append (λ p. page_turns t s (handing p) p) ps ds (turn_of w))
      ∙ sym (each_page_law r (λ p. page_turns t s (handing p) p) _ (λ p x l e. rw e) (λ p x l e. rw e) (turn_of w)))

  -- THE EXTRA PAGES: a turn at one is a turn of step 4, unless it finds no free block
  extra_page : (e : Kind) (c p : ℕ) (w : Work counting) → supply counting t false e c p w ≡ with_turn w (cond (is_stored e && eqb w.memory 0) (turn_of w) (child_page t e p c (turn_of w)))
  unfolding supply child_page needed_copy copy put_entry tally_kind
  extra_page unmapped c p w = refl
  extra_page hole c p w = refl
  extra_page (stored b) c p w =
      test? (eqb w.memory 0)
      (λ e. rw e)
      (λ e. rw e (λ i. record {
        memory = w.memory - 1;
        files = put_entry w.files c p (stored tt);
        pending = w.pending;
        taken = w.taken;
        copies = sym (add-one w.copies) i;
        marks = w.marks;
      }))

  extra_one : (s p c : ℕ) (w : Work counting) → give counting t false s p c w ≡ with_turn w (extra_turn t s p c (turn_of w))
  unfolding give extra_turn child_turn needs
  extra_one s p c w =
      rw (kind_resolve t w.files s p)
      (test? (tally_needs w.files c p)
      (λ e. rw e (extra_page (resolve t w.files s p) c p w))
      (λ e. rw e (test? (is_stored (resolve t w.files s p) && eqb w.memory 0) (λ d. rw d) (λ d. rw d))))

  extra_some : (s p : ℕ) (w : Work counting) → give_page counting t extra s p w ≡ with_turn w (each_child (extra_turn t s p) (t.children s) (turn_of w))
  unfolding give_page
  extra_some s p w =
      each_part turn_of with_turn (λ w. refl) (λ w x y. refl) (λ w x. refl) (give counting t false s p) (extra_turn t s p) (extra_one s p) (t.children s) w
      ∙ ap (with_turn w) (sym (each_child_law (extra_turn t s p) (t.children s) (turn_of w)))

  pub extra_all : (s : ℕ) (es : List ℕ) (extras : ℕ → Bool) → PagesOfTwo es extras → (w : Work counting) → give_all counting t extra s es w ≡ with_turn w (tally_extra t s extras (turn_of w))
  unfolding tally_extra give_all
  extra_all s es extras r w =
      each_part turn_of with_turn (λ w. refl) (λ w x y. refl) (λ w x. refl) (give_page counting t extra s) (λ p. each_child (extra_turn t s p) (t.children s)) (extra_some s) es w
      ∙ ap (with_turn w) (sym (each_two r (λ p. each_child (extra_turn t s p) (t.children s)) _ (λ p x l e. rw e) (λ p x l e. rw e) (turn_of w)))
