-- Whole rules over two storages of which one stands for the other: any change, write, truncate and delete keep them together. Assumes nothing.
use mathlib.Core.Bool.{Bool, ◌&&◌, cond, false, not, true, true≢false}
use mathlib.Core.List.{List, Memᴰ, ◌∷◌, []}
use mathlib.Core.Path.{ap, fun_ext, refl, subst, subst₂, sym, ◌∙◌, ◌≡◌}
use Prim.Native.Nat.{◌%◌, ◌+◌, ◌/◌, ◌<◌, max, suc, zero, ℕ, ◌≤◌}
use native.Mathlib.Omega.{arith}
use lib.Dec.{eqb, ltb}
use lib.ListN.{length}
use lib.Pow.{low}
use borrow.Author.Tests.{eqb-false, lt-ltb, ltb-false}
use Rattle.base.specs.Logic.{test?}
use Rattle.rules.proofs.Agreement.Agree.{from_high, from_mem, touched_once}
use Rattle.rules.proofs.Storages.MapBlocks.{map_stored, size_map}
use Rattle.rules.proofs.Steps.Pending.{dropped_all, drops, drops_hole, enter_pending, erase_is, give_pending, page_pending, reserve_other, reserves_other, settle_pending, some_pending}
use Rattle.rules.proofs.Storages.Sim.{Demands, Rel, Sim, Translation, rel_absent, rel_drop, rel_enter, rel_give, rel_hand, rel_needs, rel_own, rel_res, rel_reserve, rel_resize, rel_settle, settle_ent}
use Rattle.rules.proofs.Steps.StepFour.{each_inv}
use Rattle.rules.proofs.Agreement.Truncate.{apart, kept_in, kept_once}
use Rattle.rules.proofs.Steps.WriterSteps.{NoDup}
use Rattle.rules.specs.Reading.{needs, resolve, size_by_reading}
use Rattle.rules.specs.Rules.{Giving, Work, change, copied, count_in, cut_pages, delete_as, delete_file, drop_page, dropped_pages, each, enter, erase_file, extra, extra_pages, from, give, give_all, give_page, hand, handed, kept_pages, own_need, part_pages, reserve, reserve_as, settle, take_own, touched, truncate_as, truncate_file, truncate_need, write_file}
use Rattle.rules.specs.State.{Entry, File, Files, Tree, hole, is_stored, is_unmapped, live, stored, unmapped}
use Rattle.rules.specs.Storage.{Storage}
use Rattle.rules.proofs.Steps.Handing.{some_leave, some_self}
use Rattle.rules.proofs.Steps.OneStep.{TreeOk}

none_needed : (S : Storage) (s : ℕ) (files : Files S.Block) (n : ℕ) → own_need S s [] files ≤ n
unfolding own_need count_in
none_needed S s files n = omega arith

pub kept_same : {K L : Type 0} (n : ℕ) (e : Entry K) (e' : Entry L) → is_stored e ≡ is_stored e' → kept_pages n e ≡ kept_pages n e'
unfolding kept_pages
kept_same n e e' h = rw h

-- the pages that get bytes are below 64
touched_low : (off n : ℕ) → off + n ≤ 32768 → (p : ℕ) → Memᴰ p (touched off n) → p < 64
unfolding touched
touched_low off zero l p m = elim m [ ]
touched_low off (suc n) l p m = let h = from_high (off / 512) _ p m in omega arith

kept_low : {K : Type 0} (n : ℕ) (e : Entry K) → n ≤ 32768 → (p : ℕ) → Memᴰ p (kept_pages n e) → p < 64
unfolding kept_pages cut_pages
kept_low n e l p m =
    test? (eqb (n % 512) 0)
    (λ z. let q : Memᴰ p [] = rw z at m in elim q [ ])
    (λ z. let y = eqb-false (n % 512) 0 z in let h = from_high (n / 512) _ p (kept_in n (suc n) e p m) in omega arith)

needs_as : {K : Type 0} (files files' : Files K) (c p : ℕ) → files' c ≡ files c → needs files' c p ≡ needs files c p
unfolding needs
needs_as {K} files files' c p e = ap (λ (x : File K). live x.state && is_unmapped (x.map p)) e

copied_handed : ◌≡◌ {A = Giving} copied handed → ⊥
copied_handed e = let z : ◌≡◌ {A = ℕ} 0 1 = cc in omega arith

extra_handed : ◌≡◌ {A = Giving} extra handed → ⊥
extra_handed e = let z : ◌≡◌ {A = ℕ} 0 1 = cc in omega arith

module _ {S S' : Storage} {T : Translation S S'} {D : Demands S} {t : Tree} {s : ℕ} (M : Sim S S' T D t s) where
  rel_each : {A : Type 0} (f : A → Work S → Work S) (f' : A → Work S' → Work S') (xs : List A) → ((x : A) (w : Work S) (v : Work S') → Memᴰ x xs → Rel T D w v → Rel T D (f x w) (f' x v)) →
      (w : Work S) (v : Work S') → Rel T D w v → Rel T D (each f xs w) (each f' xs v)
  unfolding each
  rel_each f f' [] h w v r = r
  rel_each f f' (x ∷ xs) h w v r = rel_each f f' xs (λ y w v m. h y w v (mathlib.Core.List.Memᴰ.tail m)) (f x w) (f' x v) (h x w v (mathlib.Core.List.Memᴰ.head refl) r)

  -- STEP 2
  rel_settles : (cs : List ℕ) (w : Work S) (v : Work S') → Rel T D w v → Rel T D (each (settle S t) cs w) (each (settle S' t) cs v)
  rel_settles cs = rel_each (settle S t) (settle S' t) cs (λ c w v m r. rel_settle M r c)

  settle_same : (cs : List ℕ) (w : Work S) → ((each (settle S t) cs w).memory ≡ w.memory) × ((x p : ℕ) → ((each (settle S t) cs w).files x).map p ≡ (w.files x).map p)
  unfolding settle
  settle_same cs w =
      each_inv (settle S t) (λ v. (v.memory ≡ w.memory) × ((x p : ℕ) → (v.files x).map p ≡ (w.files x).map p)) cs
      (λ c v m i. (i.0, λ x p. settle_ent t c v.files x p ∙ i.1 x p)) w (refl, λ x p. refl)

  settle_need : (ps : List ℕ) (w : Work S) → own_need S s ps w.files ≤ S.free w.memory →
      own_need S s ps (each (settle S t) (s ∷ t.children s) w).files ≤ S.free (each (settle S t) (s ∷ t.children s) w).memory
  unfolding own_need
  settle_need ps w l =
      let e = settle_same (s ∷ t.children s) w in
      let n = ap (count_in ps) (fun_ext (λ p. ap (λ (y : Entry S.Block). not (is_stored y)) (e.1 s p))) in
      let f = ap S.free e.0 in
      omega arith

  -- STEP 3: the own blocks, for which the free ones suffice
  reserve_need : (q : ℕ) (qs : List ℕ) (w : Work S) → D.Good w → count_in (q ∷ qs) (λ p. not (is_stored ((w.files s).map p))) ≤ S.free w.memory →
      (is_stored ((w.files s).map q) ≡ false → 0 < S.free w.memory) × (count_in qs (λ p. not (is_stored (((reserve S t s q w).files s).map p))) ≤ S.free (reserve S t s q w).memory)
  unfolding reserve reserve_as take_own count_in
  reserve_need q qs w g l = go ((w.files s).map q) l
    where
      go : (e : Entry S.Block) → cond (not (is_stored e)) 1 0 + count_in qs (λ p. not (is_stored ((w.files s).map p))) ≤ S.free w.memory →
          (is_stored e ≡ false → 0 < S.free w.memory) × (count_in qs (λ p. not (is_stored (((reserve_as S t e q w).files s).map p))) ≤ S.free (reserve_as S t e q w).memory)
      go unmapped l = let f : 0 < S.free w.memory = omega arith in (λ _. f, rw (M.take_free w g f) (omega arith))
      go hole l = let f : 0 < S.free w.memory = omega arith in (λ _. f, rw (M.take_free w g f) (omega arith))
      go (stored b) l = (λ h. absurd (true≢false h), omega arith)

  rel_reserves : (ps : List ℕ) → NoDup ps → (w : Work S) (v : Work S') → Rel T D w v → ((p : ℕ) → Memᴰ p ps → is_stored (w.pending p) ≡ false) →
      own_need S s ps w.files ≤ S.free w.memory → Rel T D (each (reserve S t s) ps w) (each (reserve S' t s) ps v)
  unfolding each own_need
  rel_reserves [] d w v r o l = r
  rel_reserves (q ∷ qs) d w v r o l =
      let n = reserve_need q qs w r.good l in
      rel_reserves qs d.1 (reserve S t s q w) (reserve S' t s q v) (rel_reserve M r q (o q (mathlib.Core.List.Memᴰ.head refl)) n.0)
      (λ p m. ap is_stored (reserve_other S t s q w p (λ e. d.0 (subst (λ y. Memᴰ y qs) (sym e) m))) ∙ o p (mathlib.Core.List.Memᴰ.tail m)) n.1

  -- pages dropped, the file erased
  rel_drops : (ps : List ℕ) (w : Work S) (v : Work S') → Rel T D w v → ((p : ℕ) → Memᴰ p ps → is_stored (w.pending p) ≡ false) → Rel T D (each (drop_page S t s) ps w) (each (drop_page S' t s) ps v)
  unfolding each drop_page
  rel_drops [] w v r n = r
  rel_drops (p ∷ ps) w v r n = rel_drops ps (drop_page S t s p w) (drop_page S' t s p v) (rel_drop M r p (n p (mathlib.Core.List.Memᴰ.head refl))) (λ q m. n q (mathlib.Core.List.Memᴰ.tail m))

  pub rel_erase : (w : Work S) (v : Work S') → Rel T D w v → ((p : ℕ) → is_stored (w.pending p) ≡ false) → Rel T D (erase_file S t s w) (erase_file S' t s v)
  rel_erase w v r n =
      let r₁ : Rel T D (dropped_all S t s w) (dropped_all S' t s v) = rel_drops (from 0 64) w v r (λ p m. n p) in
      subst₂ (Rel T D) (sym (erase_is S t s w)) (sym (erase_is S' t s v))
      (rel_absent M r₁
      (λ p. ap (λ (g : ℕ → Entry S.Block). is_stored (g p)) (drops S t s (from 0 64) w).pending ∙ n p)
      (λ p l. ap is_stored (drops_hole S t s (from 0 64) w p (from_mem 0 64 p (omega arith) (omega arith)))))

  module _ (ok : TreeOk t) (once : NoDup (t.children s)) (kids : (c : ℕ) → Memᴰ c (t.children s) → D.Kid c) where
    -- STEP 4
    rel_some : (must : Bool) (p : ℕ) (cs : List ℕ) → ((c : ℕ) → Memᴰ c cs → Memᴰ c (t.children s)) → (w : Work S) (v : Work S') → Rel T D w v → Rel T D (each (give S t must s p) cs w) (each (give S' t must s p) cs v)
    rel_some must p cs in-kids = rel_each (give S t must s p) (give S' t must s p) cs (λ c w v m r. rel_give M r must p c (kids c (in-kids c m)))

    rel_handed : (p : ℕ) (cs : List ℕ) → ((c : ℕ) → Memᴰ c cs → Memᴰ c (t.children s)) → NoDup cs → (w : Work S) (v : Work S') → Rel T D w v → is_stored ((w.files s).map p) ≡ true → is_stored (w.pending p) ≡ false →
        Rel T D (hand S t s p cs w) (hand S' t s p cs v)
    unfolding hand
    rel_handed p [] in-kids nd w v r h o = r
    rel_handed p (c ∷ cs) in-kids nd w v r h o =
        let m = in-kids c (mathlib.Core.List.Memᴰ.head refl) in
        let inside : (d : ℕ) → Memᴰ d cs → Memᴰ d (t.children s) = λ d l. in-kids d (mathlib.Core.List.Memᴰ.tail l) in
        test? (needs w.files c p)
        (λ n. rw (rel_needs M r c p, n)
        (rel_hand M (rel_some true p cs inside w v r) p c (kids c m)
        (needs_as w.files (each (give S t true s p) cs w).files c p (some_leave S t ok true s p cs inside w c m nd.0) ∙ n)
        (ap (λ (x : File S.Block). is_stored (x.map p)) (some_self S t ok true s p cs inside w) ∙ h)
        (ap (λ (g : ℕ → Entry S.Block). is_stored (g p)) (some_pending S t s true p cs w) ∙ o)))
        (λ n. rw (rel_needs M r c p, n) (rel_handed p cs inside nd.1 w v r h o))

    rel_page : (how : Giving) (p : ℕ) (w : Work S) (v : Work S') → Rel T D w v → (how ≡ handed → is_stored (w.pending p) ≡ false) → Rel T D (give_page S t how s p w) (give_page S' t how s p v)
    unfolding give_page
    rel_page copied p w v r o = rel_some true p (t.children s) (λ c m. m) w v r
    rel_page extra p w v r o = rel_some false p (t.children s) (λ c m. m) w v r
    rel_page handed p w v r o =
        test? (is_stored ((w.files s).map p))
        (λ e. rw (rel_own M r p, e) (rel_handed p (t.children s) (λ c m. m) once w v r e (o refl)))
        (λ e. rw (rel_own M r p, e) (rel_some true p (t.children s) (λ c m. m) w v r))

    rel_gives : (how : Giving) (ps : List ℕ) (w : Work S) (v : Work S') → Rel T D w v → ((p : ℕ) → Memᴰ p ps → how ≡ handed → is_stored (w.pending p) ≡ false) → Rel T D (give_all S t how s ps w) (give_all S' t how s ps v)
    unfolding give_all each
    rel_gives how [] w v r o = r
    rel_gives how (p ∷ ps) w v r o =
        rel_gives how ps (give_page S t how s p w) (give_page S' t how s p v) (rel_page how p w v r (o p (mathlib.Core.List.Memᴰ.head refl)))
        (λ q m e. ap (λ (g : ℕ → Entry S.Block). is_stored (g q)) (page_pending S t s how p w) ∙ o q (mathlib.Core.List.Memᴰ.tail m) e)

    -- ANY CHANGE
    rel_change : (ps rs ds es : List ℕ) → NoDup rs → ((p : ℕ) → Memᴰ p rs → p < 64) → ((p : ℕ) → Memᴰ p ds → Memᴰ p rs → ⊥) →
        (lay : ℕ → S.Page → S.Page) (lay' : ℕ → S'.Page → S'.Page) → ((p : ℕ) (x : S.Page) → lay' p (T.page x) ≡ T.page (lay p x)) → ((p : ℕ) (x : S.Page) → D.Whole x → D.Whole (lay p x)) →
        (sz : ℕ → ℕ) (w : Work S) (v : Work S') → Rel T D w v → ((p : ℕ) → is_stored (w.pending p) ≡ false) → own_need S s rs w.files ≤ S.free w.memory →
        Rel T D (change S t s ps rs ds es lay sz w) (change S' t s ps rs ds es lay' sz v)
    unfolding change
    rel_change ps rs ds es once low away lay lay' h o sz w v r empty l =
        let w₁ : Work S = each (settle S t) (s ∷ t.children s) w in
        let w₂ : Work S = each (reserve S t s) rs w₁ in
        let wₕ : Work S = give_all S t handed s ds (give_all S t copied s ps w₂) in
        let w₃ : Work S = give_all S t extra s es wₕ in
        let none₁ : (p : ℕ) → is_stored (w₁.pending p) ≡ false = λ p. ap (λ (g : ℕ → Entry S.Block). is_stored (g p)) (settle_pending S t s (s ∷ t.children s) w) ∙ empty p in
        let r₁ = rel_settles (s ∷ t.children s) w v r in
        let r₂ = rel_reserves rs once _ _ r₁ (λ p m. none₁ p) (settle_need rs w l) in
        let none₂ : (p : ℕ) → Memᴰ p ds → is_stored (w₂.pending p) ≡ false = λ p m. ap is_stored (reserves_other S t s rs w₁ p (away p m)) ∙ none₁ p in
        let none₃ : (p : ℕ) → Memᴰ p ds → is_stored ((give_all S t copied s ps w₂).pending p) ≡ false = λ p m. ap (λ (g : ℕ → Entry S.Block). is_stored (g p)) (give_pending S t s copied ps w₂) ∙ none₂ p m in
        let rₕ = rel_gives handed ds _ _ (rel_gives copied ps _ _ r₂ (λ p m e. absurd (copied_handed e))) (λ p m e. none₃ p m) in
        let r₃ = rel_gives extra es _ _ rₕ (λ p m e. absurd (extra_handed e)) in
        let r₄ = rel_each (enter S t s lay) (enter S' t s lay') rs (λ p w v m r. rel_enter M r lay lay' h o p (low p m)) _ _ r₃ in
        let r₅ = rel_drops ds _ _ r₄ (λ p m.
        ap (λ (g : ℕ → Entry S.Block). is_stored (g p)) (enter_pending S t s lay rs w₃ ∙ give_pending S t s extra es wₕ ∙ give_pending S t s handed ds (give_all S t copied s ps w₂)) ∙ none₃ p m) in
        rel_resize M r₅ _ _ (ap sz (ap (λ (y : Files S'.Block). (y s).size) r₅.files))

    module _ (w : Work S) (v : Work S') (r : Rel T D w v) (empty : (p : ℕ) → is_stored (w.pending p) ≡ false) where
      -- WRITE
      pub rel_write : (g off : ℕ) (bs : List ℕ) → off + length bs ≤ 32768 → own_need S s (touched off (length bs)) w.files ≤ S.free w.memory →
          Rel T D (write_file S t g s off bs w) (write_file S' t g s off bs v)
      unfolding write_file
      rel_write g off bs low l =
          rel_change (touched off (length bs)) (touched off (length bs)) [] (extra_pages g off (length bs)) (touched_once off (length bs)) (touched_low off (length bs) low) (λ p m k. elim m [ ])
          (S.over off bs) (S'.over off bs) (M.over off bs) (M.whole_over off bs) (λ n. max n (off + length bs)) w v r empty l

      -- TRUNCATE
      rel_cut : (n z : ℕ) (x y : Bool) → n ≤ 32768 → (x ≡ false → y ≡ false → own_need S s (kept_pages n (resolve t w.files s (n / 512))) w.files ≤ S.free w.memory) →
          Rel T D (truncate_as S t x y s n z w) (truncate_as S' t x y s n z v)
      unfolding truncate_as
      rel_cut n z true y low l = r
      rel_cut n z false true low l =
          rel_change [] [] [] [] tt (λ p m. elim m [ ]) (λ p m k. elim m [ ]) (λ p x. x) (λ p x. x) (λ p x. refl) (λ p x o. o) (λ m. n) w v r empty (none_needed S s w.files (S.free w.memory))
      rel_cut n z false false low l =
          let e = resolve t w.files s (n / 512) in
          rw (kept_same n (resolve t v.files s (n / 512)) e (ap is_stored (rel_res M r s (n / 512)) ∙ map_stored (T.block w.memory) e))
          (rel_change (part_pages n) (kept_pages n e) (dropped_pages n z) [] (kept_once n e) (kept_low n e low) (apart n z e)
          (λ p. S.cut (n % 512)) (λ p. S'.cut (n % 512)) (λ p x. M.cut (n % 512) x) (λ p x. M.whole_cut (n % 512) x) (λ m. n) w v r empty (l refl refl))

      pub rel_truncate : (n : ℕ) → n ≤ 32768 → truncate_need S t s n w.files ≤ S.free w.memory → Rel T D (truncate_file S t s n w) (truncate_file S' t s n v)
      unfolding truncate_file truncate_need
      rel_truncate n low l =
          let z : ℕ = size_by_reading t w.files s in
          let e : size_by_reading t v.files s ≡ z = ap (λ x. size_by_reading t x s) r.files ∙ size_map (T.block w.memory) t w.files s in
          rw e (rel_cut n z (eqb n z) (ltb z n) low (λ x y.
          let a = eqb-false n z x in
          let b = ltb-false z n y in
          rw (lt-ltb n z (omega arith)) at l))

      -- DELETE
      pub rel_delete : Rel T D (delete_file S t s w) (delete_file S' t s v)
      unfolding delete_file delete_as
      rel_delete = rw (ap (λ (y : Files S'.Block). (y s).state) r.files) (go (live (w.files s).state))
        where
          go : (b : Bool) → Rel T D (delete_as S t b s w) (delete_as S' t b s v)
          go true =
              let r₁ = rel_settles (t.children s) w v r in
              let r₂ = rel_gives handed (from 0 64) _ _ r₁ (λ p m e. ap (λ (g : ℕ → Entry S.Block). is_stored (g p)) (settle_pending S t s (t.children s) w) ∙ empty p) in
              rel_erase _ _ r₂ (λ p.
              ap (λ (g : ℕ → Entry S.Block). is_stored (g p)) (give_pending S t s handed (from 0 64) (each (settle S t) (t.children s) w) ∙ settle_pending S t s (t.children s) w) ∙ empty p)
          go false = rel_erase w v r empty
