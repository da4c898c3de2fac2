-- A marked file has size 0 and only unmapped entries: every step keeps this of all files but the one that is changed, and that one is then own or absent. Over any
-- storage. Assumes nothing.
use mathlib.Core.Bool.{Bool, cond, false, true, true≢false}
use mathlib.Core.List.{List, Memᴰ, ◌∷◌, []}
use mathlib.Core.Path.{◌≡◌, ap, refl, subst, sym, ◌∙◌}
use Prim.Native.Nat.{ℕ}
use lib.Dec.{eqb}
use Rattle.base.specs.Logic.{same?, test?}
use Rattle.base.specs.Update.{upd, upd_other, upd_same}
use Rattle.rules.proofs.Steps.Handing.{ProperTree, some_leave}
use Rattle.rules.proofs.Steps.StepFour.{each_inv, needs_alive}
use Rattle.rules.proofs.Steps.WriterSteps.{NoDup}
use Rattle.rules.specs.Reading.{needs, reaches, resolve}
use Rattle.rules.specs.Rules.{Giving, Work, change, copied, copy, delete_as, delete_file, drop_page, each, enter, enter_as, erase_file, extra, from, give, give_all, give_page, hand, hand_over, handed, mark, mark_down, marked_file, page_of, put_entry, reserve, reserve_as, resize, settle, settle_as, settle_file, supply, take_own}
use Rattle.rules.specs.State.{Entry, File, Files, State, Tree, absent, absent_file, hole, is_stored, live, marked, own, page_count, stored, unmapped, virgin}
use Rattle.rules.specs.Storage.{Storage}

-- an own or virgin file is not marked
not_marked : (l : State) → live l ≡ true → l ≡ marked → ⊥
not_marked l h e = true≢false (sym h ∙ ap live e)

module _ {K : Type 0} where
  abbrev Bare : File K → Type 0
  Bare x = x.state ≡ marked → x ≡ marked_file

  -- every marked file is bare
  abbrev pub MarkedBare : Files K → Type 0
  MarkedBare files = (x : ℕ) → Bare (files x)

  -- every one but that of set s
  abbrev BareBut : ℕ → Files K → Type 0
  BareBut s files = (x : ℕ) → (s ≡ x → ⊥) → Bare (files x)

  -- one file becomes y
  bare_put : (s : ℕ) (files : Files K) → BareBut s files → (c : ℕ) (y : File K) → ((s ≡ c → ⊥) → Bare y) → BareBut s (upd files c y)
  bare_put s files b c y h x n =
      same? c x
      (λ q. subst (λ z. Bare (upd files c y z)) q (rw (upd_same files c y) (h (λ e. n (e ∙ q)))))
      (λ d. rw (upd_other files c y x d) (b x n))

  -- and the one of set s too
  pub bare_whole : (s : ℕ) (files : Files K) → BareBut s files → (y : File K) → Bare y → MarkedBare (upd files s y)
  bare_whole s files b y h x =
      same? s x (λ q. subst (λ z. Bare (upd files s y z)) q (rw (upd_same files s y) h)) (λ d. rw (upd_other files s y x d) (b x d))

  -- an entry of the file that is changed, or of one that is own or virgin
  bare_entry : (s : ℕ) (files : Files K) → BareBut s files → (c p : ℕ) (e : Entry K) → ((s ≡ c → ⊥) → live (files c).state ≡ true) → BareBut s (put_entry files c p e)
  unfolding put_entry
  bare_entry s files b c p e h = bare_put s files b c _ (λ n m. absurd (not_marked (files c).state (h n) m))

  bare_settle : (t : Tree) (s : ℕ) (files : Files K) → BareBut s files → (c : ℕ) → BareBut s (settle_file t c files)
  unfolding settle_file settle_as
  bare_settle t s files b c = go (files c).state
    where
      go : (l : State) → BareBut s (settle_as l t files c)
      go absent = b
      go own = b
      go virgin = bare_put s files b c _ (λ n m. cc)
      go marked = b

  bare_mark : (t : Tree) (s : ℕ) (files : Files K) → BareBut s files → (c : ℕ) → BareBut s (mark_down t files c)
  unfolding mark_down
  bare_mark t s files b c x n = test? (reaches t files c x) (λ e. rw e (λ m. refl)) (λ e. rw e (b x n))

module _ (S : Storage) (t : Tree) (s : ℕ) where
  abbrev BareW : Work S → Type 0
  BareW w = BareBut s w.files

  bare_supply : (must : Bool) (e : Entry S.Block) (p c : ℕ) (w : Work S) → BareW w → live (w.files c).state ≡ true → BareW (supply S t must e c p w)
  unfolding supply copy mark
  bare_supply must unmapped p c w b a = b
  bare_supply must hole p c w b a = bare_entry s w.files b c p hole (λ n. a)
  bare_supply must (stored k) p c w b a =
      test? {P = BareW (supply S t must (stored k) c p w)} (eqb (S.free w.memory) 0)
      (λ z. rw (z, supply) (search (full must)))
      (λ z. rw (z, supply) (bare_entry s w.files b c p _ (λ n. a)))
    where
      full : (must : Bool) → BareW (cond must (mark S t c w) w)
      full true = bare_mark t s w.files b c
      full false = b

  bare_give : (must : Bool) (p c : ℕ) (w : Work S) → BareW w → BareW (give S t must s p c w)
  unfolding give
  bare_give must p c w b =
      test? (needs w.files c p) (λ n. rw n (bare_supply must (resolve t w.files s p) p c w b (needs_alive w.files c p n))) (λ n. rw n b)

  bare_some : (must : Bool) (p : ℕ) (cs : List ℕ) (w : Work S) → BareW w → BareW (each (give S t must s p) cs w)
  bare_some must p cs w b = each_inv (give S t must s p) BareW cs (λ c u m i. bare_give must p c u i) w b

  module _ (proper : ProperTree t) where
    bare_hand : (p : ℕ) (cs : List ℕ) → ((d : ℕ) → Memᴰ d cs → Memᴰ d (t.children s)) → NoDup cs → (w : Work S) → BareW w → BareW (hand S t s p cs w)
    unfolding hand hand_over
    bare_hand p [] kids nd w b = b
    bare_hand p (c ∷ cs) kids nd w b =
        let inside : (d : ℕ) → Memᴰ d cs → Memᴰ d (t.children s) = λ d m. kids d (Memᴰ.tail m) in
        let v : Work S = each (give S t true s p) cs w in
        test? (needs w.files c p)
        (λ n. let a : live (v.files c).state ≡ true =
        ap (λ (x : File S.Block). live x.state) (some_leave S t proper.ok true s p cs inside w c (kids c (Memᴰ.head refl)) nd.0) ∙ needs_alive w.files c p n in
        rw n (bare_entry s (put_entry v.files c p ((v.files s).map p)) (bare_entry s v.files (bare_some true p cs w b) c p ((v.files s).map p) (λ o. a)) s p hole (λ o. absurd (o refl))))
        (λ n. rw n (bare_hand p cs inside nd.1 w b))

    bare_page : (how : Giving) (p : ℕ) (w : Work S) → BareW w → BareW (give_page S t how s p w)
    unfolding give_page
    bare_page copied p w b = bare_some true p (t.children s) w b
    bare_page extra p w b = bare_some false p (t.children s) w b
    bare_page handed p w b =
        test? (is_stored ((w.files s).map p)) (λ e. rw e (bare_hand p (t.children s) (λ d m. m) (proper.once s) w b)) (λ e. rw e (bare_some true p (t.children s) w b))

    bare_give_all : (how : Giving) (ps : List ℕ) (w : Work S) → BareW w → BareW (give_all S t how s ps w)
    unfolding give_all
    bare_give_all how ps w b = each_inv (give_page S t how s) BareW ps (λ p v m i. bare_page how p v i) w b

  bare_settle_each : (cs : List ℕ) (w : Work S) → BareW w → BareW (each (settle S t) cs w)
  unfolding settle
  bare_settle_each cs w b = each_inv (settle S t) BareW cs (λ c v m i. bare_settle t s v.files i c) w b

  bare_reserve : (p : ℕ) (w : Work S) → BareW w → BareW (reserve S t s p w)
  unfolding reserve reserve_as take_own
  bare_reserve p w b = go ((w.files s).map p)
    where
      go : (e : Entry S.Block) → BareW (reserve_as S t e p w)
      go unmapped = b
      go hole = b
      go (stored k) = b

  bare_enter : (lay : ℕ → S.Page → S.Page) (p : ℕ) (w : Work S) → BareW w → BareW (enter S t s lay p w)
  unfolding enter enter_as
  bare_enter lay p w b = go (w.pending p)
    where
      go : (e : Entry S.Block) → BareW (enter_as S t e s p (lay p (page_of S w.memory (resolve t w.files s p))) w)
      go unmapped = b
      go hole = b
      go (stored k) = bare_entry s w.files b s p _ (λ n. absurd (n refl))

  bare_drop : (p : ℕ) (w : Work S) → BareW w → BareW (drop_page S t s p w)
  unfolding drop_page
  bare_drop p w b = bare_entry s w.files b s p hole (λ n. absurd (n refl))

  -- any change of one file
  pub bare_change : ProperTree t → (ps rs ds es : List ℕ) (lay : ℕ → S.Page → S.Page) (resized : ℕ → ℕ) (w : Work S) → MarkedBare w.files → MarkedBare (change S t s ps rs ds es lay resized w).files
  unfolding change resize
  bare_change proper ps rs ds es lay resized w b =
      let w₁ : Work S = each (settle S t) (s ∷ t.children s) w in
      let w₂ : Work S = each (reserve S t s) rs w₁ in
      let w₃ : Work S = give_all S t extra s es (give_all S t handed s ds (give_all S t copied s ps w₂)) in
      let w₄ : Work S = each (enter S t s lay) rs w₃ in
      let w₅ : Work S = each (drop_page S t s) ds w₄ in
      let b₁ : BareW w₁ = bare_settle_each (s ∷ t.children s) w (λ x n. b x) in
      let b₂ : BareW w₂ = each_inv (reserve S t s) BareW rs (λ p v m i. bare_reserve p v i) w₁ b₁ in
      let b₃ : BareW w₃ = bare_give_all proper extra es _ (bare_give_all proper handed ds _ (bare_give_all proper copied ps w₂ b₂)) in
      let b₄ : BareW w₄ = each_inv (enter S t s lay) BareW rs (λ p v m i. bare_enter lay p v i) w₃ b₃ in
      let b₅ : BareW w₅ = each_inv (drop_page S t s) BareW ds (λ p v m i. bare_drop p v i) w₄ b₄ in
      bare_whole s w₅.files b₅ _ (λ m. cc)

  bare_erase : (w : Work S) → BareW w → MarkedBare (erase_file S t s w).files
  unfolding erase_file
  bare_erase w b = bare_whole s w.files b absent_file (λ m. cc)

  pub bare_delete : ProperTree t → (w : Work S) → MarkedBare w.files → MarkedBare (delete_file S t s w).files
  unfolding delete_file delete_as
  bare_delete proper w b = go (live (w.files s).state)
    where
      go : (d : Bool) → MarkedBare (delete_as S t d s w).files
      go true = bare_erase (give_all S t handed s (from 0 page_count) (each (settle S t) (t.children s) w))
          (bare_give_all proper handed (from 0 page_count) (each (settle S t) (t.children s) w) (bare_settle_each (t.children s) w (λ x n. b x)))
      go false = bare_erase w (λ x n. b x)
