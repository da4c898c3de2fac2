-- A child's turn for a page is its rule: what the page resolved to is supplied; it does not change what the pages of the set resolve to. Assumes nothing.
use mathlib.Core.Bool.{Bool, cond, false, true}
use mathlib.Core.List.{List, Memᴰ, ◌∷◌, []}
use mathlib.Core.Path.{ap, refl, subst, sym, ◌∙◌, ◌≡◌}
use Prim.Native.Nat.{◌<◌, suc, zero, ℕ, ◌≤◌}
use native.Mathlib.Omega.{arith}
use borrow.Author.Tests.{eq-eqb, le-ltb, ne_eqb}
use Rattle.base.specs.Logic.{and_left, test?}
use Rattle.copying.proofs.Chains.{children_are}
use Rattle.copying.proofs.Kept.{entered}
use Rattle.copying.proofs.Steps.{step_as, step_none}
use Rattle.copying.specs.Work.{FirstChild, Going, Ready, Rest, Step, give_as, work}
use Rattle.rules.proofs.Blocks.GoodWork.{not_stored}
use Rattle.rules.proofs.Steps.Handing.{give_leaves, not_reached}
use Rattle.rules.proofs.Steps.OneStep.{TreeOk}
use Rattle.rules.proofs.Blocks.Tidy.{resolve_named}
use Rattle.rules.specs.Reading.{needs, reaches, resolve, shown_entry, walk}
use Rattle.rules.specs.Rules.{Giving, Work, copied, copy, each, extra, give, give_all, give_page, hand, handed, mark, supply}
use Rattle.rules.specs.State.{Entry, File, Files, SetRecord, Tree, chain, children_of, hole, is_stored, live, stored, tree_of, unmapped}
use Rattle.rules.specs.Storage.{free_blocks, real}
use Rattle.tables.specs.Calls.{pages_of}
use Rattle.tables.specs.Packed.{unpack}
use Rattle.tables.specs.Views.{Turns, put_entry_in}
use Rattle.copying.specs.declared.giving.Counts.{Counts}

-- ---- what a resolved page names

-- LAW: a block of the store
pub resolve_below : {t p : List ℕ} {f : ℕ} {k : Counts} {e : Entry ℕ} → Ready t p f k → (s q : ℕ) → e ≡ resolve (tree_of (unpack t).sets) ((unpack t).files f) s q → (b : ℕ) → e ≡ stored b
    → b < (unpack t).blocks
resolve_below {t} {f} re s q ee b h =
    let r = resolve_named (tree_of (unpack t).sets) ((unpack t).files f) s q b (sym ee ∙ h) in
    re.sound.named r.0 q b r.1

pub needs_live : (files : Files ℕ) (c q : ℕ) → needs files c q ≡ true → live (files c).state ≡ true
unfolding needs
needs_live files c q h = and_left (live (files c).state) _ h

-- ---- a page supplied

module _ {t p : List ℕ} {f : ℕ} {k : Counts} (c q b : ℕ) (re : Ready t p f k) where
  free_is : (h : ℕ → Entry ℕ) → real.free (work (unpack t) (pages_of p) f h k).memory ≡ k.left
  unfolding free_blocks
  free_is h = sym re.sound.left_is

  -- no block is free: the child's file is marked, or the page stays unmapped
  supply_full : {t' p' : List ℕ} {k' : Counts} (must : Bool) → k.left ≡ 0 → Step t p t' p' f k k' (λ w. cond must (mark real (tree_of (unpack t).sets) c w) w)
      → Step t p t' p' f k k' (supply real (tree_of (unpack t).sets) must (stored b) c q)
  unfolding supply
  supply_full must z s =
      step_as (supply real (tree_of (unpack t).sets) must (stored b) c q)
      (λ h. rw (eq-eqb (real.free (work (unpack t) (pages_of p) f h k).memory) 0 (free_is h ∙ z))) s

  pub supply_mark : {t' p' : List ℕ} {k' : Counts} (must : Bool) → must ≡ true → k.left ≡ 0 → Step t p t' p' f k k' (mark real (tree_of (unpack t).sets) c)
      → Step t p t' p' f k k' (supply real (tree_of (unpack t).sets) must (stored b) c q)
  supply_mark must e z s = supply_full must z (step_as (λ w. cond must (mark real (tree_of (unpack t).sets) c w) w) (λ h. rw e) s)

  pub supply_leave : (must : Bool) → must ≡ false → k.left ≡ 0 → Step t p t p f k k (supply real (tree_of (unpack t).sets) must (stored b) c q)
  supply_leave must e z = supply_full must z (step_as (λ w. cond must (mark real (tree_of (unpack t).sets) c w) w) (λ h. rw e) (step_none re))

  pub supply_copy : {t' p' : List ℕ} {k' : Counts} (must : Bool) → (k.left ≡ 0 → ⊥) → Step t p t' p' f k k' (copy real (tree_of (unpack t).sets) b c q)
      → Step t p t' p' f k k' (supply real (tree_of (unpack t).sets) must (stored b) c q)
  unfolding supply
  supply_copy must z s =
      step_as (supply real (tree_of (unpack t).sets) must (stored b) c q)
      (λ h. rw (ne_eqb (real.free (work (unpack t) (pages_of p) f h k).memory) 0 (λ e. z (sym (free_is h) ∙ e)))) s

pub supply_none : {t p : List ℕ} {f : ℕ} {k : Counts} (must : Bool) (c q : ℕ) → Ready t p f k → Step t p t p f k k (supply real (tree_of (unpack t).sets) must unmapped c q)
unfolding supply
supply_none must c q re = step_none re

pub supply_hole : {t p t' : List ℕ} {f : ℕ} {k : Counts} (must : Bool) (c q : ℕ) → Ready t p f k → Turns t t' (put_entry_in f c q hole)
    → Step t p t' p f k k (supply real (tree_of (unpack t).sets) must hole c q)
unfolding supply
supply_hole {f} must c q re u = entered f c q hole u re (λ b e. absurd (not_stored hole b refl e))

pub supply_as : {t p t' p' : List ℕ} {f : ℕ} {k k' : Counts} (must : Bool) (c q : ℕ) (e e' : Entry ℕ) → e' ≡ e → Step t p t' p' f k k' (supply real (tree_of (unpack t).sets) must e c q)
    → Step t p t' p' f k k' (supply real (tree_of (unpack t).sets) must e' c q)
supply_as {t} {p} {t'} {p'} {f} {k} {k'} must c q e e' h s = subst (λ (x : Entry ℕ). Step t p t' p' f k k' (supply real (tree_of (unpack t).sets) must x c q)) (sym h) s

-- ---- a turn

module _ {t p : List ℕ} {f : ℕ} {k : Counts} (must : Bool) (e : Entry ℕ) (q c : ℕ) where
  pub give_not : Ready t p f k → needs ((unpack t).files f) c q ≡ false → Step t p t p f k k (give_as (tree_of (unpack t).sets) must e q c)
  give_not re n = step_as (give_as (tree_of (unpack t).sets) must e q c) (λ h. rw n) (step_none re)

  pub give_so : {t' p' : List ℕ} {k' : Counts} → needs ((unpack t).files f) c q ≡ true → Step t p t' p' f k k' (supply real (tree_of (unpack t).sets) must e c q)
      → Step t p t' p' f k k' (give_as (tree_of (unpack t).sets) must e q c)
  give_so nd x = step_as (give_as (tree_of (unpack t).sets) must e q c) (λ h. rw nd) x

-- ---- a turn does not change what the pages of set s resolve to

module _ (tr : Tree) (must : Bool) (c : ℕ) (ok : TreeOk tr) where
  -- no set is another one of the same level
  above : (x : ℕ) → tr.level x < tr.level c → c ≡ x → ⊥
  above x l d = let z : tr.level c ≡ tr.level x = ap tr.level d in omega arith

  -- no map of a set above c changes, whether c gets the page or is marked
  give_above : (s q : ℕ) (w : Work real) (x : ℕ) → tr.level x < tr.level c → ((give real tr must s q c w).files x).map ≡ (w.files x).map
  unfolding reaches
  give_above s q w x l = ap (λ (y : File ℕ). y.map) (give_leaves real tr s c x (above x l) (λ files. not_reached tr ok files c (tr.level x) x refl l) must q w)

  module _ (files files' : Files ℕ) (same : (x : ℕ) → tr.level x < tr.level c → (files' x).map ≡ (files x).map) (q : ℕ) where
    -- a walk from a set above c
    walk_same : (n x : ℕ) → tr.level x ≡ n → n < tr.level c
        → walk tr.parent (λ (y : File ℕ). shown_entry (y.map q)) hole n files' x ≡ walk tr.parent (λ (y : File ℕ). shown_entry (y.map q)) hole n files x
    unfolding walk
    walk_same zero x e l = rw (same x (omega arith))
    walk_same (suc n) x e l = rw (same x (omega arith), walk_same n (tr.parent x) (ok.lower x n e) (omega arith))

  -- LAW: a child's turn
  pub give_shown : (s q : ℕ) → Memᴰ c (tr.children s) → (w : Work real) (x : ℕ) → resolve tr (give real tr must s q c w).files s x ≡ resolve tr w.files s x
  unfolding resolve
  give_shown s q m w x =
      let l = ok.kid_lvl s c m in
      walk_same w.files (give real tr must s q c w).files (λ y n. give_above s q w y n) x (tr.level s) s refl (omega arith)

-- LAW: turns for what page q of set s resolves to, of some of its children, are the rule's
pub given_as : (tr : Tree) (must : Bool) → TreeOk tr → (s q : ℕ) (e : Entry ℕ) (cs : List ℕ) → ((x : ℕ) → Memᴰ x cs → Memᴰ x (tr.children s)) → (w : Work real) → resolve tr w.files s q ≡ e
    → each (give_as tr must e q) cs w ≡ each (give real tr must s q) cs w
unfolding each give
given_as tr must ok s q e [] within w h = refl
given_as tr must ok s q e (c ∷ cs) within w h =
    ap (λ (y : Entry ℕ). each (give_as tr must e q) cs (give_as tr must y q c w)) (sym h)
    ∙ given_as tr must ok s q e cs (λ x m. within x (Memᴰ.tail m)) (give real tr must s q c w) (give_shown tr must c ok s q (within c (Memᴰ.head refl)) w q ∙ h)

-- a set's turn for page q, which resolves to e
abbrev pub giving_as : Bool → Entry ℕ → ℕ → (ℕ → SetRecord) → ℕ → Work real → Work real
giving_as must e q sets = give_as (tree_of sets) must e q

-- LAW: the block of a page is one of the store, whatever has been done
pub below_same : {t₀ p₀ t p : List ℕ} {f : ℕ} {k₀ k : Counts} {op todo : Work real → Work real} {e : Entry ℕ} → Going t₀ p₀ t p f k₀ k op todo → ((b : ℕ) → e ≡ stored b → b < (unpack t₀).blocks)
    → (b : ℕ) → e ≡ stored b → b < (unpack t).blocks
below_same {t₀} {p₀} {t} g h b e = subst (λ n. b < n) (sym (ap (λ (r : Rest). r.blocks) g.same)) (h b e)

-- ---- no child

each_none : {W : Type 0} (f : ℕ → W → W) → ((x : ℕ) (w : W) → f x w ≡ w) → (xs : List ℕ) (w : W) → w ≡ each f xs w
unfolding each
each_none f h [] w = refl
each_none f h (x ∷ xs) w = each_none f h xs w ∙ ap (each f xs) (sym (h x w))

no_children : (sets : ℕ → SetRecord) (s c : ℕ) → FirstChild sets s c → 8 ≤ c → children_of sets s ≡ []
unfolding chain
no_children sets s c h l = children_are sets s c h ∙ rw (le-ltb c 8 l)

page_none : (tr : Tree) (how : Giving) (s : ℕ) → tr.children s ≡ [] → (q : ℕ) (w : Work real) → give_page real tr how s q w ≡ w
unfolding give_page hand each
page_none tr copied s e q w = rw e
page_none tr extra s e q w = rw e
page_none tr handed s e q w = test? (is_stored ((w.files s).map q)) (λ d. rw (d, e)) (λ d. rw (d, e))

-- LAW: set s has no child
pub give_none : {t p : List ℕ} {f : ℕ} {k : Counts} (how : Giving) (s c : ℕ) (qs : List ℕ) → Ready t p f k → FirstChild (unpack t).sets s c → 8 ≤ c
    → Step t p t p f k k (give_all real (tree_of (unpack t).sets) how s qs)
unfolding give_all
give_none {t} how s c qs re h l =
    let sets = (unpack t).sets in
    step_as (give_all real (tree_of sets) how s qs)
    (λ i. each_none (give_page real (tree_of sets) how s) (page_none (tree_of sets) how s (no_children sets s c h l)) qs _) (step_none re)
