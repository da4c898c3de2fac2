-- Setting a term on the image of a store in order: the image of a store in order with the same tree, files and pages. Assumes nothing.
use mathlib.Core.Bool.{true}
use mathlib.Core.List.{List}
use mathlib.Core.Path.{◌≡◌, ap, refl, sym, ◌∙◌}
use Prim.Native.Nat.{◌<◌, suc, zero, ℕ, ◌≤◌}
use native.Mathlib.Omega.{arith}
use lib.ListN.{length}
use Rattle.history.proofs.Image.{image_formed, image_store, image_of}
use Rattle.history.specs.Terms.{term_set}
use Rattle.rules.proofs.Terms.Dates.{term_formed_law}
use Rattle.rules.proofs.Terms.TermSet.{term_order, term_tree, with_term_of}
use Rattle.rules.proofs.Whole.Order.{InOrder}
use Rattle.rules.specs.Calls.{Store, tables_of, tree_in, view_of}
use Rattle.rules.specs.Numbers.{lowest}
use Rattle.rules.specs.State.{Tables, set_count}
use Rattle.rules.specs.Storage.{real}
use Rattle.rules.specs.Terms.{term_from}
use Rattle.rules.specs.WellFormed.{term_formed}
use Rattle.tables.proofs.TermCalls.{TermPassed, term_accepted, term_passed, term_refused, term_in}
use Rattle.tables.specs.Calls.{Outcome, store_of}
use Rattle.tables.specs.Packed.{pack, unpack, well_formed}
use Rattle.tables.specs.Terms.{put_term_in}

module _ (B : ℕ) (most : B ≤ 4096) (r : Store real) (o : InOrder B r) (s y m d k : ℕ) where
  abbrev t : List ℕ
  t = (image_of r).tables

  abbrev p : List ℕ
  p = (image_of r).pages

  formed : well_formed t (length p) ≡ true
  formed = image_formed B most r o

  back : store_of t p ≡ r
  back = image_store B most r o

  -- the setting is accepted
  module _ (z : 0 ≡ lowest (term_in t p s y m d k)) where
    passed : TermPassed (view_of real true true (store_of t p)) s y m d k
    passed = term_passed _ s y m d k (sym z)

    pub set_low : s < set_count
    set_low = passed.low

    pub set_used : (r.sets s).used ≡ true
    set_used = ap (λ (x : Store real). (x.sets s).used) (sym back) ∙ passed.used

    pub new_formed : term_formed (term_from y m d k) ≡ true
    new_formed = term_formed_law y m d k passed.exists passed.fits

    abbrev pub new_store : Store real
    new_store = with_term_of B r o s (term_from y m d k) set_used new_formed

    pub new_order : InOrder B new_store
    new_order = term_order B r o s (term_from y m d k) set_used new_formed

    new_tables : put_term_in s (term_from y m d k) (unpack t) ≡ tables_of new_store
    unfolding put_term_in
    new_tables = ap (λ (x : Store real). put_term_in s (term_from y m d k) (tables_of x)) back

    pub new_image : term_set s y m d k (image_of r) ≡ image_of new_store
    new_image =
        ap (λ (x : Outcome). record { tables = x.tables; pages = x.pages }) (term_accepted s y m d k t p formed z)
        ∙ ap (λ (x : Tables). record { tables = pack x; pages = p }) new_tables

  -- it is refused
  module _ (n : ℕ) (e : suc n ≡ lowest (term_in t p s y m d k)) where
    same_image : term_set s y m d k (image_of r) ≡ image_of r
    same_image = ap (λ (x : Outcome). record { tables = x.tables; pages = x.pages }) (term_refused s y m d k t p formed (suc n) e (λ q. omega (arith, q)))

  -- WHAT IS LEFT, in both cases
  pub record Left : Type 0 where
    pub store : Store real
    pub image : term_set s y m d k (image_of r) ≡ image_of store
    pub order : InOrder B store
    pub tree : tree_in real store ≡ tree_in real r
    pub files : store.files ≡ r.files
    pub memory : store.memory ≡ r.memory

  left_by : (n : ℕ) → n ≡ lowest (term_in t p s y m d k) → Left
  left_by zero e = record {
    store = new_store e;
    image = new_image e;
    order = new_order e;
    tree = term_tree r.sets s (term_from y m d k);
    files = refl;
    memory = refl;
  }
  left_by (suc n) e = record { store = r; image = same_image n e; order = o; tree = refl; files = refl; memory = refl }

  pub left : Left
  left = left_by _ refl
