-- The outcomes of a listing. Assumes nothing.
use mathlib.Core.Bool.{false, true}
use mathlib.Core.List.{List}
use mathlib.Core.Path.{ap, ◌∙◌, ◌≡◌}
use Prim.Native.Nat.{◌<◌, ℕ, ◌≤◌}
use native.Mathlib.Omega.{arith}
use lib.ListN.{length, length-replicate, replicate}
use borrow.Author.Tests.{le-leb, lt-leb}
use Rattle.std.specs.Prelude.{Err, Ok}
use Rattle.listing.proofs.Whole.{listing_is}
use Rattle.listing.proofs.Writing.{wrote_as, wrote_front, wrote_size}
use Rattle.listing.specs.Listing.{list_into, list_on, list_outcome, listing}
use Rattle.listing.specs.Written.{Wrote, visit_set}
use Rattle.tables.proofs.FormedStore.{FormedStore, formed_store}
use Rattle.tables.specs.Packed.{unpack, well_formed}
use Rattle.listing.specs.declared.store.ListError.TheVariants.{NotWellFormed, TooSmall}

-- what well-formed tables give, whatever the pages hold
pub formed_tables : (t : List ℕ) (n : ℕ) → well_formed t n ≡ true → FormedStore t (replicate n 0)
formed_tables t n h = formed_store t (replicate n 0) (ap (well_formed t) (length-replicate n 0) ∙ h)

module _ (t : List ℕ) (n : ℕ) where
  -- tables that are not well formed
  pub not_listed : (d : List ℕ) → well_formed t n ≡ false → list_outcome (Err NotWellFormed) d ≡ list_on t n d
  unfolding list_on
  not_listed d h = rw h

  module _ (h : well_formed t n ≡ true) where
    -- the text that was written is the listing
    whole_text : (d e : List ℕ) (m : ℕ) → Wrote d e 0 m (visit_set (unpack t) 16 8 0).text → Wrote d e 0 m (listing (unpack t))
    whole_text d e m w = wrote_as (listing_is (unpack t) (formed_tables t n h).sets_ok) w

    -- as much of it as fits, and the whole of it
    pub listed_short : (d e : List ℕ) (m : ℕ) → Wrote d e 0 m (visit_set (unpack t) 16 8 0).text → length d < m → list_outcome (Err (TooSmall m)) e ≡ list_on t n d
    unfolding list_on list_into
    listed_short d e m v l =
        let w = whole_text d e m v in
        let p = wrote_size w in
        rw h (rw (lt-leb (length (listing (unpack t))) (length d) (omega arith)) (λ i. record { number = 0; whole = false; size = p i; buffer = wrote_front w i }))

    pub listed_whole : (d e : List ℕ) (m : ℕ) → Wrote d e 0 m (visit_set (unpack t) 16 8 0).text → m ≤ length d → list_outcome (Ok m) e ≡ list_on t n d
    unfolding list_on list_into
    listed_whole d e m v l =
        let w = whole_text d e m v in
        let p = wrote_size w in
        rw h (rw (le-leb (length (listing (unpack t))) (length d) (omega arith)) (λ i. record { number = 0; whole = true; size = p i; buffer = wrote_front w i }))
