-- CONVERSION KEEPS THE HISTORY. Document 02, Asks 8 and 10: older tables of either length are converted, and the plain store that agreed with them, and the tally with its
-- marked files cleared, agree with the new ones, through every list of events that follows. Tables that are new already come out as they are.
use Rattle.std.specs.Prelude.{cond, true, List, [], ◌≡◌, ◌+◌, ℕ, length}
use Rattle.base.specs.Count.{sum}
use Rattle.history.specs.Demand3.{Follows}
use Rattle.history.specs.Events.{Event}
use Rattle.history.specs.Image.{Held, Image, image_left, store_in}
use Rattle.packing.specs.Words.{Bytes}
use Rattle.rules.specs.Agreement.{Agrees, AgreesPlain, AgreesTally}
use Rattle.rules.specs.Calls.{Store}
use Rattle.rules.specs.Numbers.{no_counts}
use Rattle.rules.specs.Plain.{Plain}
use Rattle.rules.specs.State.{file_count, is_marked, marked, set_count, unmapped}
use Rattle.rules.specs.Storage.{real}
use Rattle.rules.specs.Tally.{Tally, stored_pages}
use Rattle.rules.specs.Terms.{default_term}
use Rattle.tables.specs.Calls.{looked_at}
use Rattle.tables.specs.Convert.{Cleared, Widened, cleared, convert_on, old_table_bytes, older_unpack, older_well_formed, store_with}
use Rattle.tables.specs.Layout.{table_bytes}
use Rattle.tables.specs.Packed.{well_formed}

-- ANY WELL-FORMED BYTES that agree with a plain store and a tally, whatever calls led to them, follow these under every list of events, as demand 3 says of the lists
-- from a format on
abbrev pub GoesOnClaim : Type 0
GoesOnClaim =
    (h : Held) → Bytes h.image.tables → well_formed h.image.tables (length h.image.pages) ≡ true → (pl : Plain) (ta : Tally) → Agrees (store_in h.image) pl ta
    → (es : List Event) → Follows h pl ta es

-- the store that older tables, of either length, hold with their pages
abbrev pub older_store_in : Image → Store real
older_store_in m = store_with (older_unpack m.tables) m.pages

-- the tables that the converter makes of older ones in a second buffer, with the same pages
abbrev pub converted : Image → List ℕ → Image
converted m second = image_left (convert_on m.tables m.pages second)

-- "older tables of either length": u is tables t in the present length
pub data Lengthened (t u : List ℕ) : Type 0 where
  -- of document 01's length: "Each set record grows at its end by 4 bytes ... adding the default term to used sets"
  with_terms : length t ≡ old_table_bytes → Widened t u → Lengthened t u
  -- of the present length: "keeping terms already there"
  as_they_are : length t ≡ table_bytes → t ≡ u → Lengthened t u

-- the tally with its marked files cleared: each is left with "size 0 and all entries unmapped", and the blocks that they held are free
unfoldable pub cleared_tally : Tally → Tally
cleared_tally ta = record {
  tree = ta.tree;
  files = λ f s. cond (is_marked (ta.files f s).state) (record { state = marked; size = 0; map = λ p. unmapped }) (ta.files f s);
  free = ta.free + sum set_count (λ s. sum file_count (λ f. cond (is_marked (ta.files f s).state) (stored_pages (ta.files f s)) 0));
}

-- older tables, well formed by the rules of their time, and a second buffer of the present length
pub record Conversion (m : Image) (second : List ℕ) : Type 0 where
  -- the conversion is accepted
  pub answer : (convert_on m.tables m.pages second).answer ≡ no_counts
  -- every byte of the new tables: they are the older ones in the present length, with the marked files cleared
  pub bytes : (u : List ℕ) × Lengthened m.tables u × Cleared u (converted m second).tables
  -- they are well formed by the present rules
  pub formed : well_formed (converted m second).tables (length m.pages) ≡ true
  -- they hold the store that the older tables hold, with the marked files cleared; sets with their terms and all else as they stood
  pub same : store_in (converted m second) ≡ store_with (cleared (older_unpack m.tables)) m.pages
  -- a plain store that agrees with the older tables agrees with the new ones: marked files are not compared, and no other file reads through one
  pub plain : (pl : Plain) → AgreesPlain (older_store_in m) pl → AgreesPlain (store_in (converted m second)) pl
  -- a tally that agrees with the older tables agrees, with its marked files cleared, with the new ones
  pub tally : (ta : Tally) → AgreesTally (older_store_in m) ta → AgreesTally (store_in (converted m second)) (cleared_tally ta)
  -- so a store from before goes on under demand 3
  pub goes_on : (pl : Plain) (ta : Tally) → Agrees (older_store_in m) pl ta → (registers : List ℕ) (es : List Event)
      → Follows (record { image = converted m second; registers = registers }) pl (cleared_tally ta) es

-- of any tables, pages and second buffer
abbrev pub ConversionClaim : Type 0
ConversionClaim =
    (m : Image) (second : List ℕ) → Bytes m.tables → older_well_formed m.tables (length m.pages) ≡ true → length second ≡ table_bytes → Conversion m second

-- TABLES THAT ARE NEW ALREADY come out as they are: those that "well formed" as it is now takes, in any second buffer
abbrev pub NewAlreadyClaim : Type 0
NewAlreadyClaim =
    (t p second : List ℕ) → Bytes t → well_formed t (length p) ≡ true → length second ≡ table_bytes → convert_on t p second ≡ looked_at no_counts t p []

-- AND IT MAKES EVERY STORE that had no term set: well-formed tables whose used sets have the default term are what the converter makes of some tables of document 01's
-- length, with the same pages, in any second buffer
abbrev pub EveryStoreClaim : Type 0
EveryStoreClaim =
    (m : Image) → Bytes m.tables → well_formed m.tables (length m.pages) ≡ true
    → ((s : ℕ) → ((store_in m).sets s).used ≡ true → ((store_in m).sets s).term ≡ default_term)
    → (old : List ℕ) × (length old ≡ old_table_bytes) × Bytes old
    × ((second : List ℕ) → length second ≡ table_bytes → convert_on old m.pages second ≡ looked_at no_counts m.tables m.pages [])
