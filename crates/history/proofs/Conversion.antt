-- Well-formed bytes that agree with a plain store and a tally go on under demand 3; conversion keeps the history. Assumes nothing.
use mathlib.Core.Bool.{true}
use mathlib.Core.List.{List, []}
use mathlib.Core.Logic.{⊎_elim}
use mathlib.Core.Path.{◌≡◌, ap, refl, subst, sym, ◌∙◌}
use Prim.Native.Nat.{ℕ}
use lib.ListN.{length}
use Rattle.history.proofs.ClearedTally.{clear_tally}
use Rattle.history.proofs.Demand3.{follows_of}
use Rattle.history.proofs.Formed.{formed, image_of_law, order_of}
use Rattle.history.specs.Conversion.{Conversion, ConversionClaim, EveryStoreClaim, GoesOnClaim, Lengthened, NewAlreadyClaim, as_they_are, cleared_tally, converted, older_store_in, with_terms}
use Rattle.history.specs.Demand3.{Follows}
use Rattle.history.specs.Events.{Event}
use Rattle.history.specs.Image.{Image, image_left, store_in}
use Rattle.packing.specs.Words.{Bytes}
use Rattle.rules.proofs.Formed.FilesFormed.{FilesBefore}
use Rattle.rules.proofs.Whole.Clearing.{clear_past, clear_plain}
use Rattle.rules.proofs.Whole.HoldsOf.{holds_of}
use Rattle.rules.specs.Agreement.{Agrees, AgreesPlain, AgreesTally}
use Rattle.rules.specs.Calls.{Store, tree_in}
use Rattle.rules.specs.Numbers.{no_counts}
use Rattle.rules.specs.Plain.{Plain}
use Rattle.rules.specs.State.{Tables}
use Rattle.rules.specs.Storage.{real}
use Rattle.rules.specs.Tally.{Tally}
use Rattle.tables.proofs.Clearing.{Older, blocks_before, clear_bytes, clear_formed, clear_holds, clear_same, clears, is_cleared, old_taken, older_old, older_termed, state_before, taken_of, termed_taken}
use Rattle.tables.proofs.Narrowing.{narrowed, narrowed_bytes, narrowed_formed, narrowed_length}
use Rattle.tables.proofs.OneReading.{formed_termed, termed_packed}
use Rattle.tables.proofs.Widening.{convert_accepted, converted_is, is_widened, old_length, widened}
use Rattle.tables.specs.Calls.{Outcome, looked_at}
use Rattle.tables.specs.Convert.{Cleared, cleared, older_well_formed, store_with}
use Rattle.tables.specs.Layout.{table_bytes}
use Rattle.tables.specs.Packed.{pack, termed_well_formed, unpack, well_formed}

-- THEOREM
pub goes_on : GoesOnClaim
goes_on h bs f pl ta a es =
    let t : List ℕ = h.image.tables in
    let p : List ℕ = h.image.pages in
    let header = (formed t p f).header in
    subst (λ (m : Image). Follows (record { image = m; registers = h.registers }) pl ta es) (image_of_law t p f bs)
    (follows_of (unpack t).blocks header.at_least header.most (store_in h.image) h.registers pl ta
    (holds_of (unpack t).blocks (store_in h.image) pl ta a (order_of t p f)) es)

-- older tables of the present length, u, with pages
module _ (u p : List ℕ) (bs : Bytes u) (f : termed_well_formed u (length p) ≡ true) where
  abbrev t' : List ℕ
  t' = pack (cleared (unpack u))

  abbrev older : Store real
  older = store_with (unpack u) p

  abbrev after : Store real
  after = store_with (cleared (unpack u)) p

  files_before : (f : ℕ) → FilesBefore (tree_in real older) (older.files f)
  files_before = (state_before u (length p) f).files_before

  -- what agreed with them agrees with the cleared ones
  plain_after : (pl : Plain) → AgreesPlain older pl → AgreesPlain after pl
  plain_after = clear_plain older after (clears u p) files_before

  tally_after : (ta : Tally) → AgreesTally older ta → AgreesTally after (cleared_tally ta)
  tally_after ta a = clear_tally older after (clears u p) (blocks_before u (length p) f p) ta a

  agrees_after : (pl : Plain) (ta : Tally) → Agrees older pl ta → Agrees after pl (cleared_tally ta)
  agrees_after pl ta a = record {
    plain = plain_after pl a.plain;
    tally = tally_after ta a.tally;
    past = clear_past older after (clears u p) files_before a.past;
  }

  -- the image that is left holds the cleared store
  image_holds : store_in (record { tables = t'; pages = p }) ≡ after
  image_holds = ap (λ (tb : Tables). store_with tb p) (clear_holds u bs (length p) f)

  follows_after : (pl : Plain) (ta : Tally) → Agrees older pl ta → (registers : List ℕ) (es : List Event)
      → Follows (record { image = record { tables = t'; pages = p }; registers = registers }) pl (cleared_tally ta) es
  follows_after pl ta a registers es =
      goes_on (record { image = record { tables = t'; pages = p }; registers = registers }) (clear_bytes u bs (length p) f) (clear_formed u bs (length p) f) pl (cleared_tally ta)
      (subst (λ (x : Store real). Agrees x pl (cleared_tally ta)) (sym image_holds) (agrees_after pl ta a)) es

-- tables m of either length, u in the present one
module _ (m : Image) (second : List ℕ) (taken : older_well_formed m.tables (length m.pages) ≡ true) (l : length second ≡ table_bytes) (u : List ℕ)
    (k : Older m.tables u (length m.pages)) (long : Lengthened m.tables u) where
  abbrev p : List ℕ
  p = m.pages

  abbrev n : ℕ
  n = length p

  abbrev new : Image
  new = record { tables = pack (cleared (unpack u)); pages = p }

  left_image : converted m second ≡ new
  left_image = ap image_left (convert_accepted m.tables p second taken l) ∙ ap (λ (tb : Tables). record { tables = pack (cleared tb); pages = p }) k.holds

  older_store : older_store_in m ≡ store_with (unpack u) p
  older_store = ap (λ (tb : Tables). store_with tb p) k.holds

  store_left : store_in (converted m second) ≡ store_with (cleared (unpack u)) p
  store_left = ap store_in left_image ∙ image_holds u p k.bytes k.formed

  conversion_of : Conversion m second
  conversion_of = record {
    answer = ap (λ (o : Outcome). o.answer) (convert_accepted m.tables p second taken l);
    bytes = (u, long, subst (λ (x : Image). Cleared u x.tables) (sym left_image) (is_cleared u k.bytes n k.formed));
    formed = subst (λ (x : Image). well_formed x.tables n ≡ true) (sym left_image) (clear_formed u k.bytes n k.formed);
    same = store_left ∙ ap (λ (tb : Tables). store_with (cleared tb) p) (sym k.holds);
    plain = λ pl a.
        subst (λ (x : Store real). AgreesPlain x pl) (sym store_left) (plain_after u p k.bytes k.formed pl (subst (λ (x : Store real). AgreesPlain x pl) older_store a));
    tally = λ ta a.
        subst (λ (x : Store real). AgreesTally x (cleared_tally ta)) (sym store_left)
        (tally_after u p k.bytes k.formed ta (subst (λ (x : Store real). AgreesTally x ta) older_store a));
    goes_on = λ pl ta a registers es.
        subst (λ (x : Image). Follows (record { image = x; registers = registers }) pl (cleared_tally ta) es) (sym left_image)
        (follows_after u p k.bytes k.formed pl ta (subst (λ (x : Store real). Agrees x pl ta) older_store a) registers es);
  }

-- THEOREM
pub conversion : ConversionClaim
conversion m second bs f l =
    let t : List ℕ = m.tables in
    let n : ℕ = length m.pages in
    ⊎_elim
    (λ h. conversion_of m second f l (widened t) (older_old t bs n h) (with_terms (old_length t n h) (is_widened t)))
    (λ h. conversion_of m second f l t (older_termed t bs n h) (as_they_are (termed_packed t n h).len refl))
    (taken_of t n f)

-- THEOREM
pub new_already : NewAlreadyClaim
new_already t p second bs f l =
    let n : ℕ = length p in
    let h : termed_well_formed t n ≡ true = formed_termed t n f in
    convert_accepted t p second (termed_taken t n h) l
    ∙ ap (λ (x : List ℕ). looked_at no_counts x p []) (ap (λ (tb : Tables). pack (cleared tb)) (older_termed t bs n h).holds ∙ clear_same t n f bs)

-- THEOREM
pub every_store : EveryStoreClaim
every_store m bs f default =
    let t : List ℕ = m.tables in
    let n : ℕ = length m.pages in
    let fs = formed t m.pages f in
    let old : List ℕ = narrowed t in
    let q = narrowed_formed t bs n fs.packed fs.sets_ok.blank default (formed_termed t n f) in
    let k : Older old (widened old) n = older_old old (narrowed_bytes t bs) n q.0 in
    let w : widened old ≡ t = sym (converted_is old (narrowed_bytes t bs) n q.0) ∙ q.1 in (
      old,
      narrowed_length t,
      narrowed_bytes t bs,
      λ second l.
          convert_accepted old m.pages second (old_taken old n q.0) l
          ∙ ap (λ (x : List ℕ). looked_at no_counts x m.pages [])
          (ap (λ (tb : Tables). pack (cleared tb)) k.holds ∙ ap (λ (x : List ℕ). pack (cleared (unpack x))) w ∙ clear_same t n f bs),
    )
