-- DEMAND 3 on bytes: after a format and any list of events. Assumes nothing.
use mathlib.Core.Bool.{true}
use mathlib.Core.List.{◌++◌, List, ◌∷◌, []}
use mathlib.Core.Option.{some}
use mathlib.Core.Path.{ap, refl, subst, sym, ◌∙◌, ◌≡◌}
use Prim.Native.Nat.{◌/◌, ℕ, ◌≤◌}
use native.Mathlib.Omega.{arith}
use lib.ListN.{length}
use Rattle.history.proofs.Events.{KeptAll, call_given, event_goes, events_kept, held_of}
use Rattle.history.proofs.Image.{image_formed, image_store, image_of, length_pages}
use Rattle.history.proofs.Panel.{write_shows}
use Rattle.history.specs.Demand3.{Demand3, Demand3Claim, Follows, MarksRightly, blocks_of, formatted_of}
use Rattle.history.specs.Events.{Event, event_on, events_on, gave_all, panel_write, runs, runs_all}
use Rattle.history.specs.Image.{Held, Image, after, gave, store_in}
use Rattle.rules.proofs.Whole.Holds.{Holds}
use Rattle.rules.proofs.Whole.HoldsMeans.{agrees_plain, agrees_tally}
use Rattle.rules.proofs.Whole.HoldsOf.{zero_past}
use Rattle.rules.proofs.Whole.HoldsRun.{holds_start}
use Rattle.rules.specs.Agreement.{AgreesPlain, AgreesTally, Given, ZeroPast, both_give, both_given, both_run, front_of}
use Rattle.rules.specs.Calls.{Store, accepted, blank_memory, formatted}
use Rattle.rules.specs.Numbers.{Call, conditions, format, lowest, no_counts, number_of}
use Rattle.rules.specs.Plain.{Plain, plain_format}
use Rattle.rules.specs.Storage.{real}
use Rattle.rules.specs.Tally.{Both, Tally, tally_format}
use Rattle.tables.proofs.Lengths.{lengths_in}
use Rattle.tables.specs.Calls.{accepted_on, call_on, format_lengths, outcome_of}
use Rattle.tables.specs.Packed.{well_formed}
use Rattle.tables.specs.Panel.{answered, entered}

-- the format of any tables and pages of lengths that it accepts
pub format_image : (m : Image) → format_lengths (length m.tables) (length m.pages) ≡ true → after format m ≡ image_of (formatted real (blank_memory (length m.pages / 512)))
unfolding call_on number_of conditions lowest
format_image m h = rw h (unfold outcome_of accepted_on accepted in refl)

format_gives : (m : Image) → format_lengths (length m.tables) (length m.pages) ≡ true → gave format m ≡ record { answer = no_counts; bytes = [] }
unfolding call_on number_of conditions lowest front_of
format_gives m h = rw h (unfold outcome_of accepted_on accepted in refl)

-- A STORE THAT KEEPS THE INVARIANT with a plain store and a tally follows them, whatever list comes
module _ (B : ℕ) (least : 1 ≤ B) (most : B ≤ 4096) (r : Store real) (rs : List ℕ) (pl : Plain) (ta : Tally) (v : Holds B r pl ta) where
  abbrev h : Held
  h = held_of r rs

  blocks_are : blocks_of h ≡ B
  blocks_are = omega (arith, length_pages r.memory.blocks r.memory.pages, v.order.kept.blocks)

  abbrev kept : (es : List Event) → KeptAll B least most es r rs pl ta
  kept es = events_kept B least most es r rs pl ta v

  store_is : (es : List Event) → store_in (events_on es h).image ≡ (kept es).store
  store_is es = ap store_in (kept es).image ∙ image_store B most (kept es).store (kept es).holds.order

  -- what the next event marks
  marks_next : (es : List Event) (e : Event) → let here : Held = events_on es h in MarksRightly here.image (runs e here) (event_on e here).image
  marks_next es e =
      let k = kept es in
      let q : List ℕ = (events_on es h).registers in
      subst (λ (x : Image). MarksRightly x (runs e (record { image = x; registers = q })) (event_on e (record { image = x; registers = q })).image) (sym k.image)
      (event_goes B least most k.store k.holds.order e q).marks

  -- what the next command shows
  shows_next : (es : List Event) (offset value : ℕ) (c : Call) → runs (panel_write offset value) (events_on es h) ≡ some c
      → let b : Both = both_run B (runs_all es h) pl ta in
      (event_on (panel_write offset value) (events_on es h)).registers ≡ answered (both_give B c b.plain b.tally).answer (entered offset value (events_on es h).registers)
  shows_next es offset value c e =
      let k = kept es in
      let q : List ℕ = entered offset value (events_on es h).registers in
      write_shows offset value c (events_on es h) e
      ∙ ap (λ (g : Given). answered g.answer q) (ap (gave c) k.image ∙ call_given B least most k.store _ _ k.holds c)

  -- LAW
  pub follows_of : (es : List Event) → Follows h pl ta es
  follows_of es =
      let k = kept es in
      record {
        formed = ap (λ (x : Image). well_formed x.tables (length x.pages)) k.image ∙ image_formed B most k.store k.holds.order;
        plain = subst (λ n. AgreesPlain (store_in (events_on es h).image) (both_run n (runs_all es h) pl ta).plain) (sym blocks_are)
            (subst (λ x. AgreesPlain x (both_run B (runs_all es h) pl ta).plain) (sym (store_is es)) (agrees_plain B k.store _ _ k.holds));
        given = subst (λ n. gave_all es h ≡ both_given n (runs_all es h) pl ta) (sym blocks_are) k.given;
        tally = subst (λ n. AgreesTally (store_in (events_on es h).image) (both_run n (runs_all es h) pl ta).tally) (sym blocks_are)
            (subst (λ x. AgreesTally x (both_run B (runs_all es h) pl ta).tally) (sym (store_is es)) (agrees_tally B k.store _ _ k.holds));
        marks = λ before rest e d. marks_next before e;
        shows = λ before rest offset value c d. subst (λ n. let here : Held = events_on before h in let both : Both = both_run n (runs_all before h) pl ta in
            runs (panel_write offset value) here ≡ some c
            → (event_on (panel_write offset value) here).registers ≡ answered (both_give n c both.plain both.tally).answer (entered offset value here.registers))
            (sym blocks_are) (shows_next before offset value c);
        past = subst ZeroPast (sym (store_is es)) (zero_past B k.store _ _ k.holds);
      }

-- THEOREM
pub demand3 : Demand3Claim
demand3 m h r es =
    let B : ℕ = length m.pages / 512 in
    let l = lengths_in (length m.tables) (length m.pages) h in
    record {
      begins = format_gives m h;
      follows = subst (λ (x : Image). Follows (record { image = x; registers = r }) plain_format (tally_format B) es) (sym (format_image m h))
          (follows_of B l.2 l.3 (formatted real (blank_memory B)) r plain_format (tally_format B) (holds_start B l.2) es);
    }

-- What the claim says at one place of the list, from the claim alone: a claim that leaves out the list is refused here.
pub marks_at : (m : Image) (r : List ℕ) (before rest : List Event) (e : Event) → Demand3 m r (before ++ (e ∷ rest))
    → let here : Held = events_on before (formatted_of m r) in MarksRightly here.image (runs e here) (event_on e here).image
marks_at m r before rest e d = d.follows.marks before rest e refl

pub shows_at : (m : Image) (r : List ℕ) (before rest : List Event) (offset value : ℕ) (c : Call) → Demand3 m r (before ++ (panel_write offset value ∷ rest))
    → let h : Held = formatted_of m r in let here : Held = events_on before h in
    runs (panel_write offset value) here ≡ some c
    → let b : Both = both_run (blocks_of h) (runs_all before h) plain_format (tally_format (length m.pages / 512)) in
    (event_on (panel_write offset value) here).registers ≡ answered (both_give (blocks_of h) c b.plain b.tally).answer (entered offset value here.registers)
shows_at m r before rest offset value c d = d.follows.shows before rest offset value c refl
